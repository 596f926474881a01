-- When requests of two processes have nothing in common (Mazurkiewicz: independence; Godefroid: partial-order reduction).
use Rattle.std.specs.Prelude.{◌≡◌, ◌≢◌, ℕ, ◌||◌, Bool, true, false, not, Some}
use Rattle.sh_kernel_descriptors.specs.Descriptors.{description_number, reads_from, writes_to}
use Rattle.sh_kernel_descriptors.specs.Machine.{MachineState}
use Rattle.sh_kernel_descriptors.specs.Terminals.{is_terminal_target}
use Rattle.sh_kernel_descriptors.specs.declared.descriptor.DescriptorRef.{DescriptorRef}
use Rattle.sh_kernel_descriptors.specs.declared.description.Target.{Target}
use Rattle.sh_kernel_descriptors.specs.declared.description.Target.TheVariants.{File, Terminal, Null, ReadEnd, WriteEnd}
use Rattle.sh_kernel.specs.Laws.{sends, target_at}
use Rattle.sh_kernel.specs.Reaching.{is_node}
use Rattle.sh_kernel.specs.Requests.{Request}
use Rattle.sh_kernel.specs.State.{KernelState}
use Rattle.sh_laws_independence.specs.Parts.{Parts, changes, uses}

-- no part that is changed is used
pub record AreApart (changed used : Parts) : Type 0 where
  pub descriptors : (pid : ℕ) → changed.descriptors pid ≡ true → used.descriptors pid ≡ false
  pub descriptions : (number : ℕ) → changed.descriptions number ≡ true → used.descriptions number ≡ false
  pub pipes : (number : ℕ) → changed.pipes number ≡ true → used.pipes number ≡ false
  pub files : (node : ℕ) → changed.files node ≡ true → used.files node ≡ false
  pub terminal : changed.terminal ≡ true → used.terminal ≡ false

-- a request of one process and one of another are independent where neither sends a signal, and neither uses what the other changes. A read
-- sends a signal where it raises TTIN, and a write where its pipe has no reader
pub record AreIndependent (s : KernelState) (p : ℕ) (r : Request) (q : ℕ) (r' : Request) : Type 0 where
  pub processes : p ≢ q
  pub first_sends : sends s p r ≡ false
  pub second_sends : sends s q r' ≡ false
  pub first_changes : AreApart (changes s p r) (uses s q r')
  pub second_changes : AreApart (changes s q r') (uses s p r)

-- ---- where descriptors lead
-- two targets that have nothing in common: not the same file, not the ends of one pipe, and not both the terminal
abbrev pub are_elsewhere : Target → Target → Bool
are_elsewhere (File node) t = not (is_node node t)
are_elsewhere Terminal t = not (is_terminal_target t)
are_elsewhere Null t = true
are_elsewhere (ReadEnd pipe) t = not (reads_from pipe t || writes_to pipe t)
are_elsewhere (WriteEnd pipe) t = not (reads_from pipe t || writes_to pipe t)

-- the process's descriptor leads to this target
pub record LeadsTo (m : MachineState) (pid : ℕ) (name : DescriptorRef) (target : Target) : Type 0 where
  pub number : ℕ
  pub refers : description_number m.descriptors pid name ≡ Some number
  pub leads : target_at m.descriptions number ≡ Some target

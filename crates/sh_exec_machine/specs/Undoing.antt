-- What comes after redirections (2.9.1): they are undone, the newest first; the list is in the order in which they were made. Those of
-- exec stay (2.15): what they had set aside is closed.
use Rattle.std.specs.Prelude.{◌≡◌, ℕ, List, [], ◌∷◌, Bool, true, false}
use Rattle.sh_kernel.specs.State.{KernelKept, KernelState, StandsAt}
use Rattle.sh_kernel.specs.Calls.{close_call, put_back_call}
use Rattle.sh_kernel_descriptors.specs.declared.descriptor.DescriptorRef.TheVariants.{Number}
use Rattle.sh_exec_machine.specs.declared.undone.Undone.{Undone}
use Rattle.sh_exec_machine.specs.declared.undone.Undone.TheVariants.{Restore, Close}

-- what was set aside is closed; other descriptors that are set aside may have the same description, so this one gets the number 10, which no
-- script can name, and that is closed
unfoldable pub without_aside : KernelState → ℕ → (aside : ℕ) → KernelState
without_aside s pid aside = (close_call (put_back_call s pid aside 10).after pid (Number 10)).after

abbrev pub after_redirection : (stays : Bool) → ℕ → Undone → KernelState → KernelState
after_redirection false pid (Restore aside number) s = (put_back_call s pid aside number).after
after_redirection false pid (Close number) s = (close_call s pid (Number number)).after
after_redirection true pid (Restore aside number) s = without_aside s pid aside
after_redirection true pid (Close number) s = s

abbrev pub after_redirections : (stay : Bool) → ℕ → List Undone → KernelState → KernelState
after_redirections stay pid [] s = s
after_redirections stay pid (u ∷ us) s = after_redirection stay pid u (after_redirections stay pid us s)

-- these are left; ending them from here gives what ending all of them gives
pub record Left (stay : Bool) (pid : ℕ) (undone whole : List Undone) (kernel : KernelKept) (s : KernelState) : Type 0 where
  pub between : KernelState
  pub state : StandsAt kernel between
  pub rest : after_redirections stay pid undone between ≡ after_redirections stay pid whole s

-- When turns of two programs have nothing in common.
use Rattle.std.specs.Prelude.{◌≡◌, ◌≢◌, ℕ, ◌==◌, ◌&&◌, ◌||◌, List, [], ◌∷◌, Bool, true, false, not, Option, Some, None}
use Rattle.std.specs.Option.{option_and_then}
use Rattle.std.specs.List.{list_all}
use Rattle.sh_exec.specs.Processes.{is_living}
use Rattle.sh_exec.specs.State.{State, after_turn, task_of}
use Rattle.sh_exec.specs.declared.task.Task.TheVariants.{Asks}
use Rattle.sh_signal.specs.declared.signal.Signal.TheVariants as signal
use Rattle.sh_kernel_descriptors.specs.Descriptors.{description_number}
use Rattle.sh_kernel_descriptors.specs.Machine.{MachineState}
use Rattle.sh_kernel_descriptors.specs.declared.description.Target.{Target}
use Rattle.sh_kernel_descriptors.specs.declared.descriptor.DescriptorRef.{DescriptorRef}
use Rattle.sh_kernel_descriptors.specs.declared.descriptor.DescriptorRef.TheVariants.{Number}
use Rattle.sh_kernel_processes.specs.declared.target.SignalTarget.TheVariants.{Process}
use Rattle.sh_kernel.specs.Laws.{sends, target_at}
use Rattle.sh_kernel.specs.Requests.{End, Kill, Read, Request, Write}
use Rattle.sh_kernel.specs.State.{KernelState}
use Rattle.sh_laws_independence.specs.Independence.{AreIndependent, are_elsewhere}
use Rattle.sh_stock.specs.Asking.{Meaning}
use Rattle.sh_stock.specs.declared.asking.Ask.{Ask}
use Rattle.sh_stock.specs.declared.asking.Ask.TheVariants as ask

-- the request that a program makes in its turn, by descriptor 0 or 1; one that idles makes none
abbrev pub request_of : (pid : ℕ) → Ask → Option Request
request_of pid (ask.Read count) = Some (Read (Number 0) count)
request_of pid (ask.Write bytes) = Some (Write 1 bytes)
request_of pid ask.Stop = Some (Kill (Process pid) signal.Stop)
request_of pid ask.Idle = None
request_of pid (ask.End status) = Some (End status)

-- a turn without a request has nothing in common with one that sends no signal
abbrev pub RequestsAreIndependent : KernelState → (p : ℕ) → Option Request → (q : ℕ) → Option Request → Type 0
RequestsAreIndependent s p None q None = Unit {0}
RequestsAreIndependent s p None q (Some r') = sends s q r' ≡ false
RequestsAreIndependent s p (Some r) q None = sends s p r ≡ false
RequestsAreIndependent s p (Some r) q (Some r') = AreIndependent s p r q r'

-- the turns of two programs, of different processes, are independent where their requests are
pub record AreIndependentTurns (s : KernelState) (p : ℕ) (ask : Ask) (q : ℕ) (ask' : Ask) : Type 0 where
  pub processes : p ≢ q
  pub requests : RequestsAreIndependent s p (request_of p ask) q (request_of q ask')

-- both processes run programs that are about to take independent turns, and all processes of the machine live
pub record AreIndependentAt {S : Type 0} (s : State S) (p q : ℕ) : Type 0 where
  pub ask : Ask
  pub program : S
  pub first : task_of s p ≡ Some (Asks p ask program)
  pub ask' : Ask
  pub program' : S
  pub second : task_of s q ≡ Some (Asks q ask' program')
  pub living : list_all (is_living s.machine) s.tasks ≡ true
  pub independent : AreIndependentTurns s.machine p ask q ask'

-- ---- schedules: the processes that take turns, in order
abbrev pub after_turns : {S : Type 0} → Meaning S → State S → (pids : List ℕ) → State S
after_turns m s [] = s
after_turns m s (pid ∷ pids) = after_turns m (after_turn m s pid) pids

-- schedules are equivalent where one comes of the other as neighbours that are independent change places (Mazurkiewicz)
pub data AreEquivalent {S : Type 0} (m : Meaning S) : State S → List ℕ → List ℕ → Type 0 where
  Same : (s : State S) (pids : List ℕ) → AreEquivalent m s pids pids
  Swap : (s : State S) (p q : ℕ) (pids : List ℕ) → AreIndependentAt s p q → AreEquivalent m s (p ∷ q ∷ pids) (q ∷ p ∷ pids)
  Behind : (s : State S) (pid : ℕ) (one other : List ℕ) → AreEquivalent m (after_turn m s pid) one other → AreEquivalent m s (pid ∷ one) (pid ∷ other)
  Then : (s : State S) (one two three : List ℕ) → AreEquivalent m s one two → AreEquivalent m s two three → AreEquivalent m s one three

-- what two states have in common that differ only in which process took a turn last
pub record AreAlike {S : Type 0} (s t : State S) : Type 0 where
  pub machine : s.machine ≡ t.machine
  pub tasks : s.tasks ≡ t.tasks

-- ---- a test that is enough
-- where the process's descriptor leads
abbrev pub target_of : MachineState → (pid : ℕ) → DescriptorRef → Option Target
target_of m pid name = option_and_then (λ k. target_at m.descriptions k) (description_number m.descriptors pid name)

-- where the read or the write of a turn leads
abbrev pub lead_of : MachineState → (pid : ℕ) → Ask → Option Target
lead_of m pid (ask.Read count) = target_of m pid (Number 0)
lead_of m pid (ask.Write bytes) = target_of m pid (Number 1)
lead_of m pid ask.Stop = None
lead_of m pid ask.Idle = None
lead_of m pid (ask.End status) = None

abbrev pub lead_elsewhere : Option Target → Option Target → Bool
lead_elsewhere None o = false
lead_elsewhere (Some t) None = false
lead_elsewhere (Some t) (Some t') = are_elsewhere t t'

abbrev pub sends_none : KernelState → (pid : ℕ) → Option Request → Bool
sends_none s pid None = true
sends_none s pid (Some r) = not (sends s pid r)

abbrev pub is_idle : Ask → Bool
is_idle (ask.Read count) = false
is_idle (ask.Write bytes) = false
is_idle ask.Stop = false
is_idle ask.Idle = true
is_idle (ask.End status) = false

-- the turns of two processes send no signal, and one of them idles, or they read and write at different places
abbrev pub are_elsewhere_in : KernelState → (p : ℕ) → Ask → (q : ℕ) → Ask → Bool
are_elsewhere_in s p a q a' =
    not (p == q)
    && sends_none s p (request_of p a)
    && sends_none s q (request_of q a')
    && (is_idle a || is_idle a' || lead_elsewhere (lead_of s.machine p a) (lead_of s.machine q a'))

-- A program's turn is its request, and the answer to that decides what the program asks next.
use Rattle.std.proofs.Common.{◌≡◌, ℕ, List, length, false, not, ◌&&◌, Option, Some, None, Result, refl, sym, ap, ◌∙◌, subst}
use Rattle.sh_kernel_processes.specs.Processes.{is_running, status_at}
use Rattle.sh_kernel_processes.specs.declared.process.Process.{Process}
use Rattle.sh_kernel_descriptors.specs.declared.descriptor.DescriptorRef.TheVariants.{Number}
use Rattle.sh_kernel_descriptors.specs.declared.fault.KernelFault.{KernelFault}
use Rattle.sh_kernel.specs.Calls.{read_call, write_call}
use Rattle.sh_kernel.specs.Requests.{Read, Request, Write, after_request}
use Rattle.sh_kernel.specs.State.{KernelState}
use Rattle.sh_kernel.specs.Turns.{Acts, can_do}
use Rattle.sh_exec.specs.Actions.{action_for}
use Rattle.sh_exec.specs.Programs.{end_turn, read_by, read_turn, stop_turn, write_by, write_turn}
use Rattle.sh_exec.specs.Turns.{turn}
use Rattle.sh_exec.specs.declared.task.Task.TheVariants.{Asks}
use Rattle.sh_exec_machine.specs.Transfers.{give_bytes, given_by, take_bytes, taken_by}
use Rattle.sh_laws_independence.proofs.Commuting.{first_is, processes_after_both, read_answered, read_step, requests_commute, write_answered, write_step}
use Rattle.sh_laws_independence.proofs.Waiting.{flipped, reads_as_before, writes_as_before}
use Rattle.sh_laws_independence.specs.IndependentTurns.{AreIndependentTurns, RequestsAreIndependent, request_of}
use Rattle.sh_stock.specs.Asking.{Meaning}
use Rattle.sh_stock.specs.declared.asking.Ask.{Ask}
use Rattle.sh_stock.specs.declared.asking.Ask.TheVariants as ask

abbrev pub after_asked : KernelState → (pid : ℕ) → Option Request → KernelState
after_asked s pid None = s
after_asked s pid (Some r) = after_request s pid r

module _ {S : Type 0} (m : Meaning S) where
  pub machine_is : (s : KernelState) (pid : ℕ) (a : Ask) (program : S) → (turn m s (Asks pid a program)).machine ≡ after_asked s pid (request_of pid a)
  unfolding read_turn write_turn stop_turn end_turn take_bytes give_bytes
  machine_is s pid (ask.Read count) program = refl
  machine_is s pid (ask.Write bytes) program = refl
  machine_is s pid ask.Stop program = refl
  machine_is s pid ask.Idle program = refl
  machine_is s pid (ask.End status) program = refl

  asked_commute : (s : KernelState) (p q : ℕ) (o o' : Option Request) → RequestsAreIndependent s p o q o' → after_asked (after_asked s p o) q o' ≡ after_asked (after_asked s q o') p o
  asked_commute s p q None None i = refl
  asked_commute s p q None (Some r') i = refl
  asked_commute s p q (Some r) None i = refl
  asked_commute s p q (Some r) (Some r') i = requests_commute s p q r r' i

  pub machines_commute : (s : KernelState) (p q : ℕ) (a a' : Ask) (x x' : S) → AreIndependentTurns s p a q a'
      → (turn m (turn m s (Asks p a x)).machine (Asks q a' x')).machine ≡ (turn m (turn m s (Asks q a' x')).machine (Asks p a x)).machine
  machines_commute s p q a a' x x' i =
      machine_is (turn m s (Asks p a x)).machine q a' x'
      ∙ ap (λ (t : KernelState). after_asked t q (request_of q a')) (machine_is s p a x)
      ∙ asked_commute s p q (request_of p a) (request_of q a') i.requests
      ∙ sym (ap (λ (t : KernelState). after_asked t p (request_of p a)) (machine_is s q a' x'))
      ∙ sym (machine_is (turn m s (Asks q a' x')).machine p a x)

  -- ---- what the program asks next
  reads_next : (s t : KernelState) (pid count : ℕ) (x : S) → (read_call t pid (Number 0) count).answer ≡ (read_call s pid (Number 0) count).answer → (turn m t (Asks pid (ask.Read count) x)).task ≡ (turn m s (Asks pid (ask.Read count) x)).task
  unfolding read_turn take_bytes
  reads_next s t pid count x same = ap (λ (answer : Result (List ℕ) KernelFault). let p = read_by m count x (taken_by answer) in Asks pid p.ask p.program) same

  writes_next : (s t : KernelState) (pid : ℕ) (bytes : List ℕ) (x : S) → (write_call t pid 1 bytes).answer ≡ (write_call s pid 1 bytes).answer → (turn m t (Asks pid (ask.Write bytes) x)).task ≡ (turn m s (Asks pid (ask.Write bytes) x)).task
  unfolding write_turn give_bytes
  writes_next s t pid bytes x same = ap (λ (answer : Result ℕ KernelFault). let p = write_by m bytes x (given_by (length bytes) answer) in Asks pid p.ask p.program) same

  asked_next : (s : KernelState) (p q : ℕ) (a : Ask) (x : S) (o' : Option Request) → RequestsAreIndependent s p (request_of p a) q o' → (turn m (after_asked s q o') (Asks p a x)).task ≡ (turn m s (Asks p a x)).task
  asked_next s p q a x None i = refl
  asked_next s p q (ask.Read count) x (Some r') i = reads_next s (after_request s q r') p count x (read_answered s p q (Number 0) count r' i)
  asked_next s p q (ask.Write bytes) x (Some r') i = writes_next s (after_request s q r') p bytes x (write_answered s p q 1 bytes r' i)
  asked_next s p q ask.Stop x (Some r') i = let no = i.first_sends in absurd (cc)
  asked_next s p q ask.Idle x (Some r') i = refl
  asked_next s p q (ask.End status) x (Some r') i = let no = i.first_sends in absurd (cc)

  pub tasks_stay : (s : KernelState) (p q : ℕ) (a a' : Ask) (x x' : S) → AreIndependentTurns s p a q a' → (turn m (turn m s (Asks q a' x')).machine (Asks p a x)).task ≡ (turn m s (Asks p a x)).task
  tasks_stay s p q a a' x x' i = ap (λ (t : KernelState). (turn m t (Asks p a x)).task) (machine_is s q a' x') ∙ asked_next s p q a x (request_of q a') i.requests

  -- ---- whether it can take its turn
  quiet_leaves : (s : KernelState) (pid : ℕ) (a : Ask) → RequestsAreIndependent s pid (request_of pid a) pid None → (after_asked s pid (request_of pid a)).machine.processes ≡ s.machine.processes
  quiet_leaves s pid (ask.Read count) i = ap (λ (t : KernelState). t.machine.processes) (first_is s pid (Read (Number 0) count) (read_step s pid (Number 0) count i))
  quiet_leaves s pid (ask.Write bytes) i = ap (λ (t : KernelState). t.machine.processes) (first_is s pid (Write 1 bytes) (write_step s pid 1 bytes i))
  quiet_leaves s pid ask.Stop i = absurd (cc)
  quiet_leaves s pid ask.Idle i = refl
  quiet_leaves s pid (ask.End status) i = absurd (cc)

  -- neither ends or stops a process
  first_quiet : (s : KernelState) (p q : ℕ) (o o' : Option Request) → RequestsAreIndependent s p o q o' → RequestsAreIndependent s p o p None
  first_quiet s p q None None i = tt
  first_quiet s p q None (Some r') i = tt
  first_quiet s p q (Some r) None i = i
  first_quiet s p q (Some r) (Some r') i = i.first_sends

  asks_flipped : (s : KernelState) (p q : ℕ) (o o' : Option Request) → RequestsAreIndependent s p o q o' → RequestsAreIndependent s q o' p o
  asks_flipped s p q None None i = tt
  asks_flipped s p q None (Some r') i = i
  asks_flipped s p q (Some r) None i = i
  asks_flipped s p q (Some r) (Some r') i = flipped s p q r r' i

  pub turns_flipped : (s : KernelState) (p q : ℕ) (a a' : Ask) → AreIndependentTurns s p a q a' → AreIndependentTurns s q a' p a
  turns_flipped s p q a a' i = record { processes = λ e. i.processes (sym e); requests = asks_flipped s p q (request_of p a) (request_of q a') i.requests }

  pub turn_leaves_processes : (s : KernelState) (p q : ℕ) (a a' : Ask) (x : S) → AreIndependentTurns s p a q a' → (turn m s (Asks p a x)).machine.machine.processes ≡ s.machine.processes
  turn_leaves_processes s p q a a' x i =
      ap (λ (t : KernelState). t.machine.processes) (machine_is s p a x) ∙ quiet_leaves s p a (first_quiet s p q (request_of p a) (request_of q a') i.requests)

  quiet_by : (s : KernelState) (pid : ℕ) (a : Ask) (o : Option Request) → request_of pid a ≡ o → RequestsAreIndependent s pid o pid None → (after_asked s pid o).machine.processes ≡ s.machine.processes
  quiet_by s pid a o is i = subst (λ o. (after_asked s pid o).machine.processes ≡ s.machine.processes) is (quiet_leaves s pid a (subst (λ o. RequestsAreIndependent s pid o pid None) (sym is) i))

  asked_leave : (s : KernelState) (p q : ℕ) (a a' : Ask) (o o' : Option Request) → request_of p a ≡ o → request_of q a' ≡ o' → RequestsAreIndependent s p o q o' → (after_asked (after_asked s p o) q o').machine.processes ≡ s.machine.processes
  asked_leave s p q a a' None None is is' i = refl
  asked_leave s p q a a' None (Some r') is is' i = quiet_by s q a' (Some r') is' i
  asked_leave s p q a a' (Some r) None is is' i = quiet_by s p a (Some r) is i
  asked_leave s p q a a' (Some r) (Some r') is is' i = processes_after_both s p q r r' i

  pub both_leave_processes : (s : KernelState) (p q : ℕ) (a a' : Ask) (x x' : S) → AreIndependentTurns s p a q a' → (turn m (turn m s (Asks p a x)).machine (Asks q a' x')).machine.machine.processes ≡ s.machine.processes
  both_leave_processes s p q a a' x x' i =
      ap (λ (t : KernelState). t.machine.processes) (machine_is (turn m s (Asks p a x)).machine q a' x')
      ∙ ap (λ (t : KernelState). (after_asked t q (request_of q a')).machine.processes) (machine_is s p a x)
      ∙ asked_leave s p q a a' (request_of p a) (request_of q a') refl refl i.requests

  acts_still : (s t : KernelState) (pid : ℕ) → t.machine.processes ≡ s.machine.processes → can_do t pid Acts ≡ can_do s pid Acts
  unfolding can_do
  acts_still s t pid same = ap (λ (ps : List Process). is_running (status_at ps pid) && not false) same

  asked_can : (s : KernelState) (p q : ℕ) (a a' : Ask) → RequestsAreIndependent s p (request_of p a) q (request_of q a') → (o' : Option Request) → request_of q a' ≡ o' → can_do (after_asked s q o') p (action_for a) ≡ can_do s p (action_for a)
  asked_can s p q a a' i None is = refl
  asked_can s p q (ask.Read count) a' i (Some r') is = reads_as_before s q p r' (Number 0) count (flipped s p q (Read (Number 0) count) r' (rw is at i))
  asked_can s p q (ask.Write bytes) a' i (Some r') is = writes_as_before s q p r' 1 bytes (flipped s p q (Write 1 bytes) r' (rw is at i))
  asked_can s p q ask.Stop a' i (Some r') is = let no = (first_quiet s p q (request_of p ask.Stop) (request_of q a') i) in absurd (cc)
  asked_can s p q ask.Idle a' i (Some r') is = acts_still s (after_request s q r') p (ap (λ (o : Option Request). (after_asked s q o).machine.processes) (sym is) ∙ quiet_leaves s q a' (first_quiet s q p (request_of q a') None (asks_flipped s p q None (request_of q a') i)))
  asked_can s p q (ask.End status) a' i (Some r') is = let no = (first_quiet s p q (request_of p (ask.End status)) (request_of q a') i) in absurd (cc)

  pub can_still : (s : KernelState) (p q : ℕ) (a a' : Ask) (x' : S) → AreIndependentTurns s p a q a' → can_do (turn m s (Asks q a' x')).machine p (action_for a) ≡ can_do s p (action_for a)
  can_still s p q a a' x' i = ap (λ (t : KernelState). can_do t p (action_for a)) (machine_is s q a' x') ∙ asked_can s p q a a' i.requests (request_of q a') refl

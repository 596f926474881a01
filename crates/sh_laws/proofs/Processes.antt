-- Turns of processes, shells and programs.
use Rattle.std.proofs.Common.{◌≡◌, ℕ, List, [], ◌∷◌, Option, Some, None, option_map, refl, sym, subst}
use Rattle.sh_exec.specs.Programs.{ask_turn, end_turn, read_turn, stop_turn, write_turn}
use Rattle.sh_exec.specs.Starting.{NamedStart, located_for, start_by, start_named, start_turn, started_by, starting_in, stock_start, begun}
use Rattle.sh_exec_actions.specs.declared.action.ProgramStart.{ProgramStart}
use Rattle.sh_exec.specs.Turns.{Turned, by_shell, made_task, runs_by, started_in, turn}
use Rattle.sh_exec.specs.declared.start.Started.{Started}
use Rattle.sh_exec.specs.declared.start.Started.TheVariants.{Becomes, Refused}
use Rattle.sh_exec.specs.Tasks.{pid_of}
use Rattle.sh_exec.specs.declared.task.Task.{Task}
use Rattle.sh_exec.specs.declared.task.Task.TheVariants.{Runs, Asks}
use Rattle.sh_builtin_shell.specs.declared.shell.Shell.{Shell}
use Rattle.sh_files.specs.declared.search.Located.{Located}
use Rattle.sh_files.specs.declared.search.Located.TheVariants as located
use Rattle.sh_exec_forms.specs.Running.{InterpreterState, active_of}
use Rattle.sh_kernel_descriptors.specs.declared.descriptor.DescriptorRef.TheVariants.{Number}
use Rattle.sh_kernel.specs.Requests.{End, Kill, StartProgram}
use Rattle.sh_kernel.specs.State.{KernelState}
use Rattle.sh_kernel_processes.specs.declared.target.SignalTarget.TheVariants.{Process}
use Rattle.sh_signal.specs.declared.signal.Signal.TheVariants.{Stop}
use Rattle.sh_stock.specs.Asking.{Meaning}
use Rattle.sh_stock.specs.declared.asking.Ask.{Ask}
use Rattle.sh_stock.specs.declared.asking.Ask.TheVariants as ask
use Rattle.sh_laws.specs.Requests.{directory_of, made_number, number_of}
use Rattle.sh_laws.proofs.TurnRequests.{IsForked, IsKept, give_keeps, take_keeps}
use Rattle.sh_laws.proofs.TurnSteps.{shell_keeps, own_signals_keep}
use Rattle.sh_exec_shell.specs.Forks as shell
use Rattle.sh_exec_shell.specs.Reduction.{shell_turn}
use Rattle.sh_kernel.specs.Calls.{start_call}

-- a process that was made is called by the number that its shell has
numbers_same : (S : Type 0) (child : Option InterpreterState) → made_number child ≡ number_of (option_map (made_task {S = S}) child)
numbers_same S None = refl
numbers_same S (Some interpreter) = refl

module _ {S : Type 0} (m : Meaning S) (directory : List ℕ) (pid : ℕ) (P : Option ℕ → KernelState → Type 0) (kept : (made : Option ℕ) → IsKept directory pid (P made)) (forks : IsForked pid P) where
  own_kept : (n : ℕ) → n ≡ pid → IsKept directory n (P None)
  own_kept n e = subst (λ q. IsKept directory q (P None)) (sym e) (kept None)

  begun_keeps : (s : KernelState) (shell : Shell) → shell.pid ≡ pid → P None s → P None (begun s shell)
  begun_keeps s shell e p =
      own_signals_keep directory pid (P None) (kept None) (start_call s shell.pid).after shell e (own_kept shell.pid e s StartProgram tt p)

  stocked_keeps : (s : KernelState) (shell : Shell) (i : NamedStart) (o : Option S) → shell.pid ≡ pid → P None s → P None (stock_start m s shell i o).machine
  stocked_keeps s shell i None e p = p
  stocked_keeps s shell i (Some program) e p = begun_keeps s shell e p

  started_keeps : (s : KernelState) (shell : Shell) (invocation : NamedStart) (l : Located) → shell.pid ≡ pid → P None s → P None (started_by m s shell invocation l).machine
  started_keeps s shell invocation located.Missing e p = p
  started_keeps s shell invocation located.Unfit e p = p
  started_keeps s shell invocation (located.Stock program) e p = stocked_keeps s shell invocation (m.start program invocation.operands) e p
  started_keeps s shell invocation (located.Script path text) e p = begun_keeps s shell e p

  start_by_keeps : (s : KernelState) (shell : Shell) (start : ProgramStart) (fields : List (List ℕ)) → shell.pid ≡ pid → P None s → P None (start_by m s shell start fields).machine
  unfolding start_named
  start_by_keeps s shell start [] e p = p
  start_by_keeps s shell start (name ∷ operands) e p =
      started_keeps s shell (record { name = name; operands = operands; ends_shell = start.ends_shell }) (located_for s.machine.files shell.vars name) e p

  ask_keeps : (s : KernelState) (n : ℕ) (a : Ask) (program : S) → n ≡ pid → P None s → P None (ask_turn m s n a program).machine
  unfolding read_turn write_turn stop_turn end_turn
  ask_keeps s n (ask.Read count) program e p = take_keeps directory n (P None) (own_kept n e) s (Number 0) count p
  ask_keeps s n (ask.Write bytes) program e p = give_keeps directory n (P None) (own_kept n e) s 1 bytes p
  ask_keeps s n ask.Stop program e p = own_kept n e s (Kill (Process n) Stop) tt p
  ask_keeps s n ask.Idle program e p = p
  ask_keeps s n (ask.End status) program e p = own_kept n e s (End status) tt p

  abbrev Leaves : Turned S → Type 0
  Leaves t = P (number_of t.child) t.machine

  by_shell_keeps : (t : shell.Turned) → P (made_number t.child) t.left.machine → Leaves (by_shell t)
  by_shell_keeps t p = subst (λ made. P made t.left.machine) (numbers_same S t.child) p

  started_in_keeps : (s : KernelState) (interpreter : InterpreterState) (x : Started S) → P None s → Leaves (started_in s interpreter x)
  started_in_keeps s interpreter (Becomes task) p = p
  started_in_keeps s interpreter (Refused place) p = p

  runs_keeps : (s : KernelState) (interpreter : InterpreterState) (o : Option ProgramStart) → interpreter.shell.pid ≡ pid → interpreter.shell.vars.directory ≡ directory → P None s → Leaves (runs_by m s interpreter o)
  runs_keeps s interpreter None e d p = by_shell_keeps (shell_turn s interpreter) (shell_keeps directory pid P kept forks s interpreter e d p).1
  runs_keeps s interpreter (Some start) e d p =
      let l = start_turn m s interpreter.shell start in started_in_keeps l.machine interpreter l.next (start_by_keeps s interpreter.shell start start.fields e p)

  pub turn_keeps : (s : KernelState) (task : Task S) → pid_of task ≡ pid → directory_of task ≡ directory → P None s → Leaves (turn m s task)
  turn_keeps s (Runs interpreter) e d p = runs_keeps s interpreter (starting_in (active_of interpreter.run)) e d p
  turn_keeps s (Asks n a program) e d p = ask_keeps s n a program e p

-- ---- a process keeps its number
module _ {S : Type 0} (m : Meaning S) where
  -- what takes the shell's place has its number
  abbrev Numbered : Shell → Started S → Type 0
  Numbered shell (Becomes task) = pid_of task ≡ shell.pid
  Numbered shell (Refused place) = Unit {0}

  stocked_number : (s : KernelState) (shell : Shell) (i : NamedStart) (o : Option S) → Numbered shell (stock_start m s shell i o).next
  stocked_number s shell i None = tt
  stocked_number s shell i (Some program) = refl

  started_number : (s : KernelState) (shell : Shell) (invocation : NamedStart) (l : Located) → Numbered shell (started_by m s shell invocation l).next
  started_number s shell invocation located.Missing = tt
  started_number s shell invocation located.Unfit = tt
  started_number s shell invocation (located.Stock program) = stocked_number s shell invocation (m.start program invocation.operands)
  started_number s shell invocation (located.Script path text) = refl

  start_number : (s : KernelState) (shell : Shell) (start : ProgramStart) (fields : List (List ℕ)) → Numbered shell (start_by m s shell start fields).next
  unfolding start_named
  start_number s shell start [] = tt
  start_number s shell start (name ∷ operands) =
      started_number s shell (record { name = name; operands = operands; ends_shell = start.ends_shell }) (located_for s.machine.files shell.vars name)

  started_in_number : (s : KernelState) (interpreter : InterpreterState) (x : Started S) → Numbered interpreter.shell x → pid_of (started_in s interpreter x).task ≡ interpreter.shell.pid
  started_in_number s interpreter (Becomes task) e = e
  started_in_number s interpreter (Refused place) e = refl

  runs_number : (s : KernelState) (interpreter : InterpreterState) (o : Option ProgramStart) → pid_of (runs_by m s interpreter o).task ≡ interpreter.shell.pid
  runs_number s interpreter None =
      (shell_keeps interpreter.shell.vars.directory interpreter.shell.pid (λ made t. Unit {0}) (λ made t r from p. tt) (λ t before writes own control is_foreground others p. tt) s interpreter refl refl tt).0
  runs_number s interpreter (Some start) =
      let l = start_turn m s interpreter.shell start in started_in_number l.machine interpreter l.next (start_number s interpreter.shell start start.fields)

  pub turn_number : (s : KernelState) (task : Task S) → pid_of (turn m s task).task ≡ pid_of task
  turn_number s (Runs interpreter) = runs_number s interpreter (starting_in (active_of interpreter.run))
  turn_number s (Asks n a program) = refl

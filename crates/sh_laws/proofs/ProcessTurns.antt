-- A turn of a process that stands before an action leaves it before one.
use Rattle.std.proofs.Common.{ℕ, List, [], ◌∷◌, Option, Some, None, option_map}
use Rattle.sh_exec.specs.Starting.{NamedStart, located_for, start_by, start_named, start_turn, started_by, starting_in, stock_start}
use Rattle.sh_exec_actions.specs.declared.action.ProgramStart.{ProgramStart}
use Rattle.sh_exec.specs.Turns.{Turned, made_task, runs_by, started_in, turn}
use Rattle.sh_exec.specs.declared.start.Started.{Started}
use Rattle.sh_exec.specs.declared.start.Started.TheVariants.{Becomes, Refused}
use Rattle.sh_exec.specs.declared.task.Task.{Task}
use Rattle.sh_exec.specs.declared.task.Task.TheVariants.{Runs, Asks}
use Rattle.sh_builtin_shell.specs.declared.shell.Shell.{Shell}
use Rattle.sh_files.specs.declared.search.Located.{Located}
use Rattle.sh_files.specs.declared.search.Located.TheVariants as located
use Rattle.sh_exec_actions.specs.declared.action.Action.{Action}
use Rattle.sh_exec_actions.specs.declared.action.Active.{Active}
use Rattle.sh_exec_actions.specs.declared.action.Active.TheVariants.{Acting, Calling, Evaluating, Next, Done, Leaving}
use Rattle.sh_exec_forms.specs.Running.{Run, At, In, InterpreterState, active_of, with_active}
use Rattle.sh_kernel.specs.State.{KernelState}
use Rattle.sh_exec_shell.specs.Reduction.{shell_turn}
use Rattle.sh_laws.proofs.ShellTurns.{shell_stands}
use Rattle.sh_laws.specs.BeforeAction.{ActiveStands, ChildStands, InterpreterStands, IsBeforeAction, IsNext, MadeStands, PlaceHolds, RunStands, TaskStands}
use Rattle.sh_stock.specs.Asking.{Meaning}

-- ---- an action is next
active_next : (active : Active) → ActiveStands active → IsNext active
active_next (Next place) s = tt
active_next (Acting invocation fields) s = s
active_next (Calling body fields) s = s
active_next (Evaluating how text) s = s
active_next (Done status) s = s
active_next (Leaving leave) s = s

run_next : (run : Run) → RunStands run → IsNext (active_of run)
run_next (At active) s = active_next active s
run_next (In form run) s = run_next run s.1

pub task_next : {S : Type 0} (task : Task S) → TaskStands task → IsBeforeAction task
task_next (Runs interpreter) s = run_next interpreter.run s.0
task_next (Asks pid a program) s = tt

pub made_stands : (S : Type 0) (child : Option InterpreterState) → ChildStands child → MadeStands (option_map (made_task {S = S}) child)
made_stands S None c = c
made_stands S (Some interpreter) c = c

module _ {S : Type 0} (m : Meaning S) where
  -- ---- a program is started, or the shell goes on inside its forms
  placed_stands : (run : Run) (place : Action) → RunStands run → PlaceHolds place → RunStands (with_active run (Next place))
  placed_stands (At active) place h p = p
  placed_stands (In form run) place h p = (h.0, placed_stands run place h.1 p)

  abbrev StartedStands : Started S → Type 0
  StartedStands (Becomes task) = TaskStands task
  StartedStands (Refused place) = PlaceHolds place

  stocked_stands : (s : KernelState) (shell : Shell) (i : NamedStart) (o : Option S) → StartedStands (stock_start m s shell i o).next
  stocked_stands s shell i None = tt
  stocked_stands s shell i (Some program) = tt

  started_stands : (s : KernelState) (shell : Shell) (invocation : NamedStart) (l : Located) → StartedStands (started_by m s shell invocation l).next
  started_stands s shell invocation located.Missing = tt
  started_stands s shell invocation located.Unfit = tt
  started_stands s shell invocation (located.Stock program) = stocked_stands s shell invocation (m.start program invocation.operands)
  started_stands s shell invocation (located.Script path text) = (tt, tt)

  start_stands : (s : KernelState) (shell : Shell) (start : ProgramStart) (fields : List (List ℕ)) → StartedStands (start_by m s shell start fields).next
  unfolding start_named
  start_stands s shell start [] = tt
  start_stands s shell start (name ∷ operands) =
      started_stands s shell (record { name = name; operands = operands; ends_shell = start.ends_shell }) (located_for s.machine.files shell.vars name)

  abbrev TurnedStands : Turned S → Type 0
  TurnedStands t = TaskStands t.task × MadeStands t.child

  started_in_stands : (s : KernelState) (interpreter : InterpreterState) (x : Started S) → InterpreterStands interpreter → StartedStands x → TurnedStands (started_in s interpreter x)
  started_in_stands s interpreter (Becomes task) h t = (t, tt)
  started_in_stands s interpreter (Refused place) h p = ((placed_stands interpreter.run place h.0 p, h.1), tt)

  runs_stand : (s : KernelState) (interpreter : InterpreterState) (o : Option ProgramStart) → InterpreterStands interpreter → TurnedStands (runs_by m s interpreter o)
  runs_stand s interpreter None h =
      let stands = shell_stands s interpreter h in (stands.0, made_stands S (shell_turn s interpreter).child stands.1)
  runs_stand s interpreter (Some start) h =
      let l = start_turn m s interpreter.shell start in started_in_stands l.machine interpreter l.next h (start_stands s interpreter.shell start start.fields)

  pub turn_stands : (s : KernelState) (task : Task S) → TaskStands task → TurnedStands (turn m s task)
  turn_stands s (Runs interpreter) h = runs_stand s interpreter (starting_in (active_of interpreter.run)) h
  turn_stands s (Asks pid a program) h = (tt, tt)

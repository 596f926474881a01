-- One turn of a process: a shell is reduced, or becomes the program that it starts; a program takes its turn.
use Rattle.std.specs.Prelude.{◌≡◌, ℕ, Option, Some, None, option_map}
use Rattle.sh_exec.specs.Programs.{Left, ProgramState, ask_turn}
use Rattle.sh_exec.specs.Starting.{program_in, start_turn, starting_in}
use Rattle.sh_exec.specs.declared.start.Started.{Started}
use Rattle.sh_exec.specs.declared.start.Started.TheVariants.{Becomes, Refused}
use Rattle.sh_exec.specs.declared.task.Task.{Task}
use Rattle.sh_exec_actions.specs.declared.action.Active.TheVariants.{Next}
use Rattle.sh_exec_actions.specs.declared.action.ProgramStart.{ProgramStart}
use Rattle.sh_exec.specs.declared.task.Task.TheVariants.{Runs, Asks}
use Rattle.sh_exec_shell.specs.Forks as shell
use Rattle.sh_exec_shell.specs.Reduction.{shell_turn}
use Rattle.sh_exec_shell.specs.Running.{InterpreterState, active_of, with_active}
use Rattle.sh_kernel.specs.State.{KernelKept, KernelState, StandsAt}
use Rattle.sh_stock.specs.Asking.{Meaning}

-- the machine and the process after its turn, and the process that it made
pub record Turned (S : Type 0) : Type 0 where
  pub machine : KernelState
  pub task : Task S
  pub child : Option (Task S)

abbrev pub alone : {S : Type 0} → KernelState → Task S → Turned S
alone s task = record { machine = s; task = task; child = None }

-- a start that is refused leaves the shell inside its forms
abbrev pub started_in : {S : Type 0} → KernelState → InterpreterState → Started S → Turned S
started_in s interpreter (Becomes task) = alone s task
started_in s interpreter (Refused place) = alone s (Runs (record interpreter { run = with_active interpreter.run (Next place) }))

-- what is in a shell's process then
abbrev pub task_behind : {S : Type 0} → InterpreterState → Option (Task S) → Task S
task_behind interpreter None = Runs interpreter
task_behind interpreter (Some task) = task

-- a process that a shell made is a shell
abbrev pub made_task : {S : Type 0} → InterpreterState → Task S
made_task interpreter = Runs interpreter

abbrev pub by_shell : {S : Type 0} → shell.Turned → Turned S
by_shell t = record {
  machine = t.left.machine;
  task = Runs (record { shell = t.left.shell; run = t.left.run });
  child = option_map made_task t.child;
}

abbrev pub by_program : {S : Type 0} → ℕ → Left (ProgramState S) → Turned S
by_program pid l = record { machine = l.machine; task = program_in pid l.next; child = None }

abbrev pub runs_by : {S : Type 0} → Meaning S → KernelState → InterpreterState → Option ProgramStart → Turned S
runs_by m s interpreter (Some start) = let l = start_turn m s interpreter.shell start in started_in l.machine interpreter l.next
runs_by m s interpreter None = by_shell (shell_turn s interpreter)

abbrev pub turn : {S : Type 0} → Meaning S → KernelState → Task S → Turned S
turn m s (Runs interpreter) = runs_by m s interpreter (starting_in (active_of interpreter.run))
turn m s (Asks pid ask program) = by_program pid (ask_turn m s pid ask program)

-- the kernel and the process are what a turn leaves, and this process was made
pub record IsTurned {S : Type 0} (kernel : KernelKept) (next : Task S) (made : Option (Task S)) (t : Turned S) : Type 0 where
  pub state : StandsAt kernel t.machine
  pub task_is : next ≡ t.task
  pub child : made ≡ t.child

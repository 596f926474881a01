-- A program's start in the process of a shell (XCU 2.9.1.4, 2.9.1.6): the search, and what the process then is.
use Rattle.std.specs.Prelude.{ℕ, Bool, false, List, [], ◌∷◌, Option, Some, None, codes, unwrap_or}
use Rattle.sh_exec_actions.specs.Preparing.{failing}
use Rattle.sh_exec_actions.specs.Statuses as statuses
use Rattle.sh_builtin_shell.specs.declared.shell.Shell.{Shell}
use Rattle.sh_aliases.specs.Aliases.{no_aliases}
use Rattle.sh_builtin_environment.specs.TrapMaps.{none_set}
use Rattle.sh_exec.specs.Programs.{Left, ProgramState, asking, with_next}
use Rattle.sh_exec.specs.declared.start.Started.{Started}
use Rattle.sh_exec.specs.declared.start.Started.TheVariants.{Becomes, Refused}
use Rattle.sh_exec.specs.declared.task.Task.{Task}
use Rattle.sh_exec.specs.declared.task.Task.TheVariants.{Asks, Runs}
use Rattle.sh_exec_parts.specs.Messages.{cannot_execute, message, not_found}
use Rattle.sh_exec_parts.specs.Scripts.{script_environment}
use Rattle.sh_files.specs.Nodes.{FileMap}
use Rattle.sh_files.specs.Search.{located_of}
use Rattle.sh_files.specs.declared.search.Located.{Located}
use Rattle.sh_files.specs.declared.search.Located.TheVariants as located
use Rattle.sh_exec_actions.specs.declared.action.Active.{Active}
use Rattle.sh_exec_actions.specs.declared.action.Active.TheVariants.{Acting, Calling, Evaluating, Next, Done, Leaving}
use Rattle.sh_exec_actions.specs.declared.action.ProgramStart.{ProgramStart}
use Rattle.sh_exec_actions.specs.declared.action.Action.{Action}
use Rattle.sh_exec_actions.specs.declared.action.Action.TheVariants.{Reading, Prompting, ReadInput, Expanding, ReadSubstitution, WaitSubstitution, Asking, WaitForJob, Redirecting, Forking, Starting, ForkStage, ForkList, AssignLoopVariable, Defining, Waiting, Writing, Trapping, Ending}
use Rattle.sh_exec_shell.specs.Running.{At}
use Rattle.sh_exec_shell.specs.Signals.{after_own_signals}
use Rattle.sh_kernel.specs.Calls.{start_call}
use Rattle.sh_kernel.specs.State.{KernelState}
use Rattle.sh_kernel_processes.specs.Processes.{parent_at}
use Rattle.sh_kernel_processes.specs.Groups.{member_at}
use Rattle.sh_kernel_processes.specs.Sets.{no_signals}
use Rattle.sh_kernel_processes.specs.declared.set.SignalSet.{SignalSet}
use Rattle.std.specs.Option.{option_map_or}
use Rattle.sh_stock.specs.Asking.{Meaning}
use Rattle.sh_stock.specs.declared.asking.Answer.TheVariants as answer
use Rattle.sh_vars.specs.Environment.{Environment, value_of}

-- a shell that does this alone
abbrev pub shell_at : {S : Type 0} → Shell → Action → Task S
shell_at shell place = Runs (record { shell = shell; run = At (Next place) })

-- a program in this process
abbrev pub program_in : {S : Type 0} → ℕ → ProgramState S → Task S
program_in pid p = Asks pid p.ask p.program

-- the name of a command and its arguments, and whether the shell ends where it can't be started
pub record NamedStart : Type 0 where
  pub name : List ℕ
  pub operands : List (List ℕ)
  pub ends_shell : Bool

-- the shell says why there is no program, and ends with this status, or the command has it
abbrev pub failure : {S : Type 0} → KernelState → (ends_shell : Bool) → List ℕ → ℕ → Left (Started S)
failure s ends_shell text status = with_next s (Refused (Writing (message text) (failing ends_shell status)))

-- what the shell had set aside is closed, and the process doesn't ignore what an interactive shell ignores by itself (2.11)
abbrev pub begun : KernelState → Shell → KernelState
begun s shell = after_own_signals (start_call s shell.pid).after shell shell.pid

-- a program of the stock takes its first turn
abbrev pub stock_start : {S : Type 0} → Meaning S → KernelState → Shell → NamedStart → Option S → Left (Started S)
stock_start m s shell start (Some program) =
    with_next (begun s shell) (Becomes (program_in shell.pid (asking m program answer.Started)))
stock_start m s shell start None = failure s start.ends_shell (cannot_execute start.name) statuses.cannot_execute

abbrev pub parent_of : KernelState → ℕ → ℕ
parent_of s pid = unwrap_or (parent_at s.machine.processes pid) 1

-- a script is run by a new shell in this process, which has no functions, no aliases, no traps and no jobs, and knows no processes; what the process ignored
-- before it goes on ignoring (2.15 trap)
abbrev pub ignored_by : KernelState → (pid : ℕ) → SignalSet
ignored_by s pid = option_map_or (λ m. m.ignored) (member_at s.members pid) no_signals

abbrev pub script_shell : KernelState → Shell → List ℕ → List (List ℕ) → Shell
script_shell s shell path operands =
    record { pid = shell.pid; vars = script_environment shell.vars path operands shell.pid (parent_of s shell.pid); functions = []; aliases = no_aliases; traps = none_set; known = []; background = []; jobs = []; is_first = false; fixed = ignored_by (begun s shell) shell.pid }

abbrev pub script_start : {S : Type 0} → KernelState → Shell → List ℕ → List ℕ → List (List ℕ) → Left (Started S)
script_start s shell path text operands =
    with_next (begun s shell) (Becomes (shell_at (script_shell s shell path operands) (Reading text 0)))

abbrev pub started_by : {S : Type 0} → Meaning S → KernelState → Shell → NamedStart → Located → Left (Started S)
started_by m s shell start located.Missing = failure s start.ends_shell (not_found start.name) statuses.not_found
started_by m s shell start located.Unfit = failure s start.ends_shell (cannot_execute start.name) statuses.cannot_execute
started_by m s shell start (located.Stock program) =
    stock_start m s shell start (m.start program start.operands)
started_by m s shell start (located.Script path text) = script_start s shell path text start.operands

-- where a name leads from the shell's directory, by its PATH
abbrev pub located_for : FileMap → Environment → List ℕ → Located
located_for files env name = located_of files env.directory (value_of env (codes "PATH")) name

-- the program of a command name
unfoldable pub start_named : {S : Type 0} → Meaning S → KernelState → Shell → NamedStart → Left (Started S)
start_named m s shell start =
    started_by m s shell start (located_for s.machine.files shell.vars start.name)

abbrev pub start_by : {S : Type 0} → Meaning S → KernelState → Shell → ProgramStart → List (List ℕ) → Left (Started S)
start_by m s shell start [] = with_next s (Refused (Starting start))
start_by m s shell start (name ∷ operands) = start_named m s shell (record { name = name; operands = operands; ends_shell = start.ends_shell })

abbrev pub start_turn : {S : Type 0} → Meaning S → KernelState → Shell → ProgramStart → Left (Started S)
start_turn m s shell start = start_by m s shell start start.fields

-- what a shell is about to start
abbrev pub starting_at : Action → Option ProgramStart
starting_at (Starting start) = Some start
starting_at _ = None

abbrev pub starting_in : Active → Option ProgramStart
starting_in (Next place) = starting_at place
starting_in _ = None

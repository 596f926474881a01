-- What a process does in its next turn, as far as it may have to wait.
use Rattle.std.specs.Prelude.{ℕ, List, length, Bool, false, Option, Some, None, if◌then◌else◌}
use Rattle.sh_builtin_outcome.specs.declared.rest.BuiltinRest.{BuiltinRest}
use Rattle.sh_builtin_outcome.specs.declared.rest.BuiltinRest.TheVariants.{Reads, Waits, Kills, Continues}
use Rattle.sh_builtin_shell.specs.declared.shell.Shell.{Shell}
use Rattle.sh_builtin_wait.specs.Waits.{processes_of}
use Rattle.sh_builtin_wait.specs.declared.run.Awaited.{Awaited}
use Rattle.sh_builtin_wait.specs.declared.run.Awaited.TheVariants.{All, Operand}
use Rattle.sh_exec.specs.declared.task.Task.{Task}
use Rattle.sh_exec.specs.declared.task.Task.TheVariants.{Runs, Asks}
use Rattle.sh_exec_actions.specs.declared.action.Active.{Active}
use Rattle.sh_exec_actions.specs.declared.action.Active.TheVariants.{Acting, Calling, Evaluating, Next, Done, Leaving}
use Rattle.sh_exec_actions.specs.declared.action.Action.{Action}
use Rattle.sh_exec_actions.specs.declared.action.Action.TheVariants.{Reading, Prompting, ReadInput, Expanding, ReadSubstitution, WaitSubstitution, Asking, WaitForJob, Redirecting, Forking, Starting, ForkStage, ForkList, AssignLoopVariable, Defining, Waiting, Writing, Trapping, Ending}
use Rattle.sh_exec_shell.specs.Running.{active_of}
use Rattle.sh_exec_shell.specs.Signals.{pending_signal}
use Rattle.sh_exec_shell.specs.Traps.{is_called}
use Rattle.sh_kernel.specs.State.{KernelState}
use Rattle.sh_kernel.specs.declared.watch.Cause.{Cause}
use Rattle.sh_kernel.specs.declared.watch.Cause.TheVariants as cause
use Rattle.sh_kernel.specs.Turns.{Action as Asked, Acts, ReadsBy, WaitsFor, WaitsUntraced, WritesBy}
use Rattle.sh_kernel_descriptors.specs.declared.descriptor.DescriptorRef.TheVariants.{Aside, Number}
use Rattle.sh_signal.specs.declared.signal.Signal.{Signal}
use Rattle.sh_stock.specs.declared.asking.Ask.{Ask}
use Rattle.sh_stock.specs.declared.asking.Ask.TheVariants as ask

-- a shell reads by the end of a pipe that was set aside, as long as there is one
abbrev pub collecting : Option ℕ → Asked
collecting None = Acts
collecting (Some aside) = ReadsBy (Aside aside)

-- the built-in wait waits for what an operand names, or for the processes of all asynchronous lists, unless the shell has caught a signal (XCU wait, 2.12)
abbrev pub awaiting : (caught : Option Signal) → (background : List ℕ) → Awaited → Asked
awaiting (Some signal) background awaited = Acts
awaiting None background All = WaitsFor background
awaiting None background (Operand wait) = WaitsFor (processes_of wait.target)

-- what a built-in asks; a signal is sent at once
abbrev pub asking : (caught : Option Signal) → (background : List ℕ) → BuiltinRest → Asked
asking caught background (Reads reader) = ReadsBy (Number 0)
asking caught background (Waits awaited) = awaiting caught background awaited
asking caught background (Kills kill) = Acts
asking caught background (Continues continuation) = Acts

-- with job control a shell waits for the processes of a pipeline also until they are stopped (2.11)
abbrev pub waiting : (children : List ℕ) → (job : Option (List ℕ)) → Asked
waiting children None = WaitsFor children
waiting children (Some text) = WaitsUntraced children

abbrev pub action_at : (caught : Option Signal) → (background : List ℕ) → Action → Asked
action_at caught background (Reading rest status) = Acts
action_at caught background (Prompting beginning) = Acts
action_at caught background (ReadInput beginning) = ReadsBy (Number 0)
action_at caught background (Expanding wants pending) = Acts
action_at caught background (ReadSubstitution substitution) = collecting substitution.aside
action_at caught background (WaitSubstitution substitution) = WaitsFor substitution.children
action_at caught background (Asking rest) = asking caught background rest
action_at caught background (WaitForJob wait) = WaitsUntraced wait.processes
action_at caught background (Redirecting p) = Acts
action_at caught background (Forking p) = Acts
action_at caught background (Starting start) = Acts
action_at caught background (ForkStage stages) = Acts
action_at caught background (ForkList list) = Acts
action_at caught background (AssignLoopVariable series) = Acts
action_at caught background (Defining definition) = Acts
action_at caught background (Waiting wait) = waiting wait.children wait.job
action_at caught background (Writing piece finish) = WritesBy piece.descriptor (length piece.bytes)
action_at caught background (Trapping status) = Acts
action_at caught background (Ending status) = Acts

abbrev pub action_in : (caught : Option Signal) → (background : List ℕ) → Active → Asked
action_in caught background (Next place) = action_at caught background place
action_in caught background _ = Acts

-- a program reads by descriptor 0, and writes by descriptor 1
abbrev pub action_for : Ask → Asked
action_for (ask.Read count) = ReadsBy (Number 0)
action_for (ask.Write bytes) = WritesBy 1 (length bytes)
action_for ask.Stop = Acts
action_for ask.Idle = Acts
action_for (ask.End status) = Acts

-- ---- where a shell has a trap to take, or INT has it drop what it does (2.11, 2.12), it waits for nothing; the first shell's prompt never waits, since
-- its descriptor 2 doesn't lead to a pipe
abbrev pub is_called_in : KernelState → Shell → Active → Bool
is_called_in s shell (Next place) = is_called s shell place
is_called_in s shell _ = false

abbrev pub shell_action : KernelState → Shell → Active → Asked
shell_action s shell active =
    if is_called_in s shell active then Acts else action_in (pending_signal s shell) shell.background active

-- what a program would be blocked at: its read or its write. A shell may be called by a signal, so nothing is told of it
abbrev pub cause_for : Ask → Option Cause
cause_for (ask.Read count) = Some (cause.Reading (Number 0))
cause_for (ask.Write bytes) = Some (cause.Writing 1 (length bytes))
cause_for ask.Stop = None
cause_for ask.Idle = None
cause_for (ask.End status) = None

abbrev pub cause_of : {S : Type 0} → Task S → Option Cause
cause_of (Runs interpreter) = None
cause_of (Asks pid ask program) = cause_for ask

abbrev pub action_of : {S : Type 0} → KernelState → Task S → Asked
action_of s (Runs interpreter) = shell_action s interpreter.shell (active_of interpreter.run)
action_of s (Asks pid ask program) = action_for ask

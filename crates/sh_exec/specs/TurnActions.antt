-- What a process does in its next turn, by the place at which it stands, in the standard's words; the action of a trap on a signal may come
-- before it.
use Rattle.std.specs.Option.{is_some}
use Rattle.std.specs.Prelude.{List, ℕ, length, Bool, false, Option, Some, None}
use Rattle.sh_builtin_outcome.specs.Rests.{ask_of}
use Rattle.sh_builtin_outcome.specs.declared.rest.Ask.{Ask as Asked}
use Rattle.sh_builtin_outcome.specs.declared.rest.Ask.TheVariants as asked
use Rattle.sh_builtin_shell.specs.declared.shell.Shell.{Shell}
use Rattle.sh_exec_shell.specs.Traps.{drops_before, trap_before}
use Rattle.sh_kernel.specs.State.{KernelState}
use Rattle.sh_exec.specs.declared.task.Task.{Task}
use Rattle.sh_exec.specs.declared.task.Task.TheVariants.{Runs, Asks}
use Rattle.sh_exec.specs.declared.turn_action.TurnAction.{TurnAction}
use Rattle.sh_exec.specs.declared.turn_action.TurnAction.TheVariants as turn
use Rattle.sh_exec_actions.specs.declared.action.Active.{Active}
use Rattle.sh_exec_actions.specs.declared.action.Active.TheVariants.{Acting, Calling, Evaluating, Next, Done, Leaving}
use Rattle.sh_exec_actions.specs.declared.action.Action.{Action}
use Rattle.sh_exec_actions.specs.declared.action.Action.TheVariants.{Reading, Prompting, ReadInput, Expanding, ReadSubstitution, WaitSubstitution, Asking, WaitForJob, Redirecting, Forking, Starting, ForkStage, ForkList, AssignLoopVariable, Defining, Waiting, Writing, Trapping, Ending}
use Rattle.sh_exec_actions.specs.declared.action.ToExpand.{ToExpand}
use Rattle.sh_exec_actions.specs.declared.action.ToExpand.TheVariants.{Words, Values, Redirects, ForWords, CaseWord, CasePattern}
use Rattle.sh_exec_shell.specs.Running.{active_of}
use Rattle.sh_stock.specs.declared.asking.Ask.{Ask}
use Rattle.sh_stock.specs.declared.asking.Ask.TheVariants as ask

abbrev pub turn_action_of_expansion : ToExpand → TurnAction
turn_action_of_expansion (Values command) = turn.Assign
turn_action_of_expansion _ = turn.Expand

-- what a built-in asks
abbrev pub turn_action_of_ask : Asked → TurnAction
turn_action_of_ask asked.Read = turn.Read
turn_action_of_ask asked.Wait = turn.Wait
turn_action_of_ask asked.Signal = turn.SendSignal
turn_action_of_ask asked.Continue = turn.SendSignal

abbrev pub turn_action_at : Action → TurnAction
turn_action_at (Reading rest status) = turn.ReadCommand
turn_action_at (Prompting beginning) = turn.Prompt
turn_action_at (ReadInput beginning) = turn.Read
turn_action_at (Expanding wants pending) = turn_action_of_expansion wants
turn_action_at (ReadSubstitution substitution) = turn.ReadSubstitution
turn_action_at (WaitSubstitution substitution) = turn.Wait
turn_action_at (Asking rest) = turn_action_of_ask (ask_of rest)
turn_action_at (WaitForJob wait) = turn.Wait
turn_action_at (Redirecting p) = turn.Redirect
turn_action_at (Forking p) = turn.Fork
turn_action_at (Starting start) = turn.StartProgram
turn_action_at (ForkStage stages) = turn.Fork
turn_action_at (ForkList list) = turn.Fork
turn_action_at (AssignLoopVariable series) = turn.SetLoopVariable
turn_action_at (Defining definition) = turn.DefineFunction
turn_action_at (Waiting wait) = turn.Wait
turn_action_at (Writing piece finish) = turn.Write piece.descriptor (length piece.bytes)
turn_action_at (Trapping status) = turn.TakeTrap
turn_action_at (Ending status) = turn.End status

-- between two turns a shell stands before an action, so no turn begins at another place
abbrev pub turn_action_in : Active → Option TurnAction
turn_action_in (Next place) = Some (turn_action_at place)
turn_action_in _ = None

-- a program reads by descriptor 0, and writes by descriptor 1
abbrev pub turn_action_for : Ask → TurnAction
turn_action_for (ask.Read count) = turn.Read
turn_action_for (ask.Write bytes) = turn.Write 1 (length bytes)
turn_action_for ask.Stop = turn.Stop
turn_action_for ask.Idle = turn.Idle
turn_action_for (ask.End status) = turn.End status

abbrev pub turn_action_of : {S : Type 0} → Task S → Option TurnAction
turn_action_of (Runs interpreter) = turn_action_in (active_of interpreter.run)
turn_action_of (Asks pid ask program) = Some (turn_action_for ask)

-- ---- whether the action of a trap on a signal comes before that (2.12)
abbrev pub takes_trap_in : KernelState → Shell → Active → Bool
takes_trap_in s shell (Next place) = is_some (trap_before s shell place)
takes_trap_in s shell _ = false

abbrev pub takes_trap : {S : Type 0} → KernelState → Task S → Bool
takes_trap s (Runs interpreter) = takes_trap_in s interpreter.shell (active_of interpreter.run)
takes_trap s (Asks pid ask program) = false

-- ---- whether INT has an interactive shell drop what it does before that
abbrev pub drops_in : KernelState → Shell → Active → Bool
drops_in s shell (Next place) = drops_before s shell place
drops_in s shell _ = false

abbrev pub drops : {S : Type 0} → KernelState → Task S → Bool
drops s (Runs interpreter) = drops_in s interpreter.shell (active_of interpreter.run)
drops s (Asks pid ask program) = false

-- ---- the words of the program that is started in the next turn, its name first
abbrev pub words_at : Action → Option (List (List ℕ))
words_at (Starting start) = Some start.fields
words_at _ = None

abbrev pub words_in : Active → Option (List (List ℕ))
words_in (Next place) = words_at place
words_in _ = None

abbrev pub starting_words : {S : Type 0} → Task S → Option (List (List ℕ))
starting_words (Runs interpreter) = words_in (active_of interpreter.run)
starting_words (Asks pid ask program) = None

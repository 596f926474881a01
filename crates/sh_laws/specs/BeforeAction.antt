-- A process that stands before its next action: a program that asks for something, or a shell at whose place an action is next. The laws
-- keep more of a shell than that: all of the syntax that it holds, its functions too, begins with an action wherever it is entered
-- (`Beginnings.antt`), so that it stands before an action after its next turn too.
use Rattle.std.specs.Prelude.{◌≡◌, List, [], ◌∷◌, Option, Some, None}
use Rattle.sh_builtin_shell.specs.Functions.{Named}
use Rattle.sh_exec.specs.declared.task.Task.{Task}
use Rattle.sh_exec.specs.declared.task.Task.TheVariants.{Runs, Asks}
use Rattle.sh_exec.specs.declared.turn_action.TurnAction.{TurnAction}
use Rattle.sh_exec.specs.TurnActions.{turn_action_of}
use Rattle.sh_exec_command.specs.declared.found.Found.{Found}
use Rattle.sh_exec_command.specs.declared.found.Found.TheVariants as found
use Rattle.sh_exec_actions.specs.declared.action.Active.{Active}
use Rattle.sh_exec_actions.specs.declared.action.Active.TheVariants.{Acting, Calling, Evaluating, Next, Done, Leaving}
use Rattle.sh_exec_actions.specs.declared.action.Action.{Action}
use Rattle.sh_exec_actions.specs.declared.action.Action.TheVariants.{Reading, Prompting, ReadInput, Expanding, ReadSubstitution, WaitSubstitution, Asking, WaitForJob, Redirecting, Forking, Starting, ForkStage, ForkList, AssignLoopVariable, Defining, Waiting, Writing, Trapping, Ending}
use Rattle.sh_exec_actions.specs.declared.action.Role.{Role}
use Rattle.sh_exec_actions.specs.declared.action.Role.TheVariants.{NoCommandName, Builtin, Function, Program, Exec, Compound, Subshell}
use Rattle.sh_expand.specs.Answers.{Pending}
use Rattle.sh_exec_actions.specs.declared.action.CaseBranch.{CaseBranch}
use Rattle.sh_exec_actions.specs.declared.action.Substitution.{Substitution}
use Rattle.sh_exec_actions.specs.declared.action.ToExpand.{ToExpand}
use Rattle.sh_exec_actions.specs.declared.action.ToExpand.TheVariants.{Words, Values, Redirects, ForWords, CaseWord, CasePattern}
use Rattle.sh_exec_settling.specs.Forms.{Acted}
use Rattle.sh_exec_forms.specs.Running.{InterpreterState, Run, At, In, active_of}
use Rattle.sh_exec_actions.specs.declared.form.Form.{Form}
use Rattle.sh_exec_actions.specs.declared.form.Form.TheVariants.{Text, Input, Commands, Joined, Negated, Restoring, If, Condition, Body, ForBody, Call, Evaluation, Trapped, Interruption, FailuresIgnored}
use Rattle.sh_exec_actions.specs.declared.form.Loop.{Loop}
use Rattle.sh_exec_parts.specs.declared.simple.Assignment.{Assignment}
use Rattle.sh_expand.specs.Parts.{parts_of}
use Rattle.sh_expand.specs.declared.wanted.Wanted.{Wanted}
use Rattle.sh_laws.specs.Beginnings.{AndOrBegins, CommandBegins, CommandsBegin, ConnectedBegin, ElseBegins, ElseIfsBegin, ItemsBegin, ListBegins, PartsBegin}
use Rattle.sh_syntax.specs.declared.tree.Command.TheViews as view

-- ---- an action is next
abbrev pub IsNext : Active → Type 0
IsNext (Next place) = Unit {0}
IsNext (Acting invocation fields) = ⊥
IsNext (Calling body fields) = ⊥
IsNext (Evaluating how text) = ⊥
IsNext (Done status) = ⊥
IsNext (Leaving leave) = ⊥

abbrev pub IsBeforeAction : {S : Type 0} → Task S → Type 0
IsBeforeAction (Runs interpreter) = IsNext (active_of interpreter.run)
IsBeforeAction (Asks pid ask program) = Unit {0}

abbrev pub AreBeforeActions : {S : Type 0} → List (Task S) → Type 0
AreBeforeActions [] = Unit {0}
AreBeforeActions (task ∷ tasks) = IsBeforeAction task × AreBeforeActions tasks

-- what each of them does in its next turn can be told
abbrev pub HaveActions : {S : Type 0} → List (Task S) → Type 0
HaveActions [] = Unit {0}
HaveActions (task ∷ tasks) = ((action : TurnAction) × (turn_action_of task ≡ Some action)) × HaveActions tasks

-- ---- what a place holds begins with an action
abbrev pub AssignmentsHold : List Assignment → Type 0
AssignmentsHold [] = Unit {0}
AssignmentsHold (assignment ∷ others) = PartsBegin (parts_of assignment.value) × AssignmentsHold others

abbrev pub RoleHolds : Role → Type 0
RoleHolds NoCommandName = Unit {0}
RoleHolds (Builtin invocation) = Unit {0}
RoleHolds (Function body) = CommandBegins body
RoleHolds Program = Unit {0}
RoleHolds (Exec is_command is_special) = Unit {0}
RoleHolds (Compound command) = CommandBegins command
RoleHolds (Subshell list) = ItemsBegin (view.out-CompoundList list).items

abbrev pub BranchesHold : List CaseBranch → Type 0
BranchesHold [] = Unit {0}
BranchesHold (branch ∷ others) =
    (PartsBegin (parts_of branch.pattern) × ItemsBegin (view.out-CompoundList branch.body).items) × BranchesHold others

abbrev pub WantsHold : ToExpand → Type 0
WantsHold (Words command in_place status) = CommandBegins command
WantsHold (Values p) = RoleHolds p.role × AssignmentsHold p.assignments
WantsHold (Redirects command) = CommandBegins command
WantsHold (ForWords command) = CommandBegins command
WantsHold (CaseWord command) = CommandBegins command
WantsHold (CasePattern case) = BranchesHold case.branches

-- the words of an expansion that waits
abbrev pub WantedBegin : List Wanted → Type 0
WantedBegin [] = Unit {0}
WantedBegin (w ∷ ws) = PartsBegin (parts_of w.parts) × WantedBegin ws

abbrev pub PendingHolds : Option Pending → Type 0
PendingHolds None = Unit {0}
PendingHolds (Some pending) = WantedBegin pending.words

abbrev pub SubstitutionHolds : Substitution → Type 0
SubstitutionHolds substitution = WantsHold substitution.wants × WantedBegin substitution.pending.words

-- a process is made for a program alone
abbrev pub PlaceHolds : Action → Type 0
PlaceHolds (Reading rest status) = Unit {0}
PlaceHolds (Prompting beginning) = Unit {0}
PlaceHolds (ReadInput beginning) = Unit {0}
PlaceHolds (Expanding wants pending) = WantsHold wants × PendingHolds pending
PlaceHolds (ReadSubstitution substitution) = SubstitutionHolds substitution
PlaceHolds (WaitSubstitution substitution) = SubstitutionHolds substitution
PlaceHolds (Asking rest) = Unit {0}
PlaceHolds (WaitForJob wait) = Unit {0}
PlaceHolds (Redirecting p) = RoleHolds p.role × AssignmentsHold p.assignments
PlaceHolds (Forking p) = (p.role ≡ Program) × AssignmentsHold p.assignments
PlaceHolds (Starting start) = Unit {0}
PlaceHolds (ForkStage stages) = CommandsBegin stages.commands
PlaceHolds (ForkList list) = AndOrBegins list
PlaceHolds (AssignLoopVariable series) = ListBegins series.body
PlaceHolds (Defining definition) = CommandBegins definition
PlaceHolds (Waiting wait) = Unit {0}
PlaceHolds (Writing piece finish) = Unit {0}
PlaceHolds (Trapping status) = Unit {0}
PlaceHolds (Ending status) = Unit {0}

-- ---- and so does what a form holds
abbrev pub LoopHolds : Loop → Type 0
LoopHolds loop = ListBegins loop.condition × ListBegins loop.body

abbrev pub FormHolds : Form → Type 0
FormHolds (Text rest) = Unit {0}
FormHolds (Input rest) = Unit {0}
FormHolds (Commands items) = ItemsBegin items
FormHolds (Joined others) = ConnectedBegin others
FormHolds Negated = Unit {0}
FormHolds (Restoring undo) = Unit {0}
FormHolds (If branches) = ListBegins branches.body × ElseIfsBegin branches.else_ifs × ElseBegins branches.else_body
FormHolds (Condition loop last) = LoopHolds loop
FormHolds (Body loop) = LoopHolds loop
FormHolds (ForBody series) = ListBegins series.body
FormHolds (Call positional) = Unit {0}
FormHolds (Evaluation how) = Unit {0}
FormHolds (Trapped status) = Unit {0}
FormHolds (Interruption status next) = PlaceHolds next
FormHolds FailuresIgnored = Unit {0}

-- ---- what runs has an action next, and holds only such syntax
abbrev pub ActiveStands : Active → Type 0
ActiveStands (Next place) = PlaceHolds place
ActiveStands (Acting invocation fields) = ⊥
ActiveStands (Calling body fields) = ⊥
ActiveStands (Evaluating how text) = ⊥
ActiveStands (Done status) = ⊥
ActiveStands (Leaving leave) = ⊥

abbrev pub RunStands : Run → Type 0
RunStands (At active) = ActiveStands active
RunStands (In form run) = FormHolds form × RunStands run

-- ---- and so do a shell's functions
abbrev pub FunctionsHold : List Named → Type 0
FunctionsHold [] = Unit {0}
FunctionsHold (function ∷ others) = CommandBegins function.1 × FunctionsHold others

abbrev pub InterpreterStands : InterpreterState → Type 0
InterpreterStands interpreter = RunStands interpreter.run × FunctionsHold interpreter.shell.functions

abbrev pub ActedStands : Acted → Type 0
ActedStands a = RunStands a.run × FunctionsHold a.shell.functions

abbrev pub ChildStands : Option InterpreterState → Type 0
ChildStands None = Unit {0}
ChildStands (Some child) = InterpreterStands child

abbrev pub TaskStands : {S : Type 0} → Task S → Type 0
TaskStands (Runs interpreter) = InterpreterStands interpreter
TaskStands (Asks pid ask program) = Unit {0}

abbrev pub MadeStands : {S : Type 0} → Option (Task S) → Type 0
MadeStands None = Unit {0}
MadeStands (Some task) = TaskStands task

abbrev pub TasksStand : {S : Type 0} → List (Task S) → Type 0
TasksStand [] = Unit {0}
TasksStand (task ∷ tasks) = TaskStands task × TasksStand tasks

-- ---- the command that is found in a text begins with an action
abbrev pub FoundBegins : Found → Type 0
FoundBegins found.Nothing = Unit {0}
FoundBegins (found.Command tree rest) = ItemsBegin (view.out-CompoundList tree).items
FoundBegins (found.Fault refusal rest) = Unit {0}

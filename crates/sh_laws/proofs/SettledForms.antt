-- Forms are settled to an action, where all that they hold begins with one.
use Rattle.std.proofs.Common.{ℕ, zero, suc, List, [], ◌∷◌, Option, Bool, true, false, refl, sym, subst}
use Rattle.std.specs.Prelude.{drop, if◌then◌else◌, not, ◌&&◌, ◌||◌}
use Rattle.sh_builtin.specs.Invocations.{invoked}
use Rattle.sh_builtin_outcome.specs.declared.outcome.TextOrigin.{TextOrigin}
use Rattle.sh_builtin_outcome.specs.declared.outcome.TextRun.{TextRun}
use Rattle.sh_builtin_outcome.specs.declared.outcome.TextOrigin.TheVariants as origin
use Rattle.sh_builtin_shell.specs.declared.shell.Shell.{Shell}
use Rattle.sh_builtin_outcome.specs.declared.outcome.Completion.{Completion}
use Rattle.sh_builtin_outcome.specs.declared.outcome.Completion.TheVariants as completion
use Rattle.sh_builtin_outcome.specs.declared.outcome.Outcome.{Outcome}
use Rattle.sh_builtin_outcome.specs.declared.outcome.Leave.{Leave}
use Rattle.sh_builtin_outcome.specs.declared.outcome.Leave.TheVariants as leave
use Rattle.sh_builtin_outcome.specs.declared.builtin.Builtin.{Builtin}
use Rattle.sh_exec_actions.specs.ForLoops.{given_by, rest_of_series}
use Rattle.sh_exec_actions.specs.Statuses.{unexcused}
use Rattle.sh_exec_actions.specs.declared.beginning.Beginning.{Beginning}
use Rattle.sh_exec_actions.specs.declared.status.CommandStatus.{CommandStatus}
use Rattle.sh_exec_actions.specs.declared.action.Action.{Action}
use Rattle.sh_exec_actions.specs.declared.action.Action.TheVariants.{Reading, Prompting, ReadInput, Expanding, ReadSubstitution, WaitSubstitution, Asking, WaitForJob, Redirecting, Forking, Starting, ForkStage, ForkList, AssignLoopVariable, Defining, Waiting, Writing, Trapping, Ending}
use Rattle.sh_exec_actions.specs.declared.action.Active.{Active}
use Rattle.sh_exec_actions.specs.declared.action.Active.TheVariants.{Acting, Calling, Evaluating, Next, Done, Leaving}
use Rattle.sh_exec_actions.specs.declared.action.ForLoop.{ForLoop}
use Rattle.sh_exec_actions.specs.declared.action.Report.{Report}
use Rattle.sh_exec_actions.specs.declared.action.Undo.{Undo}
use Rattle.sh_exec_forms.proofs.Entered.{entered_with}
use Rattle.sh_exec_settling.specs.Builtins.{builtin_effect, call, effect_at, evaluation, performed}
use Rattle.sh_exec_signals.specs.Reporting.{at_completion, behind, output_of, reported, said}
use Rattle.sh_exec_forms.specs.Entering.{items_run, list_run, pipeline_run, with_others}
use Rattle.sh_exec_settling.specs.Forms.{Acted, after, after_by, after_call, after_leave, after_status, after_text, at_action, behind_condition, branch, condition_run, connected_run, goes_on, loop_left, onward, otherwise, returned, runs, undone, ended_within, exits_on_error, is_failure, left_within, within, within_run, behind_status, dropped_in_text, goes_on_reading, input_left, place_left}
use Rattle.sh_exec_forms.specs.Frames.{ends_action, may_return, has_loop, is_failure_ignored, last_for, levels_left}
use Rattle.sh_exec_forms.specs.Running.{Run, At, In}
use Rattle.sh_exec_actions.specs.declared.form.Branches.{Branches}
use Rattle.sh_exec_actions.specs.declared.form.Form.{Form}
use Rattle.sh_exec_actions.specs.declared.form.Form.TheVariants.{Text, Input, Commands, Joined, Negated, Restoring, If, Condition, Body, ForBody, Call, Evaluation, Trapped, Interruption, FailuresIgnored}
use Rattle.sh_exec_actions.specs.declared.form.Loop.{Loop}
use Rattle.sh_kernel.specs.State.{KernelState}
use Rattle.sh_syntax.specs.declared.tree.Command.{Command}
use Rattle.sh_syntax.specs.declared.tree.Command.TheViews as view
use Rattle.sh_syntax.specs.declared.tree.CompoundList.{CompoundList}
use Rattle.sh_syntax.specs.declared.tree.Connected.{Connected}
use Rattle.sh_syntax.specs.declared.tree.ElseIf.{ElseIf}
use Rattle.sh_syntax.specs.declared.tree.ListItem.{ListItem}
use Rattle.sh_laws.specs.BeforeAction.{ActiveStands, FormHolds, LoopHolds, PlaceHolds, RunStands}
use Rattle.sh_laws.specs.Beginnings.{CommandBegins, ConnectedBegin, ElseBegins, ElseIfsBegin, ItemsBegin, ListBegins, more_connected, more_else_ifs, more_items, no_else, no_else_ifs, no_items, no_more, with_else}
use Rattle.sh_laws.proofs.BegunCommands.{command_stands, item_stands, list_stands, others_stand, pipeline_stands}
use Rattle.sh_laws.proofs.CommandTurns.{ActiveHolds, choose}
use Rattle.sh_exec_actions.specs.Beginnings.{not_begun}
use Rattle.sh_exec_signals.specs.Prompting.{has_prompt, input_action}

-- ---- what runs holds only what begins with an action
abbrev pub Holds : Run → Type 0
Holds (At active) = ActiveHolds active
Holds (In form run) = FormHolds form × Holds run

-- it is settled too: an action is next, or all of it is done or left
abbrev pub ActiveSettled : Active → Type 0
ActiveSettled (Next place) = PlaceHolds place
ActiveSettled (Acting invocation fields) = ⊥
ActiveSettled (Calling body fields) = ⊥
ActiveSettled (Evaluating how text) = ⊥
ActiveSettled (Done status) = Unit {0}
ActiveSettled (Leaving leave) = Unit {0}

abbrev pub Settled : Run → Type 0
Settled (At active) = ActiveSettled active
Settled (In form run) = FormHolds form × RunStands run

stands_active : (active : Active) → ActiveStands active → ActiveSettled active
stands_active (Next place) s = s
stands_active (Acting invocation fields) s = s
stands_active (Calling body fields) s = s
stands_active (Evaluating how text) s = s
stands_active (Done status) s = tt
stands_active (Leaving leave) s = tt

pub stands_settled : (run : Run) → RunStands run → Settled run
stands_settled (At active) s = stands_active active s
stands_settled (In form run) s = s

active_holds : (active : Active) → ActiveStands active → ActiveHolds active
active_holds (Next place) s = s
active_holds (Acting invocation fields) s = tt
active_holds (Calling body fields) s = absurd s
active_holds (Evaluating how text) s = tt
active_holds (Done status) s = tt
active_holds (Leaving leave) s = tt

pub stands_holds : (run : Run) → RunStands run → Holds run
stands_holds (At active) s = active_holds active s
stands_holds (In form run) s = (s.0, stands_holds run s.1)

pub settled_active : (active : Active) → ActiveSettled active → ActiveHolds active
settled_active (Next place) s = s
settled_active (Acting invocation fields) s = tt
settled_active (Calling body fields) s = absurd s
settled_active (Evaluating how text) s = tt
settled_active (Done status) s = tt
settled_active (Leaving leave) s = tt

pub settled_holds : (run : Run) → Settled run → Holds run
settled_holds (At active) s = settled_active active s
settled_holds (In form run) s = (s.0, stands_holds run s.1)

-- ---- lists
pub items_settled : (items : List ListItem) (status : CommandStatus) → ItemsBegin items → Settled (items_run items status)
items_settled _ status no_items = tt
items_settled _ status (more_items item others a r) = subst Settled (sym (entered_with (item ∷ others) item others status refl)) (r, item_stands item a)

connected_settled : (others : List Connected) (status : CommandStatus) → ConnectedBegin others → Settled (connected_run others status)
connected_settled _ status no_more = tt
connected_settled _ status (more_connected next others p r) =
    choose Settled (goes_on (view.out-Connected next).connector status.status) (with_others others (pipeline_run (view.out-Connected next).pipeline)) (connected_run others status)
    (λ e. stands_settled (with_others others (pipeline_run (view.out-Connected next).pipeline)) (others_stand others (pipeline_run (view.out-Connected next).pipeline) r (pipeline_stands (view.out-Connected next).pipeline p)))
    (λ e. connected_settled others status r)

-- ---- `if`
otherwise_settled : (else_ifs : List ElseIf) (else_body : Option CompoundList) → ElseIfsBegin else_ifs → ElseBegins else_body → Settled (otherwise else_ifs else_body)
otherwise_settled _ _ no_else_ifs no_else = tt
otherwise_settled _ _ no_else_ifs (with_else body b) = stands_settled (list_run body) (list_stands body b)
otherwise_settled _ else_body (more_else_ifs next others c b r) o = ((b, r, o), list_stands (view.out-ElseIf next).condition c)

branch_settled : (branches : Branches) (status : ℕ) → FormHolds (If branches) → Settled (branch branches status)
unfolding branch
branch_settled branches zero h = stands_settled (list_run branches.body) (list_stands branches.body h.0)
branch_settled branches (suc n) h = otherwise_settled branches.else_ifs branches.else_body h.1 h.2

-- ---- loops
condition_settled : (loop : Loop) (status : CommandStatus) → LoopHolds loop → Settled (condition_run loop status)
unfolding condition_run
condition_settled loop status h = (h, list_stands loop.condition h.0)

body_settled : (loop : Loop) (last : CommandStatus) (status : ℕ) → LoopHolds loop → Settled (behind_condition loop last status)
unfolding behind_condition
body_settled loop last status h = choose Settled (runs loop.kind status) (In (Body loop) (list_run loop.body)) (At (Done last)) (λ e. (h, list_stands loop.body h.1)) (λ e. tt)

abbrev ActedSettled : Acted → Type 0
ActedSettled a = Settled a.run

given_by_settled : (series : ForLoop) (left : List (List ℕ)) (status : CommandStatus) → ListBegins series.body → ActiveSettled (given_by series left status)
given_by_settled series [] status b = tt
given_by_settled series (value ∷ left) status b = b

left_settled : (looped : Bool) (l : Leave) (s : KernelState) (shell : Shell) (next : Run) → Settled next → ActedSettled (loop_left s shell next (onward looped l))
left_settled looped (leave.Exit status) s shell next p = tt
left_settled looped (leave.Fault status) s shell next p = tt
left_settled looped (leave.Return status) s shell next p = tt
left_settled looped (leave.Break zero) s shell next p = tt
left_settled false (leave.Break (suc inside)) s shell next p = tt
left_settled true (leave.Break (suc inside)) s shell next p = tt
left_settled looped (leave.Continue zero) s shell next p = p
left_settled false (leave.Continue (suc inside)) s shell next p = p
left_settled true (leave.Continue (suc inside)) s shell next p = tt

-- ---- what follows a built-in: the next action, a text that is to be run, or all is done or left
abbrev pub ActiveFollows : Active → Type 0
ActiveFollows (Next place) = PlaceHolds place
ActiveFollows (Acting invocation fields) = ⊥
ActiveFollows (Calling body fields) = ⊥
ActiveFollows (Evaluating how text) = Unit {0}
ActiveFollows (Done status) = Unit {0}
ActiveFollows (Leaving leave) = Unit {0}

completion_follows : (status : Completion) → ActiveFollows (at_completion status)
completion_follows (completion.Done status) = tt
completion_follows (completion.Left l) = tt
completion_follows (completion.Runs how text) = tt
completion_follows (completion.Asks rest) = tt
completion_follows (completion.Foreground wait) = tt

said_follows : (messages : List (List ℕ)) (status : Completion) → ActiveFollows (said messages status)
said_follows [] status = completion_follows status
said_follows (message ∷ messages) status = tt

reported_follows : (report : Report) → ActiveFollows (reported report)
reported_follows report = said_follows report.messages report.status

output_follows : (builtin : Builtin) (bytes : List ℕ) (report : Report) → ActiveFollows (output_of builtin bytes report)
output_follows builtin [] report = reported_follows report
output_follows builtin (byte ∷ bytes) report = tt

behind_follows : (builtin : Builtin) (outcome : Outcome) → ActiveFollows (behind builtin outcome)
behind_follows builtin outcome = output_follows builtin outcome.out _

follows_holds : (active : Active) → ActiveFollows active → ActiveHolds active
follows_holds (Next place) f = f
follows_holds (Acting invocation fields) f = tt
follows_holds (Calling body fields) f = absurd f
follows_holds (Evaluating how text) f = tt
follows_holds (Done status) f = tt
follows_holds (Leaving leave) f = tt

pub outcome_holds : (builtin : Builtin) (outcome : Outcome) → ActiveHolds (behind builtin outcome)
outcome_holds builtin outcome = follows_holds (behind builtin outcome) (behind_follows builtin outcome)

pub said_holds : (messages : List (List ℕ)) (status : Completion) → ActiveHolds (said messages status)
said_holds messages status = follows_holds (said messages status) (said_follows messages status)

pub reported_holds : (report : Report) → ActiveHolds (reported report)
reported_holds report = follows_holds (reported report) (reported_follows report)

-- a text or a function is entered
evaluation_settled : (levels : ℕ) (shell : Shell) (how : TextRun) (text : List ℕ) → Settled (evaluation levels shell how text).run
evaluation_settled zero shell how text = tt
evaluation_settled (suc levels) shell how text = (tt, tt)

call_settled : (levels : ℕ) (shell : Shell) (body : Command) (arguments : List (List ℕ)) → CommandBegins body → Settled (call levels shell body arguments).run
call_settled zero shell body arguments b = tt
call_settled (suc levels) shell body arguments b = (tt, command_stands body b body b)

performed_settled : (levels : ℕ) (shell : Shell) (active : Active) → ActiveFollows active → Settled (performed levels shell active).run
performed_settled levels shell (Next place) f = f
performed_settled levels shell (Acting invocation fields) f = f
performed_settled levels shell (Calling body fields) f = absurd f
performed_settled levels shell (Evaluating how text) f = evaluation_settled levels shell how text
performed_settled levels shell (Done status) f = tt
performed_settled levels shell (Leaving leave) f = tt

-- ---- a form after what is in it
undone_settled : (undo : Undo) (s : KernelState) (shell : Shell) (run : Run) → Settled run → ActedSettled (undone undo s shell run)
unfolding undone
undone_settled undo s shell run p = p

ended_within_settled : (errexit ignored : Bool) (ended : CommandStatus) → ActiveSettled (ended_within errexit ignored ended)
ended_within_settled errexit true ended = tt
ended_within_settled false false ended = tt
ended_within_settled true false ended =
    choose ActiveSettled (is_failure ended && not ended.excused) (Leaving (leave.Exit ended.status)) (Done ended) (λ e. tt) (λ e. tt)

returned_settled : (around : List Form) (shell : Shell) (status : ℕ) → ActiveSettled (returned around shell status)
returned_settled around shell status = ended_within_settled (exits_on_error shell) (is_failure_ignored around) (unexcused status)

call_left_settled : (around : List Form) (l : Leave) (shell : Shell) → ActiveSettled (after_call around l shell)
call_left_settled around (leave.Exit status) shell = tt
call_left_settled around (leave.Fault status) shell = tt
call_left_settled around (leave.Return status) shell = returned_settled around shell status
call_left_settled around (leave.Break inside) shell = tt
call_left_settled around (leave.Continue inside) shell = tt

text_left_settled : (around : List Form) (origin : TextOrigin) (l : Leave) (shell : Shell) → ActiveSettled (after_text around origin l shell)
text_left_settled around origin.Eval l shell = tt
text_left_settled around origin.DotScript l shell = call_left_settled around l shell

-- ---- the commands of an interactive shell: a prompt or a read is next
prompted_holds : (b : Bool) (beginning : Beginning) → PlaceHolds (if b then Prompting beginning else ReadInput beginning)
prompted_holds true beginning = tt
prompted_holds false beginning = tt

pub input_action_holds : (s : KernelState) (shell : Shell) (beginning : Beginning) → PlaceHolds (input_action s shell beginning)
unfolding input_action
input_action_holds s shell beginning = prompted_holds (has_prompt s shell beginning.text) beginning

input_left_settled : (s : KernelState) (shell : Shell) (l : Leave) → ActedSettled (input_left s shell l)
input_left_settled s shell (leave.Exit status) = tt
input_left_settled s shell (leave.Fault status) = input_action_holds s (behind_status shell status) (not_begun [])
input_left_settled s shell (leave.Return status) = tt
input_left_settled s shell (leave.Break inside) = tt
input_left_settled s shell (leave.Continue inside) = tt

dropped_settled : (goes_on : Bool) (s : KernelState) (shell : Shell) (rest : List ℕ) (l : Leave) → ActedSettled (dropped_in_text goes_on s shell rest l)
dropped_settled true s shell rest (leave.Exit status) = tt
dropped_settled true s shell rest (leave.Fault status) = tt
dropped_settled true s shell rest (leave.Return status) = tt
dropped_settled true s shell rest (leave.Break inside) = tt
dropped_settled true s shell rest (leave.Continue inside) = tt
dropped_settled false s shell rest l = tt

place_left_settled : (around : List Form) (s : KernelState) (shell : Shell) (next : Action) (l : Leave) → PlaceHolds next → ActedSettled (place_left around s shell next l)
place_left_settled around s shell (Reading rest status) l h = dropped_settled (goes_on_reading around shell) s shell rest l
place_left_settled around s shell (Prompting beginning) l h = tt
place_left_settled around s shell (ReadInput beginning) l h = input_left_settled s shell l
place_left_settled around s shell (Expanding wants pending) l h = tt
place_left_settled around s shell (ReadSubstitution substitution) l h = tt
place_left_settled around s shell (WaitSubstitution substitution) l h = tt
place_left_settled around s shell (Asking rest) l h = tt
place_left_settled around s shell (WaitForJob wait) l h = tt
place_left_settled around s shell (Redirecting p) l h = tt
place_left_settled around s shell (Forking p) l h = tt
place_left_settled around s shell (Starting start) l h = tt
place_left_settled around s shell (ForkStage stages) l h = tt
place_left_settled around s shell (ForkList list) l h = tt
place_left_settled around s shell (AssignLoopVariable series) l h =
    left_settled (has_loop around) l s shell (At (rest_of_series series (unexcused 0))) (given_by_settled series series.values (unexcused 0) h)
place_left_settled around s shell (Defining definition) l h = tt
place_left_settled around s shell (Waiting wait) l h = tt
place_left_settled around s shell (Writing piece finish) l h = tt
place_left_settled around s shell (Trapping status) l h = tt
place_left_settled around s shell (Ending status) l h = tt

status_settled : (around : List Form) (form : Form) (s : KernelState) (shell : Shell) (status : CommandStatus) → FormHolds form → ActedSettled (after_status around form s shell status)
status_settled around (Text rest) s shell status h = tt
status_settled around (Input rest) s shell status h = input_action_holds s (behind_status shell status.status) (not_begun rest)
status_settled around (Commands items) s shell status h = items_settled items status h
status_settled around (Joined others) s shell status h = connected_settled others status h
status_settled around Negated s shell status h = tt
status_settled around (Restoring undo) s shell status h = undone_settled undo s shell (At (Done status)) tt
status_settled around (If branches) s shell status h = branch_settled branches status.status h
status_settled around (Condition loop last) s shell status h = body_settled loop last status.status h
status_settled around (Body loop) s shell status h = condition_settled loop status h
status_settled around (ForBody series) s shell status h = given_by_settled series series.values status h
status_settled around (Call positional) s shell status h = returned_settled around shell status.status
status_settled around (Evaluation how) s shell status h = tt
status_settled around (Trapped before) s shell status h = tt
status_settled around (Interruption before next) s shell status h = h
status_settled around FailuresIgnored s shell status h = tt

leave_settled : (around : List Form) (form : Form) (s : KernelState) (shell : Shell) (l : Leave) → FormHolds form → ActedSettled (after_leave around form s shell l)
leave_settled around (Text rest) s shell l h = dropped_settled (goes_on_reading around shell) s shell rest l
leave_settled around (Input rest) s shell l h = input_left_settled s shell l
leave_settled around (Commands items) s shell l h = tt
leave_settled around (Joined others) s shell l h = tt
leave_settled around Negated s shell l h = tt
leave_settled around (Restoring undo) s shell l h = undone_settled undo s shell (At (Leaving l)) tt
leave_settled around (If branches) s shell l h = tt
leave_settled around (Condition loop last) s shell l h = left_settled (has_loop around) l s shell (condition_run loop last) (condition_settled loop last h)
leave_settled around (Body loop) s shell l h = left_settled (has_loop around) l s shell (condition_run loop (unexcused 0)) (condition_settled loop (unexcused 0) h)
leave_settled around (ForBody series) s shell l h = left_settled (has_loop around) l s shell (At (rest_of_series series (unexcused 0))) (given_by_settled series series.values (unexcused 0) h)
leave_settled around (Call positional) s shell l h = call_left_settled around l shell
leave_settled around (Evaluation how) s shell l h = text_left_settled around how.origin l shell
leave_settled around (Trapped before) s shell l h = tt
leave_settled around (Interruption before next) s shell l h = place_left_settled around s shell next l h
leave_settled around FailuresIgnored s shell l h = tt

after_by_settled : (around : List Form) (form : Form) (s : KernelState) (shell : Shell) (run : Run) → FormHolds form → Settled run → ActedSettled (after_by around form s shell run)
after_by_settled around form s shell (At (Done status)) h p = status_settled around form s shell status h
after_by_settled around form s shell (At (Leaving l)) h p = leave_settled around form s shell l h
after_by_settled around form s shell (At (Acting invocation fields)) h p = absurd p
after_by_settled around form s shell (At (Calling body fields)) h p = absurd p
after_by_settled around form s shell (At (Evaluating how text)) h p = absurd p
after_by_settled around form s shell (At (Next place)) h p = (h, p)
after_by_settled around form s shell (In inner run) h p = (h, p)

pub after_settled : (around : List Form) (form : Form) (a : Acted) → FormHolds form → ActedSettled a → ActedSettled (after around form a)
unfolding after
after_settled around form a h p = after_by_settled around form a.machine a.shell a.run h p

-- ---- a built-in acts
effect_settled : (around : List Form) (s : KernelState) (shell : Shell) (active : Active) → ActiveHolds active → Settled (effect_at around s shell active).run
unfolding builtin_effect
effect_settled around s shell (Acting i fields) h =
    let acted = invoked s shell (last_for around i.builtin shell.vars.special.status) i (drop 1 fields) in
    performed_settled (levels_left around) acted.shell (behind i.builtin acted.outcome) (behind_follows i.builtin acted.outcome)
effect_settled around s shell (Calling body fields) h = call_settled (levels_left around) shell body (drop 1 fields) h
effect_settled around s shell (Evaluating how text) h = evaluation_settled (levels_left around) shell how text
effect_settled around s shell (Next place) h = h
effect_settled around s shell (Done status) h = tt
effect_settled around s shell (Leaving l) h = tt

left_within_settled : (called looped : Bool) (l : Leave) → ActiveSettled (left_within called looped l)
left_within_settled called looped (leave.Exit status) = tt
left_within_settled called looped (leave.Fault status) = tt
left_within_settled true looped (leave.Return status) = tt
left_within_settled false looped (leave.Return status) = tt
left_within_settled called true (leave.Break inside) = tt
left_within_settled called false (leave.Break inside) = tt
left_within_settled called true (leave.Continue inside) = tt
left_within_settled called false (leave.Continue inside) = tt

within_settled : (errexit : Bool) (around : List Form) (active : Active) → ActiveSettled active → ActiveSettled (within errexit around active)
within_settled errexit around (Acting invocation fields) p = p
within_settled errexit around (Calling body fields) p = p
within_settled errexit around (Evaluating how text) p = p
within_settled errexit around (Next place) p = p
within_settled errexit around (Done ended) p = ended_within_settled errexit (is_failure_ignored around || ends_action around) ended
within_settled errexit around (Leaving l) p = left_within_settled (may_return around) (has_loop around) l

within_run_settled : (errexit : Bool) (around : List Form) (run : Run) → Settled run → Settled (within_run errexit around run)
within_run_settled errexit around (At active) p = within_settled errexit around active p
within_run_settled errexit around (In form run) p = p

pub at_action_settled : (around : List Form) (s : KernelState) (shell : Shell) (run : Run) → Holds run → ActedSettled (at_action around s shell run)
at_action_settled around s shell (At active) h =
    within_run_settled _ around (effect_at around s shell active).run (effect_settled around s shell active h)
at_action_settled around s shell (In form run) h = after_settled around form (at_action _ s shell run) h.0 (at_action_settled _ s shell run h.1)

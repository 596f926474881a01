-- What a form becomes when what runs inside it is done, or leaves it.
use Rattle.std.specs.Prelude.{◌≡◌, ℕ, zero, suc, List, [], ◌∷◌, ◌||◌, ◌&&◌, Bool, true, false, nat_eq, not, Option, Some, None, if◌then◌else◌}
use Rattle.sh_builtin_outcome.specs.Outcomes.{shell_status}
use Rattle.sh_builtin_outcome.specs.declared.outcome.Leave.{Leave}
use Rattle.sh_builtin_outcome.specs.declared.outcome.TextOrigin.{TextOrigin}
use Rattle.sh_builtin_outcome.specs.declared.outcome.TextOrigin.TheVariants as origin
use Rattle.sh_builtin_shell.specs.Shells.{is_interactive}
use Rattle.sh_builtin_shell.specs.declared.shell.Shell.{Shell}
use Rattle.sh_builtin_outcome.specs.declared.outcome.Leave.TheVariants as leave
use Rattle.sh_exec_actions.specs.ForLoops.{rest_of_series}
use Rattle.sh_exec_parts.specs.Saving as variables
use Rattle.sh_exec_actions.specs.Statuses.{unexcused}
use Rattle.sh_exec_actions.specs.declared.action.Active.{Active}
use Rattle.sh_exec_actions.specs.declared.action.Active.TheVariants.{Acting, Calling, Evaluating, Next, Done, Leaving}
use Rattle.sh_exec_actions.specs.Beginnings.{not_begun}
use Rattle.sh_exec_actions.specs.declared.action.Action.{Action}
use Rattle.sh_exec_actions.specs.declared.action.Action.TheVariants.{Reading, Prompting, ReadInput, Expanding, ReadSubstitution, WaitSubstitution, Asking, WaitForJob, Redirecting, Forking, Starting, ForkStage, ForkList, AssignLoopVariable, Defining, Waiting, Writing, Trapping, Ending}
use Rattle.sh_exec_actions.specs.declared.action.Undo.{Undo}
use Rattle.sh_exec_actions.specs.declared.status.CommandStatus.{CommandStatus}
use Rattle.sh_exec_machine.specs.Undoing as descriptors
use Rattle.sh_exec_signals.specs.Prompting.{input_action}
use Rattle.sh_exec_settling.specs.Builtins.{Performed, effect_at, machine_at, with_parameters}
use Rattle.sh_exec_forms.specs.Entering.{items_run, with_others, list_run, pipeline_run}
use Rattle.sh_exec_forms.specs.Stacks.{Goes, run_of}
use Rattle.sh_exec_forms.specs.Frames.{ends_action, may_return, has_loop, is_failure_ignored}
use Rattle.sh_exec_forms.specs.Running.{Run, At, In}
use Rattle.sh_exec_actions.specs.declared.form.Branches.{Branches}
use Rattle.sh_exec_actions.specs.declared.form.Form.{Form}
use Rattle.sh_exec_actions.specs.declared.form.Form.TheVariants.{Text, Input, Commands, Joined, Negated, Restoring, If, Condition, Body, ForBody, Call, Evaluation, Trapped, Interruption, FailuresIgnored}
use Rattle.sh_exec_actions.specs.declared.form.Loop.{Loop}
use Rattle.sh_exec_forms.specs.declared.step.Step.{Step}
use Rattle.sh_exec_forms.specs.declared.step.Step.TheVariants.{Outward, Inward}
use Rattle.sh_exec_settling.specs.declared.loops.Onward.{Onward}
use Rattle.sh_exec_settling.specs.declared.loops.Onward.TheVariants.{Left, Over, On}
use Rattle.sh_kernel.specs.State.{KernelKept, KernelState, StandsAt}
use Rattle.sh_syntax.specs.declared.tree.Command.TheViews as view
use Rattle.sh_syntax.specs.declared.tree.CompoundList.{CompoundList}
use Rattle.sh_syntax.specs.declared.tree.Connected.{Connected}
use Rattle.sh_syntax.specs.declared.tree.Connector.{Connector}
use Rattle.sh_syntax.specs.declared.tree.Connector.TheVariants.{And, Or}
use Rattle.sh_syntax.specs.declared.tree.ElseIf.{ElseIf}
use Rattle.sh_syntax.specs.declared.tree.LoopKind.{LoopKind}
use Rattle.sh_syntax.specs.declared.tree.LoopKind.TheVariants.{While, Until}
use Rattle.sh_vars.specs.Environment.{with_status}

-- what an action leaves: the machine, the shell, and what it runs
pub record Acted : Type 0 where
  pub machine : KernelState
  pub shell : Shell
  pub run : Run

abbrev pub with_run : KernelState → Shell → Run → Acted
with_run s shell run = record { machine = s; shell = shell; run = run }

-- the shell behind a command with this status (2.5.2)
abbrev pub behind_status : Shell → ℕ → Shell
behind_status shell status = record shell { vars = with_status shell.vars status }

-- `!` (2.9.2); a failure that it makes of a success is excused (2.15, set -e)
abbrev pub negation : ℕ → CommandStatus
negation zero = record { status = 1; excused = true }
negation (suc n) = unexcused 0

-- ---- AND-OR lists (2.9.3): what is after `&&` is run after 0, what is after `||` after any other status
abbrev pub goes_on : Connector → ℕ → Bool
goes_on And zero = true
goes_on And (suc n) = false
goes_on Or zero = false
goes_on Or (suc n) = true

-- what isn't run has no status
abbrev pub connected_run : List Connected → CommandStatus → Run
connected_run [] ended = At (Done ended)
connected_run (next ∷ others) ended =
    if goes_on (view.out-Connected next).connector ended.status
    then with_others others (pipeline_run (view.out-Connected next).pipeline)
    else connected_run others ended

-- ---- `if` (2.9.4.4): 0 where no list is run but conditions
abbrev pub otherwise : List ElseIf → Option CompoundList → Run
otherwise [] None = At (Done (unexcused 0))
otherwise [] (Some list) = list_run list
otherwise (next ∷ others) else_body =
    In (If (record { body = (view.out-ElseIf next).body; else_ifs = others; else_body = else_body })) (list_run (view.out-ElseIf next).condition)

unfoldable pub branch : Branches → ℕ → Run
branch branches zero = list_run branches.body
branch branches (suc n) = otherwise branches.else_ifs branches.else_body

-- ---- `while` and `until` (2.9.4.5, 2.9.4.6): the status is that of the body's last run
abbrev pub runs : LoopKind → ℕ → Bool
runs While zero = true
runs While (suc n) = false
runs Until zero = false
runs Until (suc n) = true

unfoldable pub behind_condition : Loop → (last : CommandStatus) → ℕ → Run
behind_condition loop last status = if runs loop.kind status then In (Body loop) (list_run loop.body) else At (Done last)

unfoldable pub condition_run : Loop → (last : CommandStatus) → Run
condition_run loop last = In (Condition loop last) (list_run loop.condition)

-- ---- a failure is excused where failures are ignored; else `set -e` makes it the end of the shell (2.15, set)
abbrev pub is_failure : CommandStatus → Bool
is_failure ended = not (nat_eq ended.status 0)

abbrev pub ended_within : (errexit ignored : Bool) → CommandStatus → Active
ended_within errexit true ended = Done (record ended { excused = ended.excused || is_failure ended })
ended_within false false ended = Done ended
ended_within true false ended = if is_failure ended && not ended.excused then Leaving (leave.Exit ended.status) else Done ended

-- ---- break and continue (2.15) are done with 0, and do nothing where no loop stands around; return is exit where neither a function nor
-- a dot script does
abbrev pub left_within : (called looped : Bool) → Leave → Active
left_within called looped (leave.Exit status) = Leaving (leave.Exit status)
left_within called looped (leave.Fault status) = Leaving (leave.Fault status)
left_within true looped (leave.Return status) = Leaving (leave.Return status)
left_within false looped (leave.Return status) = Leaving (leave.Exit status)
left_within called true (leave.Break inside) = Leaving (leave.Break inside)
left_within called false (leave.Break inside) = Done (unexcused 0)
left_within called true (leave.Continue inside) = Leaving (leave.Continue inside)
left_within called false (leave.Continue inside) = Done (unexcused 0)

-- what a place comes to inside the forms round it, the innermost first; `set -e` judges commands, and a trap's action isn't one
abbrev pub within : (errexit : Bool) → (around : List Form) → Active → Active
within errexit around (Acting invocation fields) = Acting invocation fields
within errexit around (Calling body fields) = Calling body fields
within errexit around (Evaluating how text) = Evaluating how text
within errexit around (Next place) = Next place
within errexit around (Done ended) = ended_within errexit (is_failure_ignored around || ends_action around) ended
within errexit around (Leaving leave) = left_within (may_return around) (has_loop around) leave

-- the same of what a built-in leaves; forms that it entered have their own
abbrev pub within_run : (errexit : Bool) → (around : List Form) → Run → Run
within_run errexit around (At active) = At (within errexit around active)
within_run errexit around (In form run) = In form run

-- whether a failure that isn't ignored ends a shell
abbrev pub exits_on_error : Shell → Bool
exits_on_error shell = shell.vars.options.exit_on_error

-- seen from outside of a loop that is left: how many loops are inside the one that is meant. None where that
-- is this loop, and where this loop is the outermost one
abbrev pub beyond : (looped : Bool) → ℕ → Option ℕ
beyond looped zero = None
beyond false (suc inside) = None
beyond true (suc inside) = Some inside

abbrev pub onward_by : (ℕ → Leave) → Onward → Option ℕ → Onward
onward_by leave here None = here
onward_by leave here (Some inside) = Left (leave inside)

abbrev pub onward : (looped : Bool) → Leave → Onward
onward looped (leave.Exit status) = Left (leave.Exit status)
onward looped (leave.Fault status) = Left (leave.Fault status)
onward looped (leave.Return status) = Left (leave.Return status)
onward looped (leave.Break inside) = onward_by leave.Break Over (beyond looped inside)
onward looped (leave.Continue inside) = onward_by leave.Continue On (beyond looped inside)

abbrev pub loop_left : KernelState → Shell → (next : Run) → Onward → Acted
loop_left s shell next (Left leave) = with_run s shell (At (Leaving leave))
loop_left s shell next Over = with_run s shell (At (Done (unexcused 0)))
loop_left s shell next On = with_run s (behind_status shell 0) next

-- what a command changed is undone (2.9.1): its redirections, unless they stay (2.15 exec), and then its assignments
unfoldable pub undone : Undo → KernelState → Shell → Run → Acted
undone undo s shell run =
    with_run (descriptors.after_redirections undo.redirections_stay shell.pid undo.descriptors s)
    (record shell { vars = variables.all_restored undo.variables shell.vars }) run

-- ---- after a function's body (2.9.5): the positional parameters are the caller's again, and its status is that of a command there
abbrev pub returned : (around : List Form) → Shell → ℕ → Active
returned around shell status = ended_within (exits_on_error shell) (is_failure_ignored around) (unexcused status)

abbrev pub after_call : (around : List Form) → Leave → Shell → Active
after_call around (leave.Exit status) shell = Leaving (leave.Exit status)
after_call around (leave.Fault status) shell = Leaving (leave.Fault status)
after_call around (leave.Return status) shell = returned around shell status
after_call around (leave.Break inside) shell = Leaving (leave.Break inside)
after_call around (leave.Continue inside) shell = Leaving (leave.Continue inside)

-- ---- a text that is left; `return` ends a dot script as a function's body (2.15 return)
abbrev pub after_text : (around : List Form) → TextOrigin → Leave → Shell → Active
after_text around origin.Eval leave shell = Leaving leave
after_text around origin.DotScript leave shell = after_call around leave shell

-- ---- an interactive shell isn't ended by an error (2.8.1): it drops the command, `$?` is the error's status, and it reads its next command
abbrev pub behind_input : KernelState → Shell → (rest : List ℕ) → Acted
behind_input s shell rest = with_run s shell (At (Next (input_action s shell (not_begun rest))))

-- one that it has read by descriptor 0
abbrev pub input_left : KernelState → Shell → Leave → Acted
input_left s shell (leave.Exit status) = with_run s shell (At (Leaving (leave.Exit status)))
input_left s shell (leave.Fault status) = behind_input s (behind_status shell status) []
input_left s shell (leave.Return status) = with_run s shell (At (Leaving (leave.Return status)))
input_left s shell (leave.Break inside) = with_run s shell (At (Leaving (leave.Break inside)))
input_left s shell (leave.Continue inside) = with_run s shell (At (Leaving (leave.Continue inside)))

-- one of its text or script
abbrev pub goes_on_reading : (around : List Form) → Shell → Bool
goes_on_reading [] shell = is_interactive shell
goes_on_reading (form ∷ forms) shell = false

abbrev pub dropped_in_text : (goes_on : Bool) → KernelState → Shell → (rest : List ℕ) → Leave → Acted
dropped_in_text true s shell rest (leave.Fault status) = with_run s (behind_status shell status) (At (Next (Reading rest status)))
dropped_in_text true s shell rest (leave.Exit status) = with_run s shell (At (Leaving (leave.Exit status)))
dropped_in_text true s shell rest (leave.Return status) = with_run s shell (At (Leaving (leave.Return status)))
dropped_in_text true s shell rest (leave.Break inside) = with_run s shell (At (Leaving (leave.Break inside)))
dropped_in_text true s shell rest (leave.Continue inside) = with_run s shell (At (Leaving (leave.Continue inside)))
dropped_in_text false s shell rest leave = with_run s shell (At (Leaving leave))

abbrev pub text_left : (around : List Form) → KernelState → Shell → (rest : List ℕ) → Leave → Acted
text_left around s shell rest leave = dropped_in_text (goes_on_reading around shell) s shell rest leave

-- the action of a trap that came before this one is left: where that is a reading, it is left as a command that was read there; where it is a
-- round of a for, as a command in the body of that loop
abbrev pub place_left : (around : List Form) → KernelState → Shell → (next : Action) → Leave → Acted
place_left around s shell (Reading rest status) leave = text_left around s shell rest leave
place_left around s shell (ReadInput beginning) leave = input_left s shell leave
place_left around s shell (AssignLoopVariable series) leave =
    loop_left s shell (At (rest_of_series series (unexcused 0))) (onward (has_loop around) leave)
place_left around s shell _ leave = with_run s shell (At (Leaving leave))

-- the next command of a text is read, behind this status; `$?` is the status of the command before (2.5.2). Behind the action of a trap on
-- EXIT the shell ends with the status that it was to have, unless the action leaves the shell; behind that of a trap on a signal it goes on
-- where it was, and `$?` is what it was (2.15 trap)
-- around: the forms round this one, the innermost first
abbrev pub after_status : (around : List Form) → Form → KernelState → Shell → CommandStatus → Acted
after_status around (Text rest) s shell ended = with_run s shell (At (Next (Reading rest ended.status)))
after_status around (Input rest) s shell ended = behind_input s (behind_status shell ended.status) rest
after_status around (Commands items) s shell ended = with_run s (behind_status shell ended.status) (items_run items ended)
after_status around (Joined others) s shell ended = with_run s (behind_status shell ended.status) (connected_run others ended)
after_status around Negated s shell ended = with_run s shell (At (Done (negation ended.status)))
after_status around (Restoring undo) s shell ended = undone undo s shell (At (Done ended))
after_status around (If branches) s shell ended = with_run s (behind_status shell ended.status) (branch branches ended.status)
after_status around (Condition loop last) s shell ended = with_run s (behind_status shell ended.status) (behind_condition loop last ended.status)
after_status around (Body loop) s shell ended = with_run s (behind_status shell ended.status) (condition_run loop ended)
after_status around (ForBody series) s shell ended = with_run s (behind_status shell ended.status) (At (rest_of_series series ended))
after_status around (Call positional) s shell ended = with_run s (with_parameters shell positional) (At (returned around shell ended.status))
after_status around (Evaluation how) s shell ended = with_run s shell (At (Done ended))
after_status around (Trapped status) s shell ended = with_run s shell (At (Next (Ending status)))
after_status around (Interruption status next) s shell ended = with_run s (behind_status shell status) (At (Next next))
after_status around FailuresIgnored s shell ended = with_run s shell (At (Done ended))

abbrev pub after_leave : (around : List Form) → Form → KernelState → Shell → Leave → Acted
after_leave around (Text rest) s shell leave = text_left around s shell rest leave
after_leave around (Input rest) s shell leave = input_left s shell leave
after_leave around (Commands items) s shell leave = with_run s shell (At (Leaving leave))
after_leave around (Joined others) s shell leave = with_run s shell (At (Leaving leave))
after_leave around Negated s shell leave = with_run s shell (At (Leaving leave))
after_leave around (Restoring undo) s shell leave = undone undo s shell (At (Leaving leave))
after_leave around (If branches) s shell leave = with_run s shell (At (Leaving leave))
after_leave around (Condition loop last) s shell leave = loop_left s shell (condition_run loop last) (onward (has_loop around) leave)
after_leave around (Body loop) s shell leave = loop_left s shell (condition_run loop (unexcused 0)) (onward (has_loop around) leave)
after_leave around (ForBody series) s shell leave =
    loop_left s shell (At (rest_of_series series (unexcused 0))) (onward (has_loop around) leave)
after_leave around (Call positional) s shell leave = with_run s (with_parameters shell positional) (At (after_call around leave shell))
after_leave around (Evaluation how) s shell leave = with_run s shell (At (after_text around how.origin leave shell))
after_leave around (Trapped status) s shell leave = with_run s shell (At (Next (Ending (shell_status leave))))
after_leave around (Interruption status next) s shell leave = place_left around s shell next leave
after_leave around FailuresIgnored s shell leave = with_run s shell (At (Leaving leave))

abbrev pub after_by : (around : List Form) → Form → KernelState → Shell → Run → Acted
after_by around form s shell (At (Done ended)) = after_status around form s shell ended
after_by around form s shell (At (Leaving leave)) = after_leave around form s shell leave
after_by around form s shell (At (Acting invocation fields)) = with_run s shell (In form (At (Acting invocation fields)))
after_by around form s shell (At (Calling body fields)) = with_run s shell (In form (At (Calling body fields)))
after_by around form s shell (At (Evaluating how text)) = with_run s shell (In form (At (Evaluating how text)))
after_by around form s shell (At (Next place)) = with_run s shell (In form (At (Next place)))
after_by around form s shell (In inner run) = with_run s shell (In form (In inner run))

-- a form again round what an action inside it left
unfoldable pub after : (around : List Form) → Form → Acted → Acted
after around form a = after_by around form a.machine a.shell a.run

-- a built-in acts, a text is entered, and statuses go outward until the place is an action
abbrev pub at_action : (around : List Form) → KernelState → Shell → Run → Acted
at_action around s shell (At active) =
    let p = effect_at around s shell active in
    with_run (machine_at around s shell active) p.shell (within_run (exits_on_error p.shell) around p.run)
at_action around s shell (In form run) = after around form (at_action (form ∷ around) s shell run)

-- a shell goes on at a step behind what a built-in did, inside the forms that there were before
pub record HasPerformed (shell : Shell) (now before : List Form) (step : Step) (p : Performed) : Type 0 where
  pub shell_is : shell ≡ p.shell
  pub goes : Goes step now before p.run

-- the kernel and the shell are what an action leaves
pub record IsActed (kernel : KernelKept) (shell : Shell) (ran : Run) (a : Acted) : Type 0 where
  pub state : StandsAt kernel a.machine
  pub shell_is : shell ≡ a.shell
  pub run : ran ≡ a.run

-- ---- the same by the list of the forms, the innermost first: each is settled by those that are around it
abbrev pub outward : List Form → Acted → Acted
outward [] a = a
outward (form ∷ forms) a = outward forms (after forms form a)

-- where a shell goes on that changed only itself, inside the forms that there were before
pub record Follows (s : KernelState) (shell : Shell) (now before : List Form) (step : Step) (a : Acted) : Type 0 where
  pub machine : a.machine ≡ s
  pub shell_is : shell ≡ a.shell
  pub goes : Goes step now before a.run

-- a kernel and a shell go on so, inside the forms that there were before
pub record HasGone (kernel : KernelKept) (shell : Shell) (now before : List Form) (step : Step) (a : Acted) : Type 0 where
  pub state : StandsAt kernel a.machine
  pub shell_is : shell ≡ a.shell
  pub goes : Goes step now before a.run

-- a shell goes on at a step: outward through the forms that are there, or at the place that it gives
abbrev pub step_run : List Form → KernelState → Shell → Step → Acted
step_run forms s shell (Outward active) = outward forms (with_run s shell (At active))
step_run forms s shell (Inward active) = with_run s shell (run_of forms active)

-- a kernel and a shell have come to a step on their way to what an action leaves
pub record IsOnWay (kernel : KernelKept) (shell : Shell) (forms : List Form) (step : Step) (a : Acted) : Type 0 where
  pub machine : KernelState
  pub state : StandsAt kernel machine
  pub left : step_run forms machine shell step ≡ a

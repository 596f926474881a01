-- What an interactive shell drops leaves its working directory as it is.
use Rattle.std.proofs.Common.{◌≡◌, ℕ, zero, suc, List, [], ◌∷◌, Bool, true, false, refl, ap, ◌∙◌}
use Rattle.std.specs.Prelude.{if◌then◌else◌}
use Rattle.sh_builtin_outcome.specs.declared.outcome.Leave.{Leave}
use Rattle.sh_builtin_outcome.specs.declared.outcome.Leave.TheVariants as leave
use Rattle.sh_builtin_shell.specs.declared.shell.Shell.{Shell}
use Rattle.sh_exec_actions.specs.declared.action.Action.{Action}
use Rattle.sh_exec_actions.specs.declared.action.Action.TheVariants.{Reading, Prompting, ReadInput, Expanding, ReadSubstitution, WaitSubstitution, Asking, WaitForJob, Redirecting, Forking, Starting, ForkStage, ForkList, AssignLoopVariable, Defining, Waiting, Writing, Trapping, Ending}
use Rattle.sh_exec_actions.specs.declared.action.Active.{Active}
use Rattle.sh_exec_actions.specs.declared.action.Active.TheVariants.{Acting, Calling, Evaluating, Next, Done, Leaving}
use Rattle.sh_exec_parts.specs.declared.saved.Saved.{Saved}
use Rattle.sh_exec_parts.specs.declared.saved.Saved.TheVariants as saved
use Rattle.sh_exec_actions.specs.declared.action.Undo.{Undo}
use Rattle.sh_exec_actions.specs.declared.form.Form.{Form}
use Rattle.sh_exec_actions.specs.declared.form.Form.TheVariants.{Text, Input, Commands, Joined, Negated, Restoring, If, Condition, Body, ForBody, Call, Evaluation, Trapped, Interruption, FailuresIgnored}
use Rattle.sh_exec_actions.specs.Statuses.{unexcused}
use Rattle.sh_exec_actions.specs.declared.status.CommandStatus.{CommandStatus}
use Rattle.sh_exec_actions.specs.ForLoops.{rest_of_series}
use Rattle.sh_exec_parts.specs.Saving.{all_restored}
use Rattle.sh_exec_settling.proofs.Outward.{by_forms}
use Rattle.sh_exec_settling.specs.Forms.{Acted, after, after_by, after_leave, after_status, at_action, condition_run, dropped_in_text, goes_on_reading, input_left, loop_left, onward, outward, place_left, undone, with_run}
use Rattle.sh_exec_forms.specs.Running.{Run, At, In}
use Rattle.sh_exec_forms.specs.Stacks.{run_in, run_of}
use Rattle.sh_exec_forms.specs.Frames.{has_loop}
use Rattle.sh_exec_signals.specs.Signals.{after_drop}
use Rattle.sh_exec_shell.specs.Reduction.{drop_at, drop_first, dropped_run, rooted}
use Rattle.sh_exec_turns.specs.Traps.{drops_before}
use Rattle.sh_kernel.specs.State.{KernelState}
use Rattle.sh_vars.specs.Environment.{Environment}

restored_directory : (ss : List Saved) (env : Environment) → (all_restored ss env).directory ≡ env.directory
restored_directory [] env = refl
restored_directory (saved.Variable entry ∷ ss) env = restored_directory ss env
restored_directory (saved.Absent name ∷ ss) env = restored_directory ss env

-- the directory of what is left is that of the shell
abbrev Stays : Shell → Acted → Type 0
Stays shell a = a.shell.vars.directory ≡ shell.vars.directory

undone_stays : (undo : Undo) (s : KernelState) (shell : Shell) (run : Run) → Stays shell (undone undo s shell run)
unfolding undone
undone_stays undo s shell run = restored_directory undo.variables shell.vars

-- ---- a form round what is done, or left
ended_stays : (around : List Form) (form : Form) (s : KernelState) (shell : Shell) (status : CommandStatus) → Stays shell (after_status around form s shell status)
ended_stays around (Text rest) s shell status = refl
ended_stays around (Input rest) s shell status = refl
ended_stays around (Commands items) s shell status = refl
ended_stays around (Joined others) s shell status = refl
ended_stays around Negated s shell status = refl
ended_stays around (Restoring undo) s shell status = undone_stays undo s shell (At (Done status))
ended_stays around (If branches) s shell status = refl
ended_stays around (Condition loop last) s shell status = refl
ended_stays around (Body loop) s shell status = refl
ended_stays around (ForBody series) s shell status = refl
ended_stays around (Call positional) s shell status = refl
ended_stays around (Evaluation how) s shell status = refl
ended_stays around (Trapped before) s shell status = refl
ended_stays around (Interruption before next) s shell status = refl
ended_stays around FailuresIgnored s shell status = refl

loop_stays : (looped : Bool) (l : Leave) (s : KernelState) (shell : Shell) (next : Run) → Stays shell (loop_left s shell next (onward looped l))
loop_stays looped (leave.Exit status) s shell next = refl
loop_stays looped (leave.Fault status) s shell next = refl
loop_stays looped (leave.Return status) s shell next = refl
loop_stays looped (leave.Break zero) s shell next = refl
loop_stays false (leave.Break (suc inside)) s shell next = refl
loop_stays true (leave.Break (suc inside)) s shell next = refl
loop_stays looped (leave.Continue zero) s shell next = refl
loop_stays false (leave.Continue (suc inside)) s shell next = refl
loop_stays true (leave.Continue (suc inside)) s shell next = refl

text_stays : (goes_on : Bool) (s : KernelState) (shell : Shell) (rest : List ℕ) (l : Leave) → Stays shell (dropped_in_text goes_on s shell rest l)
text_stays true s shell rest (leave.Exit status) = refl
text_stays true s shell rest (leave.Fault status) = refl
text_stays true s shell rest (leave.Return status) = refl
text_stays true s shell rest (leave.Break inside) = refl
text_stays true s shell rest (leave.Continue inside) = refl
text_stays false s shell rest l = refl

input_stays : (s : KernelState) (shell : Shell) (l : Leave) → Stays shell (input_left s shell l)
input_stays s shell (leave.Exit status) = refl
input_stays s shell (leave.Fault status) = refl
input_stays s shell (leave.Return status) = refl
input_stays s shell (leave.Break inside) = refl
input_stays s shell (leave.Continue inside) = refl

place_stays : (around : List Form) (s : KernelState) (shell : Shell) (next : Action) (l : Leave) → Stays shell (place_left around s shell next l)
place_stays around s shell (Reading rest status) l = text_stays (goes_on_reading around shell) s shell rest l
place_stays around s shell (ReadInput b) l = input_stays s shell l
place_stays around s shell (Prompting b) l = refl
place_stays around s shell (Expanding wants pending) l = refl
place_stays around s shell (ReadSubstitution substitution) l = refl
place_stays around s shell (WaitSubstitution substitution) l = refl
place_stays around s shell (Asking rest) l = refl
place_stays around s shell (WaitForJob wait) l = refl
place_stays around s shell (Redirecting p) l = refl
place_stays around s shell (Forking p) l = refl
place_stays around s shell (Starting start) l = refl
place_stays around s shell (ForkStage stages) l = refl
place_stays around s shell (ForkList list) l = refl
place_stays around s shell (AssignLoopVariable series) l = loop_stays (has_loop around) l s shell (At (rest_of_series series (unexcused 0)))
place_stays around s shell (Defining definition) l = refl
place_stays around s shell (Waiting wait) l = refl
place_stays around s shell (Writing piece finish) l = refl
place_stays around s shell (Trapping status) l = refl
place_stays around s shell (Ending status) l = refl

left_stays : (around : List Form) (form : Form) (s : KernelState) (shell : Shell) (l : Leave) → Stays shell (after_leave around form s shell l)
left_stays around (Text rest) s shell l = text_stays (goes_on_reading around shell) s shell rest l
left_stays around (Input rest) s shell l = input_stays s shell l
left_stays around (Commands items) s shell l = refl
left_stays around (Joined others) s shell l = refl
left_stays around Negated s shell l = refl
left_stays around (Restoring undo) s shell l = undone_stays undo s shell (At (Leaving l))
left_stays around (If branches) s shell l = refl
left_stays around (Condition loop last) s shell l = loop_stays (has_loop around) l s shell (condition_run loop last)
left_stays around (Body loop) s shell l = loop_stays (has_loop around) l s shell (condition_run loop (unexcused 0))
left_stays around (ForBody series) s shell l = loop_stays (has_loop around) l s shell (At (rest_of_series series (unexcused 0)))
left_stays around (Call positional) s shell l = refl
left_stays around (Evaluation how) s shell l = refl
left_stays around (Trapped before) s shell l = refl
left_stays around (Interruption before next) s shell l = place_stays around s shell next l
left_stays around FailuresIgnored s shell l = refl

after_by_stays : (around : List Form) (form : Form) (s : KernelState) (shell : Shell) (run : Run) → Stays shell (after_by around form s shell run)
after_by_stays around form s shell (At (Done status)) = ended_stays around form s shell status
after_by_stays around form s shell (At (Leaving l)) = left_stays around form s shell l
after_by_stays around form s shell (At (Acting b fields)) = refl
after_by_stays around form s shell (At (Calling body fields)) = refl
after_by_stays around form s shell (At (Evaluating how text)) = refl
after_by_stays around form s shell (At (Next place)) = refl
after_by_stays around form s shell (In inner run) = refl

after_stays : (around : List Form) (form : Form) (a : Acted) → Stays a.shell (after around form a)
unfolding after
after_stays around form a = after_by_stays around form a.machine a.shell a.run

outward_stays : (forms : List Form) (a : Acted) → Stays a.shell (outward forms a)
outward_stays [] a = refl
outward_stays (form ∷ forms) a = outward_stays forms (after forms form a) ∙ after_stays forms form a

-- ---- what is dropped
run_stays : (around : List Form) (s : KernelState) (shell : Shell) (place : Action) → Stays shell (at_action around s shell (dropped_run place))
run_stays around s shell (Reading rest status) = after_stays around (Text rest) (at_action (Text rest ∷ around) s shell (At (Leaving (leave.Fault 130))))
run_stays around s shell (ReadInput b) = after_stays around (Input []) (at_action (Input [] ∷ around) s shell (At (Leaving (leave.Fault 130))))
run_stays around s shell (Prompting b) = refl
run_stays around s shell (Expanding wants pending) = refl
run_stays around s shell (ReadSubstitution substitution) = refl
run_stays around s shell (WaitSubstitution substitution) = refl
run_stays around s shell (Asking rest) = refl
run_stays around s shell (WaitForJob wait) = refl
run_stays around s shell (Redirecting p) = refl
run_stays around s shell (Forking p) = refl
run_stays around s shell (Starting start) = refl
run_stays around s shell (ForkStage stages) = refl
run_stays around s shell (ForkList list) = refl
run_stays around s shell (AssignLoopVariable series) = refl
run_stays around s shell (Defining definition) = refl
run_stays around s shell (Waiting wait) = refl
run_stays around s shell (Writing piece finish) = refl
run_stays around s shell (Trapping status) = refl
run_stays around s shell (Ending status) = refl

dropping_stays : (around : List Form) (s : KernelState) (shell : Shell) (place : Action) → Stays shell (at_action [] s shell (run_in around (dropped_run place)))
dropping_stays around s shell place =
    ap (λ (a : Acted). a.shell.vars.directory) (by_forms around s shell (dropped_run place))
    ∙ outward_stays around (at_action around s shell (dropped_run place)) ∙ run_stays around s shell place

by_question : (b : Bool) (s : KernelState) (shell : Shell) (around : List Form) (place : Action)
    → Stays shell (if b then rooted (at_action [] (after_drop s shell) shell (run_in around (dropped_run place))) else with_run s shell (run_of around (Next place)))
by_question true s shell around place = dropping_stays around (after_drop s shell) shell place
by_question false s shell around place = refl

pub drop_directory : (s : KernelState) (shell : Shell) (around : List Form) (active : Active) → Stays shell (drop_first s shell around active)
unfolding drop_at
drop_directory s shell around (Next place) = by_question (drops_before s shell place) s shell around place
drop_directory s shell around (Acting b fields) = refl
drop_directory s shell around (Calling body fields) = refl
drop_directory s shell around (Evaluating how text) = refl
drop_directory s shell around (Done status) = refl
drop_directory s shell around (Leaving l) = refl

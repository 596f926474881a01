-- The functions of a shell begin with an action after its turn where they did before it.
use Rattle.std.proofs.Common.{ℕ, zero, suc, List, [], ◌∷◌, ◌++◌, length, Bool, true, false, Option, Some, None, Result, Ok, Err, sym, ap, subst, ◌∙◌}
use Rattle.std.specs.Prelude.{cond, drop, if◌then◌else◌, nat_eq, not}
use Rattle.sh_base.specs.Names.{is_name}
use Rattle.sh_builtin_shell.specs.Functions.{Named, has_name, unset_by, without, without_all}
use Rattle.sh_builtin.specs.Invocations.{invoked}
use Rattle.sh_builtin.specs.Running.{built_in, jobs_ran}
use Rattle.sh_builtin_outcome.specs.declared.outcome.TextRun.{TextRun}
use Rattle.sh_builtin_outcome.specs.declared.builtin.Builtin.{Builtin}
use Rattle.sh_builtin_outcome.specs.declared.builtin.Builtin.TheVariants as builtin
use Rattle.sh_builtin_outcome.specs.declared.outcome.Leave.{Leave}
use Rattle.sh_builtin_outcome.specs.declared.outcome.Leave.TheVariants as leave
use Rattle.sh_builtin_shell.specs.declared.shell.Shell.{Shell}
use Rattle.sh_builtin_environment.specs.Unsetting.{functions_to_unset}
use Rattle.sh_exec_actions.specs.Statuses.{unexcused}
use Rattle.sh_exec_actions.specs.declared.action.Action.{Action}
use Rattle.sh_exec_actions.specs.declared.action.Action.TheVariants.{Reading, Prompting, ReadInput, Expanding, ReadSubstitution, WaitSubstitution, Asking, WaitForJob, Redirecting, Forking, Starting, ForkStage, ForkList, AssignLoopVariable, Defining, Waiting, Writing, Trapping, Ending}
use Rattle.sh_exec_actions.specs.declared.action.Active.{Active}
use Rattle.sh_exec_actions.specs.declared.action.Active.TheVariants.{Acting, Calling, Evaluating, Next, Done, Leaving}
use Rattle.sh_exec_actions.specs.declared.action.Expanded.{Expanded}
use Rattle.sh_exec_actions.specs.declared.action.Expanded.TheVariants as expanded
use Rattle.sh_exec_actions.specs.declared.action.ExpandedCommand.{ExpandedCommand}
use Rattle.sh_exec_actions.specs.declared.action.Finish.{Finish}
use Rattle.sh_expand.specs.Answers.{Pending}
use Rattle.sh_exec_actions.specs.declared.action.Stages.{Stages}
use Rattle.sh_exec_actions.specs.declared.action.Substitution.{Substitution}
use Rattle.sh_exec_actions.specs.declared.action.ToExpand.{ToExpand}
use Rattle.sh_exec_actions.specs.declared.action.Undo.{Undo}
use Rattle.sh_exec_actions.specs.declared.beginning.Beginning.{Beginning}
use Rattle.sh_exec_actions.specs.declared.form.Form.{Form}
use Rattle.sh_exec_actions.specs.declared.form.Form.TheVariants.{Text, Input, Commands, Joined, Negated, Restoring, If, Condition, Body, ForBody, Call, Evaluation, Trapped, Interruption, FailuresIgnored}
use Rattle.sh_exec_actions.specs.declared.status.CommandStatus.{CommandStatus}
use Rattle.sh_exec_command.specs.Defining.{define_by, define_turn}
use Rattle.sh_exec_actions.specs.ForLoops.{rest_of_series}
use Rattle.sh_exec_signals.specs.Reporting.{behind}
use Rattle.sh_exec_settling.specs.Builtins.{builtin_effect, call, effect_at, evaluation, performed}
use Rattle.sh_exec_settling.specs.Forms.{Acted, after, after_by, after_leave, after_status, at_action, condition_run, loop_left, onward, undone, with_run, dropped_in_text, goes_on_reading, input_left, place_left}
use Rattle.sh_builtin_environment.specs.TrapMaps.{action_of}
use Rattle.sh_signal.specs.declared.condition.Condition.TheVariants.{Exit}
use Rattle.sh_exec_forms.specs.Frames.{has_loop, last_for, levels_left}
use Rattle.sh_exec_forms.specs.Running.{Run, At, In}
use Rattle.sh_exec_machine.specs.Forking.{fork_of}
use Rattle.sh_exec_machine.specs.Transfers.{take_bytes, Giving, give_bytes}
use Rattle.sh_exec_machine.specs.Waits.{wait_status}
use Rattle.sh_exec_machine.specs.declared.transfer.ReadOutcome.{ReadOutcome}
use Rattle.sh_exec_machine.specs.declared.transfer.ReadOutcome.TheVariants as taken
use Rattle.sh_exec_parts.specs.Simple.{Opened}
use Rattle.sh_exec_parts.specs.declared.message.Piece.{Piece}
use Rattle.sh_exec_parts.specs.declared.redirection.Redirection.{Redirection}
use Rattle.sh_exec_turns.specs.Acting.{after_collection, collect_by, collect_end, collect_from, collect_turn, end_turn, expand_turn, next, redirect_from, redirect_one, redirect_turn, trap_by, trap_turn, with_written, write_turn}
use Rattle.sh_exec_signals.specs.Placed.{Placed, at_place}
use Rattle.sh_builtin_shell.specs.Shells.{has_job_control, up_to_date}
use Rattle.sh_exec_actions.specs.declared.action.PipelineWait.{PipelineWait}
use Rattle.sh_builtin_outcome.specs.declared.rest.JobWait.{JobWait}
use Rattle.sh_exec_waiting.specs.JobWaits.{job_ended, job_wait_by, job_wait_turn}
use Rattle.sh_exec_waiting.specs.Waiting.{controlled_by, terminal_back, wait_turn, wait_with}
use Rattle.sh_jobs.specs.States.{state_of}
use Rattle.sh_jobs.specs.declared.state.JobState.{JobState}
use Rattle.sh_jobs.specs.declared.state.JobState.TheVariants.{Running, Suspended}
use Rattle.sh_jobs.specs.declared.state.JobState.TheVariants as state
use Rattle.sh_exec_turns.specs.Traps.{interrupted, interruption, shell_before, trap_before}
use Rattle.sh_kernel.specs.Calls.{after_take_signal}
use Rattle.sh_exec_waiting.specs.Asking.{ask_by, ask_turn, asked}
use Rattle.sh_exec_signals.specs.ReadLimit.{most_read}
use Rattle.sh_builtin_asking.specs.declared.answer.Answer.{Answer}
use Rattle.sh_builtin_outcome.specs.declared.rest.BuiltinRest.{BuiltinRest}
use Rattle.sh_laws.proofs.Resuming.{resumed_same}
use Rattle.sh_exec_shell.specs.Forks.{background_input, begun_substitution, fork_turn, is_foreground, is_more, launch_by, list_by, list_turn, made_shell, program_by, stage_by, stage_from, stage_input, stage_one, stage_shell, stage_turn, substitute_turn, substitution_by}
use Rattle.sh_exec_turns.specs.Groups.{behind_fork, released_fork}
use Rattle.sh_exec_shell.specs.Reduction.{act_at, act_behind, act_place, expanded_by, reduce}
use Rattle.sh_kernel.specs.State.{KernelState}
use Rattle.sh_kernel_descriptors.specs.declared.descriptor.DescriptorRef.TheVariants.{Aside, Number}
use Rattle.sh_syntax.specs.declared.tree.AndOr.{AndOr}
use Rattle.sh_syntax.specs.declared.tree.Command.{Command}
use Rattle.sh_syntax.specs.declared.tree.Command.TheOpen as layer
use Rattle.sh_syntax.specs.declared.tree.Command.TheVariants as command
use Rattle.sh_syntax.specs.declared.tree.Command.TheViews as view
use Rattle.sh_syntax.specs.declared.tree.Compound.{Compound}
use Rattle.sh_syntax.specs.declared.tree.CompoundList.{CompoundList}
use Rattle.sh_exec_actions.specs.declared.action.Launch.{Launch}
use Rattle.sh_exec_actions.specs.declared.action.Launch.TheVariants.{Foreground, Background}
use Rattle.sh_laws.proofs.CommandTurns.{choose}
use Rattle.sh_laws.specs.BeforeAction.{ActiveStands, FunctionsHold, PlaceHolds, RunStands}
use Rattle.sh_laws.specs.Beginnings.{CommandBegins, FormBegins, RedirectsBegin, by_definition, by_form, by_words}
use Rattle.sh_builtin_environment.specs.declared.outcome.BuiltinFault.{BuiltinFault}
use Rattle.sh_builtin_jobs.specs.Listing.{jobs_of, job_lines}
use Rattle.sh_builtin_jobs.specs.declared.listing.JobsCommand.{JobsCommand}
use Rattle.sh_exec_signals.specs.Prompting.{behind_job, is_waiting, job_to_tell, prompt_by, prompt_of, prompt_turn, stays, with_job_told}
use Rattle.sh_exec_turns.specs.Input.{input_taken, input_turn}
use Rattle.sh_jobs.specs.declared.line.JobForm.TheVariants.{Short}

-- ---- some functions less, and one more
without_hold : (functions : List Named) (name : List ℕ) → FunctionsHold functions → FunctionsHold (without functions name)
without_hold [] name h = tt
without_hold (function ∷ others) name h =
    let rest = without_hold others name h.1 in
    elim (not (has_name name function)) as (λ b. FunctionsHold (cond b (function ∷ without others name) (without others name))) [ true ↦ (h.0, rest) | false ↦ rest ]

behind_hold : (functions : List Named) (function : Named) → FunctionsHold functions → CommandBegins function.1 → FunctionsHold (functions ++ function ∷ [])
behind_hold [] function h b = (b, tt)
behind_hold (other ∷ others) function h b = (h.0, behind_hold others function h.1 b)

body_command : (body : Compound) → FormBegins (view.out-Compound body).form → RedirectsBegin (view.out-Compound body).redirects → CommandBegins (command.Compound body)
body_command body b r = by_form (command.Compound body) body (ap view.out-Command (sym (command.rolls-Compound body)) ∙ view.out-roll-Command (layer.Compound body)) b r

define_hold : (functions : List Named) (definition : Command) → FunctionsHold functions → CommandBegins definition → FunctionsHold (define_turn functions definition)
unfolding define_turn
define_hold functions definition h (by_words _ items e b) = subst (λ (z : Opened layer.Command-F). FunctionsHold (define_by functions z)) (sym e) h
define_hold functions definition h (by_form _ inner e b r) = subst (λ (z : Opened layer.Command-F). FunctionsHold (define_by functions z)) (sym e) h
define_hold functions definition h (by_definition _ name body e b r) =
    subst (λ (z : Opened layer.Command-F). FunctionsHold (define_by functions z)) (sym e)
    (behind_hold (without functions name.name) (name.name, command.Compound body) (without_hold functions name.name h) (body_command body b r))

-- ---- unset
without_all_hold : (functions : List Named) (names : List (List ℕ)) → FunctionsHold functions → FunctionsHold (without_all functions names)
without_all_hold functions [] h = h
without_all_hold functions (name ∷ names) h =
    choose FunctionsHold (is_name name) (without_all (without functions name) names) functions
    (λ e. without_all_hold (without functions name) names (without_hold functions name h)) (λ e. h)

unset_hold : (functions : List Named) (names : Option (List (List ℕ))) → FunctionsHold functions → FunctionsHold (unset_by functions names)
unset_hold functions None h = h
unset_hold functions (Some names) h = without_all_hold functions names h

-- ---- built-ins, and what is entered
abbrev Keeps : Shell → Type 0
Keeps shell = FunctionsHold shell.functions

jobs_ran_keeps : (s : KernelState) (shell : Shell) (asked : Result JobsCommand BuiltinFault) → Keeps shell → Keeps (jobs_ran s shell asked).shell
jobs_ran_keeps s shell (Ok command) f = f
jobs_ran_keeps s shell (Err why) f = f

built_in_keeps : (s : KernelState) (shell : Shell) (last : ℕ) (b : Builtin) (arguments : List (List ℕ)) → Keeps shell → Keeps (built_in s shell last b arguments).shell
unfolding built_in
built_in_keeps s shell last builtin.Alias arguments f = f
built_in_keeps s shell last builtin.Bg arguments f = f
built_in_keeps s shell last builtin.Bracket arguments f = f
built_in_keeps s shell last builtin.Break arguments f = f
built_in_keeps s shell last builtin.Cd arguments f = f
built_in_keeps s shell last builtin.Colon arguments f = f
built_in_keeps s shell last builtin.Command arguments f = f
built_in_keeps s shell last builtin.Continue arguments f = f
built_in_keeps s shell last builtin.Dot arguments f = f
built_in_keeps s shell last builtin.Echo arguments f = f
built_in_keeps s shell last builtin.Eval arguments f = f
built_in_keeps s shell last builtin.Exec arguments f = f
built_in_keeps s shell last builtin.Exit arguments f = f
built_in_keeps s shell last builtin.Export arguments f = f
built_in_keeps s shell last builtin.False arguments f = f
built_in_keeps s shell last builtin.Fg arguments f = f
built_in_keeps s shell last builtin.Jobs arguments f = jobs_ran_keeps s (up_to_date s shell) (jobs_of arguments) f
built_in_keeps s shell last builtin.Kill arguments f = f
built_in_keeps s shell last builtin.Pwd arguments f = f
built_in_keeps s shell last builtin.Read arguments f = f
built_in_keeps s shell last builtin.ReadOnly arguments f = f
built_in_keeps s shell last builtin.Return arguments f = f
built_in_keeps s shell last builtin.Set arguments f = f
built_in_keeps s shell last builtin.Shift arguments f = f
built_in_keeps s shell last builtin.Test arguments f = f
built_in_keeps s shell last builtin.Trap arguments f = f
built_in_keeps s shell last builtin.True arguments f = f
built_in_keeps s shell last builtin.Unalias arguments f = f
built_in_keeps s shell last builtin.Unset arguments f = unset_hold shell.functions (functions_to_unset arguments) f
built_in_keeps s shell last builtin.Wait arguments f = f

evaluation_keeps : (levels : ℕ) (shell : Shell) (how : TextRun) (text : List ℕ) → Keeps shell → Keeps (evaluation levels shell how text).shell
evaluation_keeps zero shell how text f = f
evaluation_keeps (suc levels) shell how text f = f

call_keeps : (levels : ℕ) (shell : Shell) (body : Command) (arguments : List (List ℕ)) → Keeps shell → Keeps (call levels shell body arguments).shell
call_keeps zero shell body arguments f = f
call_keeps (suc levels) shell body arguments f = f

performed_keeps : (levels : ℕ) (shell : Shell) (active : Active) → Keeps shell → Keeps (performed levels shell active).shell
performed_keeps levels shell (Acting b fields) f = f
performed_keeps levels shell (Calling body fields) f = call_keeps levels shell body (drop 1 fields) f
performed_keeps levels shell (Evaluating how text) f = evaluation_keeps levels shell how text f
performed_keeps levels shell (Next place) f = f
performed_keeps levels shell (Done status) f = f
performed_keeps levels shell (Leaving l) f = f

effect_keeps : (around : List Form) (s : KernelState) (shell : Shell) (active : Active) → Keeps shell → Keeps (effect_at around s shell active).shell
unfolding builtin_effect invoked
effect_keeps around s shell (Acting i fields) f =
    let last = last_for around i.builtin shell.vars.special.status in
    let d = invoked s shell last i (drop 1 fields) in
    performed_keeps (levels_left around) d.shell (behind i.builtin d.outcome) (built_in_keeps s shell last i.builtin (drop 1 fields) f)
effect_keeps around s shell (Calling body fields) f = call_keeps (levels_left around) shell body (drop 1 fields) f
effect_keeps around s shell (Evaluating how text) f = evaluation_keeps (levels_left around) shell how text f
effect_keeps around s shell (Next place) f = f
effect_keeps around s shell (Done status) f = f
effect_keeps around s shell (Leaving l) f = f

-- ---- forms
undone_keeps : (undo : Undo) (s : KernelState) (shell : Shell) (run : Run) → Keeps shell → Keeps (undone undo s shell run).shell
unfolding undone
undone_keeps undo s shell run f = f

ended_keeps : (around : List Form) (form : Form) (s : KernelState) (shell : Shell) (status : CommandStatus) → Keeps shell → Keeps (after_status around form s shell status).shell
ended_keeps around (Text rest) s shell status f = f
ended_keeps around (Input rest) s shell status f = f
ended_keeps around (Commands items) s shell status f = f
ended_keeps around (Joined others) s shell status f = f
ended_keeps around Negated s shell status f = f
ended_keeps around (Restoring undo) s shell status f = undone_keeps undo s shell (At (Done status)) f
ended_keeps around (If branches) s shell status f = f
ended_keeps around (Condition loop last) s shell status f = f
ended_keeps around (Body loop) s shell status f = f
ended_keeps around (ForBody series) s shell status f = f
ended_keeps around (Call positional) s shell status f = f
ended_keeps around (Evaluation how) s shell status f = f
ended_keeps around (Trapped before) s shell status f = f
ended_keeps around (Interruption before next) s shell status f = f
ended_keeps around FailuresIgnored s shell status f = f

loop_left_keeps : (looped : Bool) (l : Leave) (s : KernelState) (shell : Shell) (next : Run) → Keeps shell → Keeps (loop_left s shell next (onward looped l)).shell
loop_left_keeps looped (leave.Exit status) s shell next f = f
loop_left_keeps looped (leave.Fault status) s shell next f = f
loop_left_keeps looped (leave.Return status) s shell next f = f
loop_left_keeps looped (leave.Break zero) s shell next f = f
loop_left_keeps false (leave.Break (suc inside)) s shell next f = f
loop_left_keeps true (leave.Break (suc inside)) s shell next f = f
loop_left_keeps looped (leave.Continue zero) s shell next f = f
loop_left_keeps false (leave.Continue (suc inside)) s shell next f = f
loop_left_keeps true (leave.Continue (suc inside)) s shell next f = f

text_left_keeps : (goes_on : Bool) (s : KernelState) (shell : Shell) (rest : List ℕ) (l : Leave) → Keeps shell → Keeps (dropped_in_text goes_on s shell rest l).shell
text_left_keeps true s shell rest (leave.Exit status) f = f
text_left_keeps true s shell rest (leave.Fault status) f = f
text_left_keeps true s shell rest (leave.Return status) f = f
text_left_keeps true s shell rest (leave.Break inside) f = f
text_left_keeps true s shell rest (leave.Continue inside) f = f
text_left_keeps false s shell rest l f = f

input_left_keeps : (s : KernelState) (shell : Shell) (l : Leave) → Keeps shell → Keeps (input_left s shell l).shell
input_left_keeps s shell (leave.Exit status) f = f
input_left_keeps s shell (leave.Fault status) f = f
input_left_keeps s shell (leave.Return status) f = f
input_left_keeps s shell (leave.Break inside) f = f
input_left_keeps s shell (leave.Continue inside) f = f

place_left_keeps : (around : List Form) (s : KernelState) (shell : Shell) (next : Action) (l : Leave) → Keeps shell → Keeps (place_left around s shell next l).shell
place_left_keeps around s shell (Reading rest status) l f = text_left_keeps (goes_on_reading around shell) s shell rest l f
place_left_keeps around s shell (ReadInput b) l f = input_left_keeps s shell l f
place_left_keeps around s shell (Prompting b) l f = f
place_left_keeps around s shell (Expanding wants pending) l f = f
place_left_keeps around s shell (ReadSubstitution substitution) l f = f
place_left_keeps around s shell (WaitSubstitution substitution) l f = f
place_left_keeps around s shell (Asking rest) l f = f
place_left_keeps around s shell (WaitForJob wait) l f = f
place_left_keeps around s shell (Redirecting p) l f = f
place_left_keeps around s shell (Forking p) l f = f
place_left_keeps around s shell (Starting start) l f = f
place_left_keeps around s shell (ForkStage stages) l f = f
place_left_keeps around s shell (ForkList list) l f = f
place_left_keeps around s shell (AssignLoopVariable series) l f = loop_left_keeps (has_loop around) l s shell (At (rest_of_series series (unexcused 0))) f
place_left_keeps around s shell (Defining definition) l f = f
place_left_keeps around s shell (Waiting wait) l f = f
place_left_keeps around s shell (Writing piece finish) l f = f
place_left_keeps around s shell (Trapping status) l f = f
place_left_keeps around s shell (Ending status) l f = f

left_keeps : (around : List Form) (form : Form) (s : KernelState) (shell : Shell) (l : Leave) → Keeps shell → Keeps (after_leave around form s shell l).shell
left_keeps around (Text rest) s shell l f = text_left_keeps (goes_on_reading around shell) s shell rest l f
left_keeps around (Input rest) s shell l f = input_left_keeps s shell l f
left_keeps around (Commands items) s shell l f = f
left_keeps around (Joined others) s shell l f = f
left_keeps around Negated s shell l f = f
left_keeps around (Restoring undo) s shell l f = undone_keeps undo s shell (At (Leaving l)) f
left_keeps around (If branches) s shell l f = f
left_keeps around (Condition loop last) s shell l f = loop_left_keeps (has_loop around) l s shell (condition_run loop last) f
left_keeps around (Body loop) s shell l f = loop_left_keeps (has_loop around) l s shell (condition_run loop (unexcused 0)) f
left_keeps around (ForBody series) s shell l f = loop_left_keeps (has_loop around) l s shell (At (rest_of_series series (unexcused 0))) f
left_keeps around (Call positional) s shell l f = f
left_keeps around (Evaluation how) s shell l f = f
left_keeps around (Trapped before) s shell l f = f
left_keeps around (Interruption before next) s shell l f = place_left_keeps around s shell next l f
left_keeps around FailuresIgnored s shell l f = f

after_by_keeps : (around : List Form) (form : Form) (s : KernelState) (shell : Shell) (run : Run) → Keeps shell → Keeps (after_by around form s shell run).shell
after_by_keeps around form s shell (At (Done status)) f = ended_keeps around form s shell status f
after_by_keeps around form s shell (At (Leaving l)) f = left_keeps around form s shell l f
after_by_keeps around form s shell (At (Acting b fields)) f = f
after_by_keeps around form s shell (At (Calling body fields)) f = f
after_by_keeps around form s shell (At (Evaluating how text)) f = f
after_by_keeps around form s shell (At (Next place)) f = f
after_by_keeps around form s shell (In inner run) f = f

after_keeps : (around : List Form) (form : Form) (a : Acted) → Keeps a.shell → Keeps (after around form a).shell
unfolding after
after_keeps around form a f = after_by_keeps around form a.machine a.shell a.run f

pub settled_keeps : (around : List Form) (s : KernelState) (shell : Shell) (run : Run) → Keeps shell → Keeps (at_action around s shell run).shell
settled_keeps around s shell (At active) f = effect_keeps around s shell active f
settled_keeps around s shell (In form run) f = after_keeps around form (at_action (form ∷ around) s shell run) (settled_keeps (form ∷ around) s shell run f)

-- ---- what a substitution's process writes
collected_keeps : (s : KernelState) (shell : Shell) (substitution : Substitution) (aside : ℕ) → Keeps shell → Keeps (after_collection s shell substitution aside).shell
unfolding after_collection
collected_keeps s shell substitution aside f = f

abbrev ActedKeeps : Acted → Type 0
ActedKeeps a = Keeps a.shell

abbrev PlacedKeeps : Placed → Type 0
PlacedKeeps p = Keeps p.shell

collect_by_keeps : (s : KernelState) (shell : Shell) (substitution : Substitution) (aside : ℕ) (told : ReadOutcome) → Keeps shell → ActedKeeps (collect_by s shell substitution aside told)
collect_by_keeps s shell substitution aside (taken.Bytes bytes) f =
    choose ActedKeeps (nat_eq (length bytes) 0) (after_collection s shell substitution aside) (with_run s shell (next (ReadSubstitution (with_written substitution bytes))))
    (λ e. collected_keeps s shell substitution aside f) (λ e. f)
collect_by_keeps s shell substitution aside taken.Wait f = f
collect_by_keeps s shell substitution aside taken.Failed f = collected_keeps s shell substitution aside f

collect_end_keeps : (s : KernelState) (shell : Shell) (substitution : Substitution) (o : Option ℕ) → Keeps shell → ActedKeeps (collect_end s shell substitution o)
unfolding collect_from
collect_end_keeps s shell substitution None f = f
collect_end_keeps s shell substitution (Some aside) f =
    let t = take_bytes s shell.pid (Aside aside) 1024 in collect_by_keeps t.after shell substitution aside t.told f

collect_keeps : (s : KernelState) (shell : Shell) (substitution : Substitution) → Keeps shell → ActedKeeps (collect_turn s shell substitution)
unfolding collect_turn
collect_keeps s shell substitution f = collect_end_keeps s shell substitution substitution.aside f

-- ---- a built-in asks
ask_by_keeps : (s : KernelState) (shell : Shell) (rest : BuiltinRest) (o : Option Answer) → Keeps shell → PlacedKeeps (ask_by s shell rest o)
ask_by_keeps s shell rest None f = f
ask_by_keeps s shell rest (Some answer) f = subst FunctionsHold (sym (resumed_same s shell rest answer).functions) f

ask_keeps : (s : KernelState) (shell : Shell) (rest : BuiltinRest) → Keeps shell → PlacedKeeps (ask_turn s shell rest)
unfolding ask_turn
ask_keeps s shell rest f = let a = asked s shell rest in ask_by_keeps a.after shell rest a.answer f

-- ---- redirections, writes, and the end
redirect_from_keeps : (s : KernelState) (shell : Shell) (p : ExpandedCommand) (redirections : List Redirection) → Keeps shell → ActedKeeps (redirect_from s shell p redirections)
unfolding redirect_one
redirect_from_keeps s shell p [] f = f
redirect_from_keeps s shell p (redirection ∷ redirections) f = f

redirect_keeps : (s : KernelState) (shell : Shell) (p : ExpandedCommand) → Keeps shell → ActedKeeps (redirect_turn s shell p)
unfolding redirect_turn
redirect_keeps s shell p f = redirect_from_keeps s shell p p.redirections f

write_keeps : (s : KernelState) (shell : Shell) (piece : Piece) (finish : Finish) → Keeps shell → ActedKeeps (write_turn s shell piece finish)
unfolding write_turn
write_keeps s shell piece finish f = f

end_keeps : (s : KernelState) (shell : Shell) (status : ℕ) → Keeps shell → ActedKeeps (end_turn s shell status)
unfolding end_turn
end_keeps s shell status f = f

-- ---- the trap on EXIT
trap_by_keeps : (s : KernelState) (shell : Shell) (status : ℕ) (action : Option (List ℕ)) → Keeps shell → ActedKeeps (trap_by s shell status action)
trap_by_keeps s shell status None f = f
trap_by_keeps s shell status (Some text) f = f

trap_keeps : (s : KernelState) (shell : Shell) (status : ℕ) → Keeps shell → ActedKeeps (trap_turn s shell status)
unfolding trap_turn
trap_keeps s shell status f = trap_by_keeps s shell status (action_of shell.traps Exit) f

-- ---- a trap on a signal
before_keeps : (shell : Shell) (place : Action) → Keeps shell → Keeps (shell_before shell place)
before_keeps shell (Reading rest status) f = f
before_keeps shell (Prompting b) f = f
before_keeps shell (ReadInput b) f = f
before_keeps shell (Expanding wants pending) f = f
before_keeps shell (ReadSubstitution substitution) f = f
before_keeps shell (WaitSubstitution substitution) f = f
before_keeps shell (Asking rest) f = f
before_keeps shell (WaitForJob wait) f = f
before_keeps shell (Redirecting p) f = f
before_keeps shell (Forking p) f = f
before_keeps shell (Starting start) f = f
before_keeps shell (ForkStage stages) f = f
before_keeps shell (ForkList list) f = f
before_keeps shell (AssignLoopVariable series) f = f
before_keeps shell (Defining definition) f = f
before_keeps shell (Waiting wait) f = f
before_keeps shell (Writing piece finish) f = f
before_keeps shell (Trapping status) f = f
before_keeps shell (Ending status) f = f

interrupted_keeps : (levels : ℕ) (s : KernelState) (shell : Shell) (place : Action) (text : List ℕ) → Keeps shell → ActedKeeps (interrupted levels s shell place text)
interrupted_keeps zero s shell place text f = f
interrupted_keeps (suc levels) s shell place text f = f

interruption_keeps : (around : List Form) (s : KernelState) (shell : Shell) (place : Action) (text : List ℕ) → Keeps shell → ActedKeeps (interruption around s shell place text)
unfolding interruption
interruption_keeps around s shell place text f =
    interrupted_keeps (levels_left around) (after_take_signal s shell.pid) (shell_before shell place) place text (before_keeps shell place f)

-- ---- a wait for a pipeline
controlled_keeps : (s : KernelState) (shell : Shell) (children text : List ℕ) (state : JobState) → Keeps shell → PlacedKeeps (controlled_by s shell children text state)
controlled_keeps s shell children text Running f = f
controlled_keeps s shell children text (Suspended signal) f = f
controlled_keeps s shell children text (state.Done ending) f = f

wait_with_keeps : (s : KernelState) (shell : Shell) (children : List ℕ) (job : Option (List ℕ)) → Keeps shell → PlacedKeeps (wait_with s shell children job)
wait_with_keeps s shell children None f = f
wait_with_keeps s shell children (Some text) f = controlled_keeps s shell children text (state_of s.machine.processes children) f

wait_keeps : (s : KernelState) (shell : Shell) (wait : PipelineWait) → Keeps shell → PlacedKeeps (wait_turn s shell wait)
unfolding wait_turn
wait_keeps s shell wait f = wait_with_keeps s shell wait.children wait.job f

-- ---- the job in the foreground is waited for
job_ended_keeps : (s : KernelState) (shell : Shell) (wait : JobWait) (o : Option ℕ) → Keeps shell → PlacedKeeps (job_ended s shell wait o)
job_ended_keeps s shell wait None f = f
job_ended_keeps s shell wait (Some status) f = f

job_wait_by_keeps : (s : KernelState) (shell : Shell) (wait : JobWait) (state : JobState) → Keeps shell → PlacedKeeps (job_wait_by s shell wait state)
job_wait_by_keeps s shell wait Running f = f
job_wait_by_keeps s shell wait (Suspended signal) f = f
job_wait_by_keeps s shell wait (state.Done ending) f =
    let t = terminal_back s shell.pid in job_ended_keeps t shell wait (wait_status t shell.pid wait.processes) f

job_wait_keeps : (s : KernelState) (shell : Shell) (wait : JobWait) → Keeps shell → PlacedKeeps (job_wait_turn s shell wait)
unfolding job_wait_turn
job_wait_keeps s shell wait f = job_wait_by_keeps s shell wait (state_of s.machine.processes wait.processes) f

-- ---- processes that are made
program_keeps : (around : List Form) (s : KernelState) (shell : Shell) (p : ExpandedCommand) (o : Option ℕ) → Keeps shell → ActedKeeps (program_by around s shell p o).left
program_keeps around s shell p None f = f
program_keeps around s shell p (Some child) f = f

fork_keeps : (around : List Form) (s : KernelState) (shell : Shell) (p : ExpandedCommand) → Keeps shell → ActedKeeps (fork_turn around s shell p).left
unfolding fork_turn
fork_keeps around s shell p f =
    let forked = fork_of s shell.pid None false in program_keeps around (behind_fork shell true [] forked.child forked.after) shell p forked.child f

made_keeps : (s : KernelState) (launch : Launch) (shell : Shell) (children : List ℕ) → Keeps shell → Keeps (made_shell s launch shell children)
made_keeps s (Foreground job) shell children f = f
made_keeps s (Background list) shell children f = f

stage_shell_keeps : (s : KernelState) (launch : Launch) (commands : List Command) (shell : Shell) (children : List ℕ) → Keeps shell → Keeps (stage_shell s launch commands shell children)
stage_shell_keeps s launch [] shell children f = made_keeps s launch shell children f
stage_shell_keeps s launch (command ∷ commands) shell children f = f

stage_by_keeps : (s : KernelState) (shell : Shell) (command : Command) (stages : Stages) (o : Option ℕ) → Keeps shell → ActedKeeps (stage_by s shell command stages o).left
stage_by_keeps s shell command stages None f = f
stage_by_keeps s shell command stages (Some child) f = stage_shell_keeps s stages.launch stages.commands shell (stages.children ++ child ∷ []) f

stage_from_keeps : (s : KernelState) (shell : Shell) (stages : Stages) (commands : List Command) → Keeps shell → ActedKeeps (stage_from s shell stages commands).left
unfolding stage_one
stage_from_keeps s shell stages [] f = f
stage_from_keeps s shell stages (command ∷ commands) f =
    let l = stage_input stages.launch stages.children stages.aside shell s in
    let forked = fork_of l.after shell.pid l.aside (is_more commands) in
    stage_by_keeps (behind_fork shell (is_foreground stages.launch) stages.children forked.child forked.after) shell command
    (record stages { commands = commands; aside = forked.aside }) forked.child f

stage_keeps : (around : List Form) (s : KernelState) (shell : Shell) (stages : Stages) → Keeps shell → ActedKeeps (stage_turn around s shell stages).left
unfolding stage_turn
stage_keeps around s shell stages f =
    stage_from_keeps s shell (record stages { launch = launch_by around shell stages.commands stages.children stages.launch }) stages.commands f

list_by_keeps : (s : KernelState) (shell : Shell) (list : AndOr) (o : Option ℕ) → Keeps shell → ActedKeeps (list_by s shell list o).left
list_by_keeps s shell list None f = f
list_by_keeps s shell list (Some child) f = f

list_keeps : (s : KernelState) (shell : Shell) (list : AndOr) → Keeps shell → ActedKeeps (list_turn s shell list).left
unfolding list_turn
list_keeps s shell list f =
    let l = background_input (has_job_control shell) s shell in
    let forked = fork_of l.after shell.pid l.aside false in
    list_by_keeps (behind_fork shell false [] forked.child forked.after) shell list forked.child f

substitution_keeps : (s : KernelState) (shell : Shell) (program : CompoundList) (substitution : Substitution) (o : Option ℕ) → Keeps shell
    → ActedKeeps (substitution_by s shell program substitution o).left
substitution_keeps s shell program substitution None f = f
substitution_keeps s shell program substitution (Some child) f = f

substitute_keeps : (s : KernelState) (shell : Shell) (program : CompoundList) (wants : ToExpand) (pending : Pending) → Keeps shell
    → ActedKeeps (substitute_turn s shell program wants pending).left
unfolding substitute_turn
substitute_keeps s shell program wants pending f =
    let forked = released_fork shell (fork_of s shell.pid None true) in
    substitution_keeps forked.after shell program (begun_substitution wants pending forked.aside) forked.child f

expanded_keeps : (s : KernelState) (shell : Shell) (x : Expanded) → Keeps shell → ActedKeeps (expanded_by s shell x).left
expanded_keeps s shell (expanded.Need program wants pending) f = substitute_keeps s shell program wants pending f
expanded_keeps s shell (expanded.Go move) f = f

-- ---- the commands of an interactive shell
job_written_keeps : (c : Bool) (g : Giving) (shell : Shell) (b : Beginning) (number : ℕ) → Keeps shell
    → PlacedKeeps (if c then stays g.after shell b else behind_job g.after (with_job_told g.after shell number) b)
job_written_keeps true g shell b number f = f
job_written_keeps false g shell b number f = f

prompt_written_keeps : (c : Bool) (g : Giving) (shell : Shell) (b : Beginning) → Keeps shell
    → PlacedKeeps (if c then stays g.after shell b else at_place g.after shell (Next (ReadInput b)))
prompt_written_keeps true g shell b f = f
prompt_written_keeps false g shell b f = f

prompt_by_keeps : (s : KernelState) (shell : Shell) (b : Beginning) (o : Option ℕ) → Keeps shell → PlacedKeeps (prompt_by s shell b o)
prompt_by_keeps s shell b (Some number) f =
    let g = give_bytes s shell.pid 2 (job_lines s.machine.processes (up_to_date s shell).jobs Short (number ∷ [])) in
    job_written_keeps (is_waiting g.told) g (up_to_date s shell) b number f
prompt_by_keeps s shell b None f =
    let g = give_bytes s shell.pid 2 (prompt_of shell.vars b.text) in prompt_written_keeps (is_waiting g.told) g shell b f

prompt_keeps : (s : KernelState) (shell : Shell) (b : Beginning) → Keeps shell → PlacedKeeps (prompt_turn s shell b)
unfolding prompt_turn
prompt_keeps s shell b f = prompt_by_keeps s shell b (job_to_tell s shell b.text) f

input_taken_keeps : (s : KernelState) (shell : Shell) (b : Beginning) (told : ReadOutcome) → Keeps shell → ActedKeeps (input_taken s shell b told)
input_taken_keeps s shell b (taken.Bytes bytes) f = f
input_taken_keeps s shell b taken.Wait f = f
input_taken_keeps s shell b taken.Failed f = f

input_keeps : (s : KernelState) (shell : Shell) (b : Beginning) → Keeps shell → ActedKeeps (input_turn s shell b)
unfolding input_turn
input_keeps s shell b f =
    let t = take_bytes s shell.pid (Number 0) (most_read s.machine shell.pid) in input_taken_keeps t.after shell b t.told f

-- ---- the turn
place_keeps : (around : List Form) (s : KernelState) (shell : Shell) (place : Action) → PlaceHolds place → Keeps shell → ActedKeeps (act_place around s shell place).left
place_keeps around s shell (Reading rest status) h f = f
place_keeps around s shell (Prompting b) h f = prompt_keeps s shell b f
place_keeps around s shell (ReadInput b) h f = input_keeps s shell b f
place_keeps around s shell (Expanding wants pending) h f =
    let t = expand_turn s.machine.files shell.vars shell.functions wants pending in expanded_keeps s (record shell { vars = t.environment }) t.outcome f
place_keeps around s shell (ReadSubstitution substitution) h f = collect_keeps s shell substitution f
place_keeps around s shell (WaitSubstitution substitution) h f = f
place_keeps around s shell (Asking rest) h f = ask_keeps s shell rest f
place_keeps around s shell (WaitForJob wait) h f = job_wait_keeps s shell wait f
place_keeps around s shell (Redirecting p) h f = redirect_keeps s shell p f
place_keeps around s shell (Forking p) h f = fork_keeps around s shell p f
place_keeps around s shell (Starting start) h f = f
place_keeps around s shell (ForkStage stages) h f = stage_keeps around s shell stages f
place_keeps around s shell (ForkList list) h f = list_keeps s shell list f
place_keeps around s shell (AssignLoopVariable series) h f = f
place_keeps around s shell (Defining definition) h f = define_hold shell.functions definition f h
place_keeps around s shell (Waiting wait) h f = wait_keeps s shell wait f
place_keeps around s shell (Writing piece finish) h f = write_keeps s shell piece finish f
place_keeps around s shell (Trapping status) h f = trap_keeps s shell status f
place_keeps around s shell (Ending status) h f = end_keeps s shell status f

behind_keeps : (around : List Form) (s : KernelState) (shell : Shell) (place : Action) (trap : Option (List ℕ)) → PlaceHolds place → Keeps shell
    → ActedKeeps (act_behind around s shell place trap).left
behind_keeps around s shell place None h f = place_keeps around s shell place h f
behind_keeps around s shell place (Some text) h f = interruption_keeps around s shell place text f

active_keeps : (around : List Form) (s : KernelState) (shell : Shell) (active : Active) → ActiveStands active → Keeps shell → ActedKeeps (act_at around s shell active).left
active_keeps around s shell (Acting b fields) h f = f
active_keeps around s shell (Calling body fields) h f = f
active_keeps around s shell (Evaluating how text) h f = f
active_keeps around s shell (Next place) h f = behind_keeps around s shell place (trap_before s shell place) h f
active_keeps around s shell (Done status) h f = f
active_keeps around s shell (Leaving l) h f = f

pub functions_hold : (s : KernelState) (shell : Shell) (around : List Form) (run : Run) → RunStands run → FunctionsHold shell.functions
    → FunctionsHold (reduce s shell around run).left.shell.functions
functions_hold s shell around (At active) h f =
    let t = act_at around s shell active in settled_keeps around t.left.machine t.left.shell t.left.run (active_keeps around s shell active h f)
functions_hold s shell around (In form run) h f =
    after_keeps around form (reduce s shell (form ∷ around) run).left (functions_hold s shell (form ∷ around) run h.1 f)

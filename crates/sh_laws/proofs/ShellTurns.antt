-- A turn of a shell that stands before an action leaves it before one, and so does the shell that it makes.
use Rattle.std.proofs.Common.{◌≡◌, ℕ, zero, suc, List, [], ◌∷◌, ◌++◌, length, Option, Some, None, Bool, true, false, sym, subst}
use Rattle.std.specs.Prelude.{Result, Ok, Err, if◌then◌else◌, nat_eq}
use Rattle.sh_builtin_shell.specs.Functions.{Named}
use Rattle.sh_builtin_outcome.specs.Outcomes.{shell_status}
use Rattle.sh_builtin_outcome.specs.declared.outcome.Leave.TheVariants as leave
use Rattle.sh_builtin_environment.specs.TrapMaps.{action_of}
use Rattle.sh_signal.specs.declared.condition.Condition.TheVariants.{Exit}
use Rattle.sh_builtin_shell.specs.declared.shell.Shell.{Shell}
use Rattle.sh_exec_actions.specs.Preparing.{ahead, ahead_by, final_move, performed_by}
use Rattle.sh_exec_command.specs.Reading.{next_command, input_found}
use Rattle.sh_exec_command.specs.Series.{give_turn}
use Rattle.sh_exec_command.specs.declared.found.Found.{Found}
use Rattle.sh_exec_command.specs.declared.found.Found.TheVariants as found
use Rattle.sh_exec_actions.specs.Statuses.{unexcused}
use Rattle.sh_exec_actions.specs.declared.action.Active.{Active}
use Rattle.sh_exec_actions.specs.declared.action.Active.TheVariants.{Acting, Calling, Evaluating, Next, Done, Leaving}
use Rattle.sh_exec_actions.specs.declared.action.Expanded.{Expanded}
use Rattle.sh_exec_actions.specs.declared.action.Expanded.TheVariants as expanded
use Rattle.sh_exec_actions.specs.declared.action.Finish.{Finish}
use Rattle.sh_exec_forms.specs.Bodies.{body_of}
use Rattle.sh_exec_actions.specs.declared.action.Finish.TheVariants.{Status, Fault, Messages, Output}
use Rattle.sh_exec_actions.specs.declared.action.Move.{Move}
use Rattle.sh_exec_actions.specs.declared.action.Move.TheVariants as move
use Rattle.sh_expand.specs.Answers.{Pending}
use Rattle.sh_exec_actions.specs.declared.action.Action.{Action}
use Rattle.sh_exec_actions.specs.declared.action.Action.TheVariants.{Reading, Prompting, ReadInput, Expanding, ReadSubstitution, WaitSubstitution, Asking, WaitForJob, Redirecting, Forking, Starting, ForkStage, ForkList, AssignLoopVariable, Defining, Waiting, Writing, Trapping, Ending}
use Rattle.sh_exec_actions.specs.declared.action.ExpandedCommand.{ExpandedCommand}
use Rattle.sh_exec_actions.specs.declared.action.Role.TheVariants.{Program}
use Rattle.sh_exec_actions.specs.declared.action.Stages.{Stages}
use Rattle.sh_exec_actions.specs.declared.action.Substitution.{Substitution}
use Rattle.sh_exec_actions.specs.declared.action.ToExpand.{ToExpand}
use Rattle.sh_exec_actions.specs.declared.action.ToExpand.TheVariants.{Words, Values, Redirects, ForWords, CaseWord, CasePattern}
use Rattle.sh_exec_command.specs.declared.series.Round.{Round}
use Rattle.sh_exec_command.specs.declared.series.Round.TheVariants as round
use Rattle.sh_exec_forms.specs.Entering.{form_entry, form_of_command, form_run, items_run, list_run}
use Rattle.sh_exec_forms.specs.Moves.{move_run}
use Rattle.sh_exec_forms.proofs.Entered.{list_is}
use Rattle.sh_exec_settling.specs.Forms.{Acted, behind_status, with_run, goes_on_reading, at_action}
use Rattle.sh_exec_forms.specs.Frames.{ends_shell, is_failure_ignored, levels_left}
use Rattle.sh_exec_actions.specs.declared.beginning.Beginning.{Beginning}
use Rattle.sh_exec_actions.specs.declared.form.Form.{Form}
use Rattle.sh_exec_forms.specs.Running.{Run, At, In, InterpreterState, active_of}
use Rattle.sh_exec_machine.specs.Forking.{fork_of}
use Rattle.sh_exec_machine.specs.Redirecting.{redirection_outcome}
use Rattle.sh_exec_machine.specs.Transfers.{give_bytes, take_bytes}
use Rattle.sh_exec_machine.specs.declared.transfer.ReadOutcome.{ReadOutcome}
use Rattle.sh_exec_machine.specs.declared.transfer.ReadOutcome.TheVariants as taken
use Rattle.sh_exec_machine.specs.declared.transfer.WriteOutcome.{WriteOutcome}
use Rattle.sh_exec_machine.specs.declared.transfer.WriteOutcome.TheVariants as given
use Rattle.sh_exec_machine.specs.declared.undone.Undone.{Undone}
use Rattle.sh_exec_parts.specs.declared.message.Piece.{Piece}
use Rattle.sh_exec_parts.specs.declared.redirection.Redirection.{Redirection}
use Rattle.sh_exec_parts.specs.declared.simple.Assignment.{Assignment}
use Rattle.sh_exec_turns.specs.Acting.{after_collection, collect_by, collect_end, collect_from, collect_turn, end_turn, ending_by, expand_turn, keeps, next, read_turn, redirect_by, redirect_from, redirect_one, redirect_turn, round_run, trap_by, trap_turn, with_undo, with_written, without_trap, write_turn}
use Rattle.sh_exec_actions.specs.declared.action.PipelineWait.{PipelineWait}
use Rattle.sh_builtin_outcome.specs.declared.rest.JobWait.{JobWait}
use Rattle.sh_exec_waiting.specs.JobWaits.{job_ended, job_wait_by, job_wait_turn, with_suspended}
use Rattle.sh_exec_waiting.specs.Waiting.{answer_by, answer_turn, controlled_by, job_line, terminal_back, told, wait_by, wait_turn, wait_with, with_substitution, is_brought_back, waited}
use Rattle.sh_exec_machine.specs.Waits.{signal_status, wait_status}
use Rattle.sh_jobs.specs.States.{state_of}
use Rattle.sh_jobs.specs.Table.{free_number}
use Rattle.sh_jobs.specs.declared.state.JobState.{JobState}
use Rattle.sh_jobs.specs.declared.state.JobState.TheVariants.{Running, Suspended}
use Rattle.sh_jobs.specs.declared.state.JobState.TheVariants as state
use Rattle.sh_exec_waiting.specs.Writing.{after_writing, unwritten, written_by}
use Rattle.sh_exec_signals.specs.Placed.{Placed, at_place}
use Rattle.sh_exec_signals.specs.Signals.{after_drop}
use Rattle.sh_exec_turns.specs.Traps.{interrupted, interruption, shell_before, trap_before, drops_before}
use Rattle.sh_kernel.specs.Calls.{after_take_signal}
use Rattle.sh_builtin_shell.specs.Shells.{after_suspension, has_job_control, up_to_date, is_interactive}
use Rattle.sh_exec_waiting.specs.Asking.{ask_by, ask_turn, asked}
use Rattle.sh_exec_signals.specs.ReadLimit.{most_read}
use Rattle.sh_builtin_asking.specs.Resuming.{resumed}
use Rattle.sh_builtin_asking.specs.declared.answer.Answer.{Answer}
use Rattle.sh_builtin_outcome.specs.Rests.{asker_of}
use Rattle.sh_builtin_outcome.specs.declared.rest.BuiltinRest.{BuiltinRest}
use Rattle.sh_exec_shell.specs.Forks.{background_input, begun_substitution, Turned, fork_failure, fork_turn, inherited, is_foreground, is_more, launch_by, list_by, list_turn, made_place, program_by, stage_by, stage_from, stage_input, stage_one, stage_place, stage_turn, substitute_turn, substitution_by, place_of_none, launched_by}
use Rattle.sh_exec_turns.specs.Groups.{behind_fork, released}
use Rattle.sh_exec_shell.specs.Reduction.{act_at, act_behind, act_place, at_root, expanded_by, reduce, shell_turn, drop_at, drop_first, dropped_run, rooted, turn_from}
use Rattle.sh_files.specs.Nodes.{FileMap}
use Rattle.sh_kernel.specs.State.{KernelState}
use Rattle.sh_kernel_descriptors.specs.declared.descriptor.DescriptorRef.TheVariants.{Aside, Number}
use Rattle.sh_kernel_descriptors.specs.declared.fault.KernelFault.{KernelFault}
use Rattle.sh_syntax.specs.declared.tree.AndOr.{AndOr}
use Rattle.sh_syntax.specs.declared.tree.Command.{Command}
use Rattle.sh_syntax.specs.declared.tree.Command.TheViews as view
use Rattle.sh_syntax.specs.declared.tree.CompoundList.{CompoundList}
use Rattle.sh_exec_actions.specs.declared.action.Launch.{Launch}
use Rattle.sh_exec_actions.specs.declared.action.Launch.TheVariants.{Foreground, Background}
use Rattle.sh_vars.specs.Environment.{Environment}
use Rattle.sh_laws.proofs.FunctionTurns.{functions_hold, settled_keeps}
use Rattle.sh_laws.proofs.NeededPrograms.{ItsItems}
use Rattle.sh_laws.specs.BeforeAction.{ActedStands, ActiveStands, AssignmentsHold, ChildStands, FoundBegins, FunctionsHold, InterpreterStands, PendingHolds, PlaceHolds, RoleHolds, RunStands, SubstitutionHolds, WantedBegin, WantsHold}
use Rattle.sh_laws.specs.Beginnings.{AndOrBegins, CommandBegins, CommandsBegin, by_definition, by_form, by_words, more_commands, no_commands}
use Rattle.sh_laws.proofs.BegunCommands.{and_or_stands, form_stands, list_stands}
use Rattle.sh_laws.proofs.BegunProcesses.{body_stands, stage_stands}
use Rattle.sh_laws.proofs.CommandTurns.{ActiveHolds, CommandHolds, ExpandedHolds, MoveHolds, RoundHolds, TurnHolds, ahead_holds, assign_holds, case_holds, choose, give_holds, next_holds, not_done_holds, pattern_holds, redirects_hold, series_hold, words_hold, InputBegins, input_begins}
use Rattle.sh_laws.proofs.SettledForms.{Holds, Settled, after_settled, at_action_settled, items_settled, outcome_holds, reported_holds, settled_holds, stands_holds, input_action_holds}
use Rattle.sh_exec_signals.specs.Prompting.{behind_job, is_waiting, job_to_tell, prompt_by, prompt_of, prompt_turn, stays, with_job_told, input_action}
use Rattle.sh_exec_actions.specs.Beginnings.{aliases_of, begun, not_begun}
use Rattle.sh_aliases.specs.Aliases.{AliasTable}
use Rattle.sh_exec_turns.specs.Input.{behind_blank, ends_line, input_read, input_run, input_taken, input_turn}
use Rattle.sh_exec_command.specs.declared.found.InputFound.{InputFound}
use Rattle.sh_exec_command.specs.declared.found.InputFound.TheVariants as input
use Rattle.sh_exec_shell.proofs.Frames.{whole}
use Rattle.sh_exec_forms.specs.Stacks.{path_of, run_in, run_of}
use Rattle.sh_builtin_jobs.specs.Listing.{job_lines}
use Rattle.sh_jobs.specs.declared.line.JobForm.TheVariants.{Short}

-- what an action leaves, before it is settled
abbrev pub ActedHolds : Acted → Type 0
ActedHolds a = Holds a.run

abbrev pub PlacedHolds : Placed → Type 0
PlacedHolds p = ActiveHolds p.active

abbrev pub TurnedHolds : Turned → Type 0
TurnedHolds t = Holds t.left.run × ChildStands t.child

form_run_holds : (command : Command) → CommandBegins command → CommandBegins command → Holds (form_run command)
unfolding form_run
form_run_holds command c (by_words _ items e b) = subst (λ z. Holds (form_of_command z command)) (sym e) tt
form_run_holds command c (by_definition _ name body e b r) = subst (λ z. Holds (form_of_command z command)) (sym e) tt
form_run_holds command c (by_form _ inner e b r) =
    subst (λ z. Holds (form_of_command z command)) (sym e)
    (stands_holds (form_entry (view.out-Compound inner).form command) (form_stands (view.out-Compound inner).form b command c))

move_holds : (m : Move) → MoveHolds m → Holds (move_run m)
move_holds (move.At active) h = h
move_holds (move.Held undo active) h = (tt, h)
move_holds (move.Enter list) h =
    settled_holds (list_run list) (subst Settled (sym (list_is list)) (items_settled (view.out-CompoundList list).items (unexcused 0) h))
move_holds (move.Compound undo command) h = (tt, form_run_holds command h h)
move_holds (move.Subshell list) h = stands_holds (body_of list) (body_stands list h)

-- ---- reading and expansion
read_holds : (ends_shell reads_on : Bool) (env : Environment) (status : ℕ) (f : Found) → FoundBegins f → Holds (read_turn ends_shell reads_on env status f)
read_holds ends_shell reads_on env status found.Nothing h = tt
read_holds ends_shell reads_on env status (found.Command tree rest) h =
    let items = (view.out-CompoundList tree).items in
    (tt, settled_holds (items_run items (unexcused env.special.status)) (items_settled items (unexcused env.special.status) h))
read_holds ends_shell true env status (found.Fault why rest) h = (tt, tt)
read_holds ends_shell false env status (found.Fault why rest) h = tt

expand_holds : (files : FileMap) (env : Environment) (functions : List Named) (wants : ToExpand) (pending : Option Pending) → FunctionsHold functions → WantsHold wants
    → PendingHolds pending → TurnHolds (expand_turn files env functions wants pending)
expand_holds files env functions (Words command in_place status) pending f h k = words_hold files env functions command in_place status pending f h k
expand_holds files env functions (Values p) pending f h k = assign_holds files env p pending h k
expand_holds files env functions (Redirects command) pending f h k = redirects_hold files env command pending h k
expand_holds files env functions (ForWords command) pending f h k = series_hold files env command pending h k
expand_holds files env functions (CaseWord command) pending f h k = case_holds files env command pending h k
expand_holds files env functions (CasePattern case) pending f h k = pattern_holds env case pending h k

-- ---- a program's process begins with its redirections, its assignments or its start
program_stands : (p : ExpandedCommand) → p.role ≡ Program → RunStands (move_run (performed_by p p.role))
program_stands p e = subst (λ r. RunStands (move_run (performed_by p r))) (sym e) tt

ahead_stands : (p : ExpandedCommand) (redirections : List Redirection) (assignments : List Assignment) → p.role ≡ Program → AssignmentsHold p.assignments → RunStands (move_run (ahead_by p redirections assignments))
unfolding final_move
ahead_stands p (redirection ∷ redirections) assignments e h = (subst RoleHolds (sym e) tt, h)
ahead_stands p [] (assignment ∷ assignments) e h = ((subst RoleHolds (sym e) tt, h), tt)
ahead_stands p [] [] e h = program_stands p e

-- ---- what a substitution's process writes
collected_holds : (s : KernelState) (shell : Shell) (substitution : Substitution) (aside : ℕ) → SubstitutionHolds substitution → ActedHolds (after_collection s shell substitution aside)
unfolding after_collection
collected_holds s shell substitution aside h = h

collect_by_holds : (s : KernelState) (shell : Shell) (substitution : Substitution) (aside : ℕ) (told : ReadOutcome) → SubstitutionHolds substitution
    → ActedHolds (collect_by s shell substitution aside told)
collect_by_holds s shell substitution aside (taken.Bytes bytes) h =
    choose ActedHolds (nat_eq (length bytes) 0) (after_collection s shell substitution aside) (with_run s shell (next (ReadSubstitution (with_written substitution bytes))))
    (λ e. collected_holds s shell substitution aside h) (λ e. h)
collect_by_holds s shell substitution aside taken.Wait h = h
collect_by_holds s shell substitution aside taken.Failed h = collected_holds s shell substitution aside h

collect_end_holds : (s : KernelState) (shell : Shell) (substitution : Substitution) (o : Option ℕ) → SubstitutionHolds substitution → ActedHolds (collect_end s shell substitution o)
unfolding collect_from
collect_end_holds s shell substitution None h = h
collect_end_holds s shell substitution (Some aside) h = let t = take_bytes s shell.pid (Aside aside) 1024 in collect_by_holds t.after shell substitution aside t.told h

collect_holds : (s : KernelState) (shell : Shell) (substitution : Substitution) → SubstitutionHolds substitution → ActedHolds (collect_turn s shell substitution)
unfolding collect_turn
collect_holds s shell substitution h = collect_end_holds s shell substitution substitution.aside h

-- ---- a built-in asks
ask_by_holds : (s : KernelState) (shell : Shell) (rest : BuiltinRest) (o : Option Answer) → PlacedHolds (ask_by s shell rest o)
ask_by_holds s shell rest None = tt
ask_by_holds s shell rest (Some answer) = outcome_holds (asker_of rest) (resumed s shell rest answer).outcome

ask_holds : (s : KernelState) (shell : Shell) (rest : BuiltinRest) → PlacedHolds (ask_turn s shell rest)
unfolding ask_turn
ask_holds s shell rest = let a = asked s shell rest in ask_by_holds a.after shell rest a.answer

-- ---- waits
with_status_holds : (wants : ToExpand) (status : ℕ) → WantsHold wants → WantsHold (with_substitution wants status)
with_status_holds (Words command in_place before) status h = h
with_status_holds (Values p) status h = h
with_status_holds (Redirects command) status h = h
with_status_holds (ForWords command) status h = h
with_status_holds (CaseWord command) status h = h
with_status_holds (CasePattern case) status h = h

answer_by_holds : (substitution : Substitution) (o : Option ℕ) → SubstitutionHolds substitution → PlaceHolds (answer_by substitution o)
answer_by_holds substitution None h = h
answer_by_holds substitution (Some status) h = (with_status_holds substitution.wants status h.0, h.1)

answer_holds : (s : KernelState) (pid : ℕ) (substitution : Substitution) → SubstitutionHolds substitution → PlaceHolds (answer_turn s pid substitution)
unfolding answer_turn
answer_holds s pid substitution h = answer_by_holds substitution (wait_status s pid substitution.children) h

waited_by_holds : (b : Bool) (status : ℕ) → ActiveHolds (if b then Leaving (leave.Fault status) else Done (unexcused status))
waited_by_holds true status = tt
waited_by_holds false status = tt

waited_holds : (s : KernelState) (shell : Shell) (children : List ℕ) (status : ℕ) → ActiveHolds (waited s shell children status)
waited_holds s shell children status = waited_by_holds (is_brought_back s shell children) status

wait_by_holds : (s : KernelState) (shell : Shell) (children : List ℕ) (job : Option (List ℕ)) (o : Option ℕ) → ActiveHolds (wait_by s shell children job o)
wait_by_holds s shell children job None = tt
wait_by_holds s shell children job (Some status) = waited_holds s shell children status

told_holds : (line : Option (List ℕ)) (status : ℕ) → ActiveHolds (told line status)
told_holds None status = tt
told_holds (Some line) status = tt

controlled_holds : (s : KernelState) (shell : Shell) (children text : List ℕ) (state : JobState) → PlacedHolds (controlled_by s shell children text state)
controlled_holds s shell children text Running = tt
controlled_holds s shell children text (Suspended signal) =
    let t = terminal_back s shell.pid in
    let up = up_to_date t shell in
    told_holds (job_line t (after_suspension t up text children (Suspended signal)).jobs (free_number up.jobs)) (signal_status signal)
controlled_holds s shell children text (state.Done ending) = wait_by_holds s shell children (Some text) (wait_status s shell.pid children)

wait_with_holds : (s : KernelState) (shell : Shell) (children : List ℕ) (job : Option (List ℕ)) → PlacedHolds (wait_with s shell children job)
wait_with_holds s shell children None = wait_by_holds s shell children None (wait_status s shell.pid children)
wait_with_holds s shell children (Some text) = controlled_holds s shell children text (state_of s.machine.processes children)

wait_holds : (s : KernelState) (shell : Shell) (wait : PipelineWait) → PlacedHolds (wait_turn s shell wait)
unfolding wait_turn
wait_holds s shell wait = wait_with_holds s shell wait.children wait.job

-- ---- the job in the foreground is waited for
job_ended_holds : (s : KernelState) (shell : Shell) (wait : JobWait) (o : Option ℕ) → PlacedHolds (job_ended s shell wait o)
job_ended_holds s shell wait None = tt
job_ended_holds s shell wait (Some status) = waited_holds s shell wait.processes status

job_wait_by_holds : (s : KernelState) (shell : Shell) (wait : JobWait) (state : JobState) → PlacedHolds (job_wait_by s shell wait state)
job_wait_by_holds s shell wait Running = tt
job_wait_by_holds s shell wait (Suspended signal) =
    let t = terminal_back s shell.pid in
    told_holds (job_line t (with_suspended (up_to_date t shell) wait signal).jobs wait.number) (signal_status signal)
job_wait_by_holds s shell wait (state.Done ending) =
    let t = terminal_back s shell.pid in job_ended_holds t shell wait (wait_status t shell.pid wait.processes)

job_wait_holds : (s : KernelState) (shell : Shell) (wait : JobWait) → PlacedHolds (job_wait_turn s shell wait)
unfolding job_wait_turn
job_wait_holds s shell wait = job_wait_by_holds s shell wait (state_of s.machine.processes wait.processes)

-- ---- the commands of an interactive shell
prompt_turn_holds : (b : Bool) (x y : Placed) → PlacedHolds x → PlacedHolds y → PlacedHolds (if b then x else y)
prompt_turn_holds true x y h k = h
prompt_turn_holds false x y h k = k

prompt_by_holds : (s : KernelState) (shell : Shell) (b : Beginning) (o : Option ℕ) → PlacedHolds (prompt_by s shell b o)
prompt_by_holds s shell b (Some number) =
    let up = up_to_date s shell in
    let g = give_bytes s shell.pid 2 (job_lines s.machine.processes up.jobs Short (number ∷ [])) in
    prompt_turn_holds (is_waiting g.told) (stays g.after up b) (behind_job g.after (with_job_told g.after up number) b) tt
    (input_action_holds g.after (with_job_told g.after up number) b)
prompt_by_holds s shell b None =
    let g = give_bytes s shell.pid 2 (prompt_of shell.vars b.text) in
    prompt_turn_holds (is_waiting g.told) (stays g.after shell b) (at_place g.after shell (Next (ReadInput b))) tt tt

prompt_holds : (s : KernelState) (shell : Shell) (b : Beginning) → PlacedHolds (prompt_turn s shell b)
unfolding prompt_turn
prompt_holds s shell b = prompt_by_holds s shell b (job_to_tell s shell b.text)

beginning_holds : (b : Bool) (s : KernelState) (shell : Shell) (beginning : Beginning) → PlaceHolds (if b then input_action s shell beginning else ReadInput beginning)
beginning_holds true s shell beginning = input_action_holds s shell beginning
beginning_holds false s shell beginning = tt

blank_holds : (is_end : Bool) (s : KernelState) (shell : Shell) (rest : List ℕ) → Holds (behind_blank is_end s shell rest)
blank_holds true s shell rest = tt
blank_holds false s shell rest = input_action_holds s shell (not_begun rest)

input_run_holds : (is_end : Bool) (s : KernelState) (shell : Shell) (aliases : AliasTable) (f : InputFound) → InputBegins f → Holds (input_run is_end s shell aliases f)
input_run_holds is_end s shell aliases (input.Command tree rest) h =
    let items = (view.out-CompoundList tree).items in
    (tt, settled_holds (items_run items (unexcused shell.vars.special.status)) (items_settled items (unexcused shell.vars.special.status) h))
input_run_holds is_end s shell aliases (input.Blank rest) h = blank_holds is_end s shell rest
input_run_holds is_end s shell aliases (input.More text) h = beginning_holds (ends_line text) s shell (begun aliases text)
input_run_holds is_end s shell aliases (input.Fault why) h = (tt, tt)

input_read_holds : (is_end : Bool) (s : KernelState) (shell : Shell) (aliases : AliasTable) (text : List ℕ) → ActedHolds (input_read is_end s shell aliases text)
input_read_holds is_end s shell aliases text = input_run_holds is_end s shell aliases (input_found aliases is_end text) (input_begins aliases is_end text)

input_taken_holds : (s : KernelState) (shell : Shell) (b : Beginning) (told : ReadOutcome) → ActedHolds (input_taken s shell b told)
input_taken_holds s shell b (taken.Bytes bytes) =
    input_read_holds (nat_eq (length bytes) 0) s shell (aliases_of shell.aliases b) (b.text ++ bytes)
input_taken_holds s shell b taken.Wait = tt
input_taken_holds s shell b taken.Failed = input_read_holds true s shell (aliases_of shell.aliases b) b.text

input_holds : (s : KernelState) (shell : Shell) (b : Beginning) → ActedHolds (input_turn s shell b)
unfolding input_turn
input_holds s shell b =
    let t = take_bytes s shell.pid (Number 0) (most_read s.machine shell.pid) in input_taken_holds t.after shell b t.told

-- ---- a redirection
redirect_by_holds : (p : ExpandedCommand) (word : List ℕ) (r : Result (Unit {0}) KernelFault) (one : Option Undone) → CommandHolds p → Holds (redirect_by p word r one)
redirect_by_holds p word (Ok u) one h = move_holds _ (ahead_holds (with_undo p one) h)
redirect_by_holds p word (Err f) one h = move_holds _ (not_done_holds p word f)

redirect_from_holds : (s : KernelState) (shell : Shell) (p : ExpandedCommand) (redirections : List Redirection) → CommandHolds p → ActedHolds (redirect_from s shell p redirections)
unfolding redirect_one
redirect_from_holds s shell p [] h = move_holds (ahead p) (ahead_holds p h)
redirect_from_holds s shell p (redirection ∷ redirections) h =
    let r = redirection_outcome (keeps p.role) s shell.pid shell.vars.directory redirection in
    redirect_by_holds (record p { redirections = redirections }) redirection.word r.answer r.undone h

redirect_holds : (s : KernelState) (shell : Shell) (p : ExpandedCommand) → CommandHolds p → ActedHolds (redirect_turn s shell p)
unfolding redirect_turn
redirect_holds s shell p h = redirect_from_holds s shell p p.redirections h

-- ---- a write, a round, and the end
after_writing_holds : (finish : Finish) → ActiveHolds (after_writing finish)
after_writing_holds (Status status) = tt
after_writing_holds (Fault status) = tt
after_writing_holds (Messages report) = reported_holds report
after_writing_holds (Output builtin report) = reported_holds report

unwritten_holds : (finish : Finish) → ActiveHolds (unwritten finish)
unwritten_holds (Status status) = tt
unwritten_holds (Fault status) = tt
unwritten_holds (Messages report) = reported_holds report
unwritten_holds (Output builtin report) = tt

written_by_holds : (piece : Piece) (finish : Finish) (told : WriteOutcome) → ActiveHolds (written_by piece finish told)
written_by_holds piece finish given.Whole = after_writing_holds finish
written_by_holds piece finish (given.Part count) = tt
written_by_holds piece finish given.Wait = tt
written_by_holds piece finish given.Failed = unwritten_holds finish

write_holds : (s : KernelState) (shell : Shell) (piece : Piece) (finish : Finish) → ActedHolds (write_turn s shell piece finish)
unfolding write_turn
write_holds s shell piece finish = written_by_holds piece finish (give_bytes s shell.pid piece.descriptor piece.bytes).told

round_holds : (r : Round) → RoundHolds r → Holds (round_run r)
round_holds (round.Body series) h = (h, stands_holds (list_run series.body) (list_stands series.body h))
round_holds (round.Over active) h = h

end_holds : (s : KernelState) (shell : Shell) (status : ℕ) → ActedHolds (end_turn s shell status)
unfolding end_turn
end_holds s shell status = tt

-- ---- the trap on EXIT: what its action's first command holds begins with an action
trap_by_holds : (s : KernelState) (shell : Shell) (status : ℕ) (action : Option (List ℕ)) → ActedHolds (trap_by s shell status action)
trap_by_holds s shell status None = tt
trap_by_holds s shell status (Some text) =
    let begun = behind_status (without_trap shell) status in (tt, read_holds true false begun.vars 0 (next_command begun.aliases text) (next_holds begun.aliases text))

trap_holds : (s : KernelState) (shell : Shell) (status : ℕ) → ActedHolds (trap_turn s shell status)
unfolding trap_turn
trap_holds s shell status = trap_by_holds s shell status (action_of shell.traps Exit)

-- ---- a trap on a signal: so does what its action's first command holds, and the shell goes on at its place
interrupted_holds : (levels : ℕ) (s : KernelState) (shell : Shell) (place : Action) (text : List ℕ) → PlaceHolds place → ActedHolds (interrupted levels s shell place text)
interrupted_holds zero s shell place text h = tt
interrupted_holds (suc levels) s shell place text h = (h, read_holds true false shell.vars 0 (next_command shell.aliases text) (next_holds shell.aliases text))

interruption_holds : (around : List Form) (s : KernelState) (shell : Shell) (place : Action) (text : List ℕ) → PlaceHolds place
    → ActedHolds (interruption around s shell place text)
unfolding interruption
interruption_holds around s shell place text h = interrupted_holds (levels_left around) (after_take_signal s shell.pid) (shell_before shell place) place text h

-- ---- processes that are made, each with the shell's functions
program_holds : (around : List Form) (s : KernelState) (shell : Shell) (p : ExpandedCommand) (o : Option ℕ) → FunctionsHold shell.functions → PlaceHolds (Forking p)
    → TurnedHolds (program_by around s shell p o)
unfolding ahead
program_holds around s shell p None f h = (tt, tt)
program_holds around s shell p (Some child) f h = (tt, (ahead_stands p p.redirections p.assignments h.0 h.1, f))

fork_holds : (around : List Form) (s : KernelState) (shell : Shell) (p : ExpandedCommand) → FunctionsHold shell.functions → PlaceHolds (Forking p)
    → TurnedHolds (fork_turn around s shell p)
unfolding fork_turn
fork_holds around s shell p f h =
    let forked = fork_of s shell.pid None false in program_holds around (behind_fork shell true [] forked.child forked.after) shell p forked.child f h

launched_holds : (b : Bool) (number : ℕ) (children : List ℕ) → ActiveHolds (launched_by b number children)
launched_holds true number children = tt
launched_holds false number children = tt

made_holds : (shell : Shell) (launch : Launch) (children : List ℕ) → ActiveHolds (made_place shell launch children)
made_holds shell (Foreground job) children = tt
made_holds shell (Background list) children = launched_holds (is_interactive shell) (free_number shell.jobs) children

none_holds : (launch : Launch) (children : List ℕ) → ActiveHolds (place_of_none launch children)
none_holds (Foreground job) children = tt
none_holds (Background list) children = tt

stage_place_holds : (shell : Shell) (launch : Launch) (commands : List Command) (aside : Option ℕ) (children : List ℕ) → CommandsBegin commands
    → ActiveHolds (stage_place shell launch commands aside children)
stage_place_holds shell launch [] aside children b = made_holds shell launch children
stage_place_holds shell launch (command ∷ commands) aside children b = b

stage_by_holds : (s : KernelState) (shell : Shell) (command : Command) (stages : Stages) (o : Option ℕ) → FunctionsHold shell.functions → CommandBegins command
    → CommandsBegin stages.commands → TurnedHolds (stage_by s shell command stages o)
stage_by_holds s shell command stages None f c b = (tt, tt)
stage_by_holds s shell command stages (Some child) f c b =
    (stage_place_holds shell stages.launch stages.commands stages.aside (stages.children ++ child ∷ []) b, (stage_stands command c, f))

stage_from_holds : (s : KernelState) (shell : Shell) (stages : Stages) (commands : List Command) → FunctionsHold shell.functions → CommandsBegin commands
    → TurnedHolds (stage_from s shell stages commands)
unfolding stage_one
stage_from_holds s shell stages _ f no_commands = (none_holds stages.launch stages.children, tt)
stage_from_holds s shell stages _ f (more_commands command commands c b) =
    let l = stage_input stages.launch stages.children stages.aside shell s in
    let forked = fork_of l.after shell.pid l.aside (is_more commands) in
    stage_by_holds (behind_fork shell (is_foreground stages.launch) stages.children forked.child forked.after) shell command
    (record stages { commands = commands; aside = forked.aside }) forked.child f c b

stage_holds : (around : List Form) (s : KernelState) (shell : Shell) (stages : Stages) → FunctionsHold shell.functions → CommandsBegin stages.commands
    → TurnedHolds (stage_turn around s shell stages)
unfolding stage_turn
stage_holds around s shell stages f b =
    stage_from_holds s shell (record stages { launch = launch_by around shell stages.commands stages.children stages.launch }) stages.commands f b

list_by_holds : (s : KernelState) (shell : Shell) (list : AndOr) (o : Option ℕ) → FunctionsHold shell.functions → AndOrBegins list → TurnedHolds (list_by s shell list o)
list_by_holds s shell list None f a = (tt, tt)
list_by_holds s shell list (Some child) f a =
    (launched_holds (is_interactive shell) (free_number shell.jobs) (child ∷ []), (and_or_stands list a, f))

list_holds : (s : KernelState) (shell : Shell) (list : AndOr) → FunctionsHold shell.functions → AndOrBegins list → TurnedHolds (list_turn s shell list)
unfolding list_turn
list_holds s shell list f a =
    let l = background_input (has_job_control shell) s shell in
    let forked = fork_of l.after shell.pid l.aside false in
    list_by_holds (behind_fork shell false [] forked.child forked.after) shell list forked.child f a

failure_holds : (wants : ToExpand) → MoveHolds (fork_failure wants)
failure_holds (Words command in_place status) = tt
failure_holds (Values p) = tt
failure_holds (Redirects command) = tt
failure_holds (ForWords command) = tt
failure_holds (CaseWord command) = tt
failure_holds (CasePattern case) = tt

substitution_holds : (s : KernelState) (shell : Shell) (program : CompoundList) (substitution : Substitution) (o : Option ℕ) → FunctionsHold shell.functions → ItsItems program
    → SubstitutionHolds substitution → TurnedHolds (substitution_by s shell program substitution o)
substitution_holds s shell program substitution None f b h = (move_holds (fork_failure substitution.wants) (failure_holds substitution.wants), tt)
substitution_holds s shell program substitution (Some child) f b h = (h, (body_stands program b, f))

substitute_holds : (s : KernelState) (shell : Shell) (program : CompoundList) (wants : ToExpand) (pending : Pending) → FunctionsHold shell.functions → ItsItems program
    → WantsHold wants × WantedBegin pending.words → TurnedHolds (substitute_turn s shell program wants pending)
unfolding substitute_turn
substitute_holds s shell program wants pending f b h =
    let forked = fork_of s shell.pid None true in
    substitution_holds (released shell forked.child forked.after) shell program (begun_substitution wants pending forked.aside) forked.child f b h

expanded_holds : (s : KernelState) (shell : Shell) (e : Expanded) → FunctionsHold shell.functions → ExpandedHolds e → TurnedHolds (expanded_by s shell e)
expanded_holds s shell (expanded.Need program wants pending) f h = substitute_holds s shell program wants pending f h.0 h.1
expanded_holds s shell (expanded.Go m) f h = (move_holds m h, tt)

-- ---- the turn
place_holds : (around : List Form) (s : KernelState) (shell : Shell) (place : Action) → FunctionsHold shell.functions → PlaceHolds place → TurnedHolds (act_place around s shell place)
place_holds around s shell (Prompting b) f h = (prompt_holds s shell b, tt)
place_holds around s shell (ReadInput b) f h = (input_holds s shell b, tt)
place_holds around s shell (Reading rest status) f h = (read_holds (ends_shell around) (goes_on_reading around shell) shell.vars status (next_command shell.aliases rest) (next_holds shell.aliases rest), tt)
place_holds around s shell (Expanding wants pending) f h =
    let t = expand_turn s.machine.files shell.vars shell.functions wants pending in
    expanded_holds s (record shell { vars = t.environment }) t.outcome f (expand_holds s.machine.files shell.vars shell.functions wants pending f h.0 h.1)
place_holds around s shell (ReadSubstitution substitution) f h = (collect_holds s shell substitution h, tt)
place_holds around s shell (WaitSubstitution substitution) f h = (answer_holds s shell.pid substitution h, tt)
place_holds around s shell (Asking rest) f h = (ask_holds s shell rest, tt)
place_holds around s shell (WaitForJob wait) f h = (job_wait_holds s shell wait, tt)
place_holds around s shell (Redirecting p) f h = (redirect_holds s shell p h, tt)
place_holds around s shell (Forking p) f h = fork_holds around s shell p f h
place_holds around s shell (Starting start) f h = (tt, tt)
place_holds around s shell (ForkStage stages) f h = stage_holds around s shell stages f h
place_holds around s shell (ForkList list) f h = list_holds s shell list f h
place_holds around s shell (AssignLoopVariable series) f h = (round_holds (give_turn shell.vars series).round (give_holds shell.vars series h), tt)
place_holds around s shell (Defining definition) f h = (tt, tt)
place_holds around s shell (Waiting wait) f h = (wait_holds s shell wait, tt)
place_holds around s shell (Writing piece finish) f h = (write_holds s shell piece finish, tt)
place_holds around s shell (Trapping status) f h = (trap_holds s shell status, tt)
place_holds around s shell (Ending status) f h = (end_holds s shell status, tt)

behind_holds : (around : List Form) (s : KernelState) (shell : Shell) (place : Action) (trap : Option (List ℕ)) → FunctionsHold shell.functions → PlaceHolds place
    → TurnedHolds (act_behind around s shell place trap)
behind_holds around s shell place None f h = place_holds around s shell place f h
behind_holds around s shell place (Some text) f h = (interruption_holds around s shell place text h, tt)

active_holds : (around : List Form) (s : KernelState) (shell : Shell) (active : Active) → FunctionsHold shell.functions → ActiveStands active → TurnedHolds (act_at around s shell active)
active_holds around s shell (Acting invocation fields) f h = absurd h
active_holds around s shell (Calling body fields) f h = absurd h
active_holds around s shell (Evaluating how text) f h = absurd h
active_holds around s shell (Next place) f h = behind_holds around s shell place (trap_before s shell place) f h
active_holds around s shell (Done status) f h = absurd h
active_holds around s shell (Leaving l) f h = absurd h

inherited_stands : (ignored : Bool) (child : Option InterpreterState) → ChildStands child → ChildStands (inherited ignored child)
inherited_stands ignored None h = tt
inherited_stands true (Some child) h = ((tt, h.0), h.1)
inherited_stands false (Some child) h = h

reduce_settled : (s : KernelState) (shell : Shell) (around : List Form) (run : Run) → FunctionsHold shell.functions → RunStands run
    → let t = reduce s shell around run in Settled t.left.run × ChildStands t.child
reduce_settled s shell around (At active) f h =
    let t = act_at around s shell active in
    let holds = active_holds around s shell active f h in
    (at_action_settled around t.left.machine t.left.shell t.left.run holds.0, inherited_stands (is_failure_ignored around) t.child holds.1)
reduce_settled s shell around (In form run) f h =
    let settled = reduce_settled s shell _ run f h.1 in
    (after_settled around form (reduce s shell _ run).left h.0 settled.0, settled.1)

ending_stands : (status : ℕ) (action : Option (List ℕ)) → PlaceHolds (ending_by action status)
ending_stands status None = tt
ending_stands status (Some []) = tt
ending_stands status (Some (byte ∷ bytes)) = tt

root_stands : (shell : Shell) (run : Run) → Settled run → RunStands (at_root shell run)
root_stands shell (At (Leaving l)) p = ending_stands (shell_status l) (action_of shell.traps Exit)
root_stands shell (At (Done ended)) p = ending_stands ended.status (action_of shell.traps Exit)
root_stands shell (At (Acting invocation fields)) p = p
root_stands shell (At (Calling body fields)) p = p
root_stands shell (At (Evaluating how text)) p = p
root_stands shell (At (Next place)) p = p
root_stands shell (In form run) p = p

-- ---- INT may have an interactive shell drop what it does before
dropped_holds : (place : Action) → Holds (dropped_run place)
dropped_holds (Reading rest status) = (tt, tt)
dropped_holds (Prompting b) = tt
dropped_holds (ReadInput b) = (tt, tt)
dropped_holds (Expanding wants pending) = tt
dropped_holds (ReadSubstitution substitution) = tt
dropped_holds (WaitSubstitution substitution) = tt
dropped_holds (Asking rest) = tt
dropped_holds (WaitForJob wait) = tt
dropped_holds (Redirecting p) = tt
dropped_holds (Forking p) = tt
dropped_holds (Starting start) = tt
dropped_holds (ForkStage stages) = tt
dropped_holds (ForkList list) = tt
dropped_holds (AssignLoopVariable series) = tt
dropped_holds (Defining definition) = tt
dropped_holds (Waiting wait) = tt
dropped_holds (Writing piece finish) = tt
dropped_holds (Trapping status) = tt
dropped_holds (Ending status) = tt

stands_inside : (around : List Form) (run : Run) → RunStands (run_in around run) → RunStands run
stands_inside [] run h = h
stands_inside (form ∷ around) run h = (stands_inside around (In form run) h).1

run_in_holds : (around : List Form) (inner run : Run) → RunStands (run_in around inner) → Holds run → Holds (run_in around run)
run_in_holds [] inner run h p = p
run_in_holds (form ∷ around) inner run h p = run_in_holds around (In form inner) (In form run) h ((stands_inside around (In form inner) h).0, p)

drop_by_stands : (b : Bool) (s : KernelState) (shell : Shell) (around : List Form) (place : Action) → FunctionsHold shell.functions → RunStands (run_of around (Next place))
    → ActedStands (if b then rooted (at_action [] (after_drop s shell) shell (run_in around (dropped_run place))) else with_run s shell (run_of around (Next place)))
drop_by_stands true s shell around place f h =
    let holds = run_in_holds around (At (Next place)) (dropped_run place) h (dropped_holds place) in
    let a = at_action [] (after_drop s shell) shell (run_in around (dropped_run place)) in (
      root_stands a.shell a.run (at_action_settled [] (after_drop s shell) shell (run_in around (dropped_run place)) holds),
      settled_keeps [] (after_drop s shell) shell (run_in around (dropped_run place)) f,
    )
drop_by_stands false s shell around place f h = (h, f)

drop_stands : (s : KernelState) (shell : Shell) (around : List Form) (active : Active) → FunctionsHold shell.functions → RunStands (run_of around active)
    → ActedStands (drop_first s shell around active)
unfolding drop_at
drop_stands s shell around (Next place) f h = drop_by_stands (drops_before s shell place) s shell around place f h
drop_stands s shell around (Acting invocation fields) f h = (h, f)
drop_stands s shell around (Calling body fields) f h = (h, f)
drop_stands s shell around (Evaluating how text) f h = (h, f)
drop_stands s shell around (Done status) f h = (h, f)
drop_stands s shell around (Leaving l) f h = (h, f)

-- the turn behind that
pub turn_stands : (a : Acted) → ActedStands a → let t = turn_from a in ActedStands t.left × ChildStands t.child
turn_stands a h =
    let settled = reduce_settled a.machine a.shell [] a.run h.1 h.0 in
    let left = (reduce a.machine a.shell [] a.run).left in
    ((root_stands left.shell left.run settled.0, functions_hold a.machine a.shell [] a.run h.0 h.1), settled.1)

pub shell_stands : (s : KernelState) (interpreter : InterpreterState) → InterpreterStands interpreter → let t = shell_turn s interpreter in ActedStands t.left × ChildStands t.child
unfolding shell_turn
shell_stands s interpreter h =
    let around = path_of interpreter.run in
    let active = active_of interpreter.run in
    turn_stands (drop_first s interpreter.shell around active)
    (drop_stands s interpreter.shell around active h.1 (subst RunStands (sym (whole interpreter.run)) h.0))

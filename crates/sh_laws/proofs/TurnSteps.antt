-- Turns of a shell.
use Rattle.std.proofs.Common.{◌≡◌, ℕ, zero, suc, List, [], ◌∷◌, Bool, true, false, length, ◌++◌, Option, Some, None, Result, Ok, Err, refl, sym, subst, ◌∙◌}
use Rattle.std.specs.Prelude.{codes, drop, nat_eq, if◌then◌else◌}
use Rattle.sh_exec_parts.specs.declared.message.Piece.{Piece}
use Rattle.sh_exec_parts.specs.declared.redirection.Redirection.{Redirection}
use Rattle.sh_builtin_outcome.specs.declared.outcome.TextRun.{TextRun}
use Rattle.sh_builtin_outcome.specs.declared.outcome.Leave.{Leave}
use Rattle.sh_builtin_outcome.specs.declared.outcome.Leave.TheVariants as leave
use Rattle.sh_builtin.specs.Invocations.{invoked}
use Rattle.sh_builtin.specs.Running.{built_in, jobs_ran}
use Rattle.sh_builtin_outcome.specs.declared.builtin.Builtin.{Builtin}
use Rattle.sh_builtin_outcome.specs.declared.builtin.Builtin.TheVariants as builtin
use Rattle.sh_builtin_shell.specs.declared.shell.Shell.{Shell}
use Rattle.sh_exec_actions.specs.ForLoops.{rest_of_series}
use Rattle.sh_exec_actions.specs.Statuses.{unexcused}
use Rattle.sh_exec_actions.specs.declared.beginning.Beginning.{Beginning}
use Rattle.sh_exec_actions.specs.declared.status.CommandStatus.{CommandStatus}
use Rattle.sh_exec_actions.specs.declared.action.Active.{Active}
use Rattle.sh_exec_actions.specs.declared.action.Active.TheVariants.{Acting, Calling, Evaluating, Next, Done, Leaving}
use Rattle.sh_exec_actions.specs.declared.action.Expanded.{Expanded}
use Rattle.sh_exec_actions.specs.declared.action.Expanded.TheVariants as expanded
use Rattle.sh_exec_actions.specs.declared.action.Finish.{Finish}
use Rattle.sh_expand.specs.Answers.{Pending}
use Rattle.sh_exec_actions.specs.declared.action.Action.{Action}
use Rattle.sh_exec_actions.specs.declared.action.Action.TheVariants.{Reading, Prompting, ReadInput, Expanding, ReadSubstitution, WaitSubstitution, Asking, WaitForJob, Redirecting, Forking, Starting, ForkStage, ForkList, AssignLoopVariable, Defining, Waiting, Writing, Trapping, Ending}
use Rattle.sh_exec_actions.specs.declared.action.ExpandedCommand.{ExpandedCommand}
use Rattle.sh_exec_actions.specs.declared.action.Stages.{Stages}
use Rattle.sh_exec_actions.specs.declared.action.Substitution.{Substitution}
use Rattle.sh_exec_actions.specs.declared.action.Undo.{Undo}
use Rattle.sh_exec_actions.specs.declared.action.ToExpand.{ToExpand}
use Rattle.sh_exec_machine.specs.Forking.{after_null, fork_of, null_laid, set_aside, set_by}
use Rattle.sh_exec_machine.specs.Transfers.{take_bytes, Giving, give_bytes}
use Rattle.sh_exec_machine.specs.Waits.{wait_status}
use Rattle.sh_exec_machine.specs.declared.transfer.ReadOutcome.{ReadOutcome}
use Rattle.sh_exec_machine.specs.declared.transfer.ReadOutcome.TheVariants as taken
use Rattle.sh_exec_turns.specs.Acting.{collect_by, collect_end, collect_from, collect_turn, after_collection, end_turn, expand_turn, keeps, next, redirect_from, redirect_one, redirect_turn, trap_by, trap_turn, with_written, write_turn}
use Rattle.sh_exec_signals.specs.Placed.{Placed, at_place}
use Rattle.sh_exec_waiting.specs.Sending.{after_sending}
use Rattle.sh_exec_signals.specs.Signals.{after_trap_in, after_trap_set, after_traps, after_traps_in, signal_action, after_drop, after_own_signals, after_release, after_releases, own_action, own_ignored, released_action}
use Rattle.sh_exec_turns.specs.Traps.{interrupted, interruption, shell_before, trap_before, drops_before}
use Rattle.sh_jobs.specs.declared.fault.JobFault.{JobFault}
use Rattle.sh_kernel_processes.specs.Sets.{has}
use Rattle.sh_kernel_processes.specs.declared.set.SignalSet.{SignalSet}
use Rattle.sh_kernel_processes.specs.declared.target.SignalTarget.{SignalTarget}
use Rattle.sh_signal.specs.Signals.{signals}
use Rattle.sh_signal.specs.declared.signal.Signal.{Signal}
use Rattle.sh_exec_waiting.specs.Asking.{after_continuation, after_continue, after_first, ask_by, ask_turn, asked}
use Rattle.sh_exec_signals.specs.ReadLimit.{most_read}
use Rattle.sh_builtin_asking.specs.declared.answer.Answer.{Answer}
use Rattle.sh_builtin_outcome.specs.declared.rest.BuiltinRest.{BuiltinRest}
use Rattle.sh_builtin_outcome.specs.declared.rest.BuiltinRest.TheVariants.{Reads, Waits, Kills, Continues}
use Rattle.sh_laws.proofs.Resuming.{resumed_same}
use Rattle.sh_exec_shell.specs.Forks.{Turned, background_input, begun_substitution, fork_turn, inherited, is_foreground, is_more, launch_by, list_by, list_turn, made_shell, program_by, stage_by, stage_from, stage_input, stage_one, stage_shell, stage_turn, substitute_turn, substitution_by}
use Rattle.sh_exec_turns.specs.Groups.{behind_fork, behind_fork_by, released}
use Rattle.sh_exec_signals.specs.Reporting.{behind}
use Rattle.sh_exec_settling.specs.Builtins.{builtin_effect, builtin_machine, call, effect_at, machine_at, evaluation, performed}
use Rattle.sh_exec_settling.specs.Forms.{Acted, with_run, after, after_by, after_status, after_leave, loop_left, onward, condition_run, at_action, undone, dropped_in_text, goes_on_reading, input_left, place_left}
use Rattle.sh_builtin_environment.specs.TrapMaps.{action_of}
use Rattle.sh_signal.specs.declared.condition.Condition.TheVariants.{Caught, Exit}
use Rattle.sh_exec_forms.specs.Frames.{has_loop, is_failure_ignored, last_for, levels_left}
use Rattle.sh_exec_shell.specs.Reduction.{act_at, act_behind, act_place, expanded_by, reduce, shell_turn, drop_at, drop_first, dropped_run, rooted}
use Rattle.sh_exec_forms.specs.Running.{InterpreterState, Run, At, In, active_of}
use Rattle.sh_exec_actions.specs.declared.form.Form.{Form}
use Rattle.sh_exec_actions.specs.declared.form.Form.TheVariants.{Text, Input, Commands, Joined, Negated, Restoring, If, Condition, Body, ForBody, Call, Evaluation, Trapped, Interruption, FailuresIgnored}
use Rattle.sh_kernel_descriptors.specs.declared.descriptor.DescriptorRef.TheVariants.{Aside, Number}
use Rattle.sh_exec_parts.specs.Redirections.{to_read}
use Rattle.sh_kernel.specs.Calls.{after_take_signal, set_aside_call, after_set_action}
use Rattle.sh_kernel.specs.Requests.{Close, End, Kill, Open, SetAction, SetAside, SetForeground, TakeSignal, after_request}
use Rattle.sh_kernel_descriptors.specs.declared.fault.KernelFault.{KernelFault}
use Rattle.sh_kernel.specs.State.{KernelState}
use Rattle.sh_syntax.specs.declared.tree.AndOr.{AndOr}
use Rattle.sh_syntax.specs.declared.tree.Command.{Command}
use Rattle.sh_syntax.specs.declared.tree.CompoundList.{CompoundList}
use Rattle.sh_exec_actions.specs.declared.action.Launch.{Launch}
use Rattle.sh_exec_actions.specs.declared.action.Launch.TheVariants.{Foreground, Background}
use Rattle.sh_laws.specs.Requests.{made_number}
use Rattle.sh_laws.proofs.TurnRequests.{IsForked, IsKept, give_keeps, redirect_keeps, take_keeps, undo_keeps}
use Rattle.sh_builtin_environment.specs.declared.outcome.BuiltinFault.{BuiltinFault}
use Rattle.sh_builtin_jobs.specs.Listing.{jobs_of, job_lines}
use Rattle.sh_builtin_jobs.specs.declared.listing.JobsCommand.{JobsCommand}
use Rattle.sh_builtin_shell.specs.Shells.{has_job_control, own_group, up_to_date, is_interactive}
use Rattle.sh_exec_actions.specs.declared.action.PipelineWait.{PipelineWait}
use Rattle.sh_builtin_outcome.specs.declared.rest.Continuation.{Continuation}
use Rattle.sh_builtin_outcome.specs.declared.rest.Continuation.TheVariants as continuation
use Rattle.sh_builtin_jobs.specs.declared.continuing.ContinuedJob.{ContinuedJob}
use Rattle.sh_builtin_outcome.specs.declared.rest.JobWait.{JobWait}
use Rattle.sh_exec_waiting.specs.JobWaits.{job_ended, job_wait_by, job_wait_turn}
use Rattle.sh_kernel_processes.specs.declared.target.SignalTarget.TheVariants.{Group}
use Rattle.sh_signal.specs.declared.signal.Signal.TheVariants as signal
use Rattle.sh_exec_waiting.specs.Waiting.{controlled_by, terminal_back, wait_turn, wait_with}
use Rattle.sh_jobs.specs.States.{state_of}
use Rattle.sh_jobs.specs.declared.state.JobState.{JobState}
use Rattle.sh_jobs.specs.declared.state.JobState.TheVariants.{Running, Suspended}
use Rattle.sh_jobs.specs.declared.state.JobState.TheVariants as state
use Rattle.sh_exec_signals.specs.Prompting.{behind_job, is_waiting, job_to_tell, prompt_by, prompt_of, prompt_turn, stays, with_job_told}
use Rattle.sh_exec_turns.specs.Input.{input_taken, input_turn}
use Rattle.sh_jobs.specs.declared.line.JobForm.TheVariants.{Short}
use Rattle.sh_exec_forms.specs.Stacks.{path_of, run_in, run_of}
use Rattle.sh_kernel_processes.specs.declared.member.SignalAction.TheVariants as does
use Rattle.sh_laws.proofs.Dropping.{drop_directory}
use Rattle.sh_laws.proofs.Releasing.{own_settings, released_is}

-- ---- a built-in acts in its shell's process
jobs_ran_number : (s : KernelState) (shell : Shell) (asked : Result JobsCommand BuiltinFault) → (jobs_ran s shell asked).shell.pid ≡ shell.pid
jobs_ran_number s shell (Ok command) = refl
jobs_ran_number s shell (Err why) = refl

built_in_number : (s : KernelState) (shell : Shell) (last : ℕ) (b : Builtin) (arguments : List (List ℕ)) → (built_in s shell last b arguments).shell.pid ≡ shell.pid
unfolding built_in
built_in_number s shell last builtin.Alias arguments = refl
built_in_number s shell last builtin.Bg arguments = refl
built_in_number s shell last builtin.Bracket arguments = refl
built_in_number s shell last builtin.Break arguments = refl
built_in_number s shell last builtin.Cd arguments = refl
built_in_number s shell last builtin.Colon arguments = refl
built_in_number s shell last builtin.Command arguments = refl
built_in_number s shell last builtin.Continue arguments = refl
built_in_number s shell last builtin.Dot arguments = refl
built_in_number s shell last builtin.Echo arguments = refl
built_in_number s shell last builtin.Eval arguments = refl
built_in_number s shell last builtin.Exec arguments = refl
built_in_number s shell last builtin.Exit arguments = refl
built_in_number s shell last builtin.Export arguments = refl
built_in_number s shell last builtin.False arguments = refl
built_in_number s shell last builtin.Fg arguments = refl
built_in_number s shell last builtin.Jobs arguments = jobs_ran_number s (up_to_date s shell) (jobs_of arguments)
built_in_number s shell last builtin.Kill arguments = refl
built_in_number s shell last builtin.Pwd arguments = refl
built_in_number s shell last builtin.Read arguments = refl
built_in_number s shell last builtin.ReadOnly arguments = refl
built_in_number s shell last builtin.Return arguments = refl
built_in_number s shell last builtin.Set arguments = refl
built_in_number s shell last builtin.Shift arguments = refl
built_in_number s shell last builtin.Test arguments = refl
built_in_number s shell last builtin.Trap arguments = refl
built_in_number s shell last builtin.True arguments = refl
built_in_number s shell last builtin.Unalias arguments = refl
built_in_number s shell last builtin.Unset arguments = refl
built_in_number s shell last builtin.Wait arguments = refl

evaluation_number : (levels : ℕ) (shell : Shell) (how : TextRun) (text : List ℕ) → (evaluation levels shell how text).shell.pid ≡ shell.pid
evaluation_number zero shell how text = refl
evaluation_number (suc levels) shell how text = refl

call_number : (levels : ℕ) (shell : Shell) (body : Command) (arguments : List (List ℕ)) → (call levels shell body arguments).shell.pid ≡ shell.pid
call_number zero shell body arguments = refl
call_number (suc levels) shell body arguments = refl

performed_number : (levels : ℕ) (shell : Shell) (active : Active) → (performed levels shell active).shell.pid ≡ shell.pid
performed_number levels shell (Acting b fields) = refl
performed_number levels shell (Calling body fields) = call_number levels shell body (drop 1 fields)
performed_number levels shell (Evaluating how text) = evaluation_number levels shell how text
performed_number levels shell (Next place) = refl
performed_number levels shell (Done status) = refl
performed_number levels shell (Leaving leave) = refl

effect_number : (around : List Form) (s : KernelState) (shell : Shell) (active : Active) → (effect_at around s shell active).shell.pid ≡ shell.pid
unfolding builtin_effect invoked
effect_number around s shell (Acting i fields) =
    let last = last_for around i.builtin shell.vars.special.status in
    let d = invoked s shell last i (drop 1 fields) in
    performed_number (levels_left around) d.shell (behind i.builtin d.outcome) ∙ built_in_number s shell last i.builtin (drop 1 fields)
effect_number around s shell (Calling body fields) = call_number (levels_left around) shell body (drop 1 fields)
effect_number around s shell (Evaluating how text) = evaluation_number (levels_left around) shell how text
effect_number around s shell (Next place) = refl
effect_number around s shell (Done status) = refl
effect_number around s shell (Leaving leave) = refl

before_number : (shell : Shell) (place : Action) → (shell_before shell place).pid ≡ shell.pid
before_number shell (Reading rest status) = refl
before_number shell (Prompting b) = refl
before_number shell (ReadInput b) = refl
before_number shell (Expanding wants pending) = refl
before_number shell (ReadSubstitution substitution) = refl
before_number shell (WaitSubstitution substitution) = refl
before_number shell (Asking rest) = refl
before_number shell (WaitForJob wait) = refl
before_number shell (Redirecting p) = refl
before_number shell (Forking p) = refl
before_number shell (Starting start) = refl
before_number shell (ForkStage stages) = refl
before_number shell (ForkList list) = refl
before_number shell (AssignLoopVariable series) = refl
before_number shell (Defining definition) = refl
before_number shell (Waiting wait) = refl
before_number shell (Writing piece finish) = refl
before_number shell (Trapping status) = refl
before_number shell (Ending status) = refl

-- a process has the same number where failures are ignored
inherited_number : (ignored : Bool) (child : Option InterpreterState) → made_number child ≡ made_number (inherited ignored child)
inherited_number ignored None = refl
inherited_number ignored (Some child) = refl

-- what is kept by the requests of a process is kept by what its shell does, which stays in that process
module _ (directory : List ℕ) (pid : ℕ) (P : KernelState → Type 0) (kept : IsKept directory pid P) where
  abbrev Keeps : Acted → Type 0
  Keeps a = (a.shell.pid ≡ pid) × P a.machine

  abbrev KeepsPlaced : Placed → Type 0
  KeepsPlaced p = (p.shell.pid ≡ pid) × P p.machine

  own : (shell : Shell) → shell.pid ≡ pid → IsKept directory shell.pid P
  own shell e = subst (λ n. IsKept directory n P) (sym e) kept

  -- ---- forms
  undone_keeps : (undo : Undo) (s : KernelState) (shell : Shell) (run : Run) → shell.pid ≡ pid → P s → Keeps (undone undo s shell run)
  unfolding undone
  undone_keeps undo s shell run e p = (e, undo_keeps directory shell.pid P (own shell e) undo.redirections_stay undo.descriptors s p)

  ended_keeps : (around : List Form) (form : Form) (s : KernelState) (shell : Shell) (status : CommandStatus) → shell.pid ≡ pid → P s → Keeps (after_status around form s shell status)
  ended_keeps around (Text rest) s shell status e p = (e, p)
  ended_keeps around (Input rest) s shell status e p = (e, p)
  ended_keeps around (Commands items) s shell status e p = (e, p)
  ended_keeps around (Joined others) s shell status e p = (e, p)
  ended_keeps around Negated s shell status e p = (e, p)
  ended_keeps around (Restoring undo) s shell status e p = undone_keeps undo s shell (At (Done status)) e p
  ended_keeps around (If branches) s shell status e p = (e, p)
  ended_keeps around (Condition loop last) s shell status e p = (e, p)
  ended_keeps around (Body loop) s shell status e p = (e, p)
  ended_keeps around (ForBody series) s shell status e p = (e, p)
  ended_keeps around (Call positional) s shell status e p = (e, p)
  ended_keeps around (Evaluation how) s shell status e p = (e, p)
  ended_keeps around (Trapped before) s shell status e p = (e, p)
  ended_keeps around (Interruption before next) s shell status e p = (e, p)
  ended_keeps around FailuresIgnored s shell status e p = (e, p)

  loop_left_keeps : (looped : Bool) (leave : Leave) (s : KernelState) (shell : Shell) (next : Run) → shell.pid ≡ pid → P s → Keeps (loop_left s shell next (onward looped leave))
  loop_left_keeps looped (leave.Exit status) s shell next e p = (e, p)
  loop_left_keeps looped (leave.Fault status) s shell next e p = (e, p)
  loop_left_keeps looped (leave.Return status) s shell next e p = (e, p)
  loop_left_keeps looped (leave.Break zero) s shell next e p = (e, p)
  loop_left_keeps false (leave.Break (suc inside)) s shell next e p = (e, p)
  loop_left_keeps true (leave.Break (suc inside)) s shell next e p = (e, p)
  loop_left_keeps looped (leave.Continue zero) s shell next e p = (e, p)
  loop_left_keeps false (leave.Continue (suc inside)) s shell next e p = (e, p)
  loop_left_keeps true (leave.Continue (suc inside)) s shell next e p = (e, p)

  text_left_keeps : (goes_on : Bool) (s : KernelState) (shell : Shell) (rest : List ℕ) (leave : Leave) → shell.pid ≡ pid → P s → Keeps (dropped_in_text goes_on s shell rest leave)
  text_left_keeps true s shell rest (leave.Exit status) e p = (e, p)
  text_left_keeps true s shell rest (leave.Fault status) e p = (e, p)
  text_left_keeps true s shell rest (leave.Return status) e p = (e, p)
  text_left_keeps true s shell rest (leave.Break inside) e p = (e, p)
  text_left_keeps true s shell rest (leave.Continue inside) e p = (e, p)
  text_left_keeps false s shell rest leave e p = (e, p)

  input_left_keeps : (s : KernelState) (shell : Shell) (leave : Leave) → shell.pid ≡ pid → P s → Keeps (input_left s shell leave)
  input_left_keeps s shell (leave.Exit status) e p = (e, p)
  input_left_keeps s shell (leave.Fault status) e p = (e, p)
  input_left_keeps s shell (leave.Return status) e p = (e, p)
  input_left_keeps s shell (leave.Break inside) e p = (e, p)
  input_left_keeps s shell (leave.Continue inside) e p = (e, p)

  place_left_keeps : (around : List Form) (s : KernelState) (shell : Shell) (next : Action) (leave : Leave) → shell.pid ≡ pid → P s → Keeps (place_left around s shell next leave)
  place_left_keeps around s shell (Reading rest status) leave e p = text_left_keeps (goes_on_reading around shell) s shell rest leave e p
  place_left_keeps around s shell (ReadInput b) leave e p = input_left_keeps s shell leave e p
  place_left_keeps around s shell (Prompting b) leave e p = (e, p)
  place_left_keeps around s shell (Expanding wants pending) leave e p = (e, p)
  place_left_keeps around s shell (ReadSubstitution substitution) leave e p = (e, p)
  place_left_keeps around s shell (WaitSubstitution substitution) leave e p = (e, p)
  place_left_keeps around s shell (Asking rest) leave e p = (e, p)
  place_left_keeps around s shell (WaitForJob wait) leave e p = (e, p)
  place_left_keeps around s shell (Redirecting c) leave e p = (e, p)
  place_left_keeps around s shell (Forking c) leave e p = (e, p)
  place_left_keeps around s shell (Starting start) leave e p = (e, p)
  place_left_keeps around s shell (ForkStage stages) leave e p = (e, p)
  place_left_keeps around s shell (ForkList list) leave e p = (e, p)
  place_left_keeps around s shell (AssignLoopVariable series) leave e p = loop_left_keeps (has_loop around) leave s shell (At (rest_of_series series (unexcused 0))) e p
  place_left_keeps around s shell (Defining definition) leave e p = (e, p)
  place_left_keeps around s shell (Waiting wait) leave e p = (e, p)
  place_left_keeps around s shell (Writing piece finish) leave e p = (e, p)
  place_left_keeps around s shell (Trapping status) leave e p = (e, p)
  place_left_keeps around s shell (Ending status) leave e p = (e, p)

  left_keeps : (around : List Form) (form : Form) (s : KernelState) (shell : Shell) (leave : Leave) → shell.pid ≡ pid → P s → Keeps (after_leave around form s shell leave)
  left_keeps around (Text rest) s shell leave e p = text_left_keeps (goes_on_reading around shell) s shell rest leave e p
  left_keeps around (Input rest) s shell leave e p = input_left_keeps s shell leave e p
  left_keeps around (Commands items) s shell leave e p = (e, p)
  left_keeps around (Joined others) s shell leave e p = (e, p)
  left_keeps around Negated s shell leave e p = (e, p)
  left_keeps around (Restoring undo) s shell leave e p = undone_keeps undo s shell (At (Leaving leave)) e p
  left_keeps around (If branches) s shell leave e p = (e, p)
  left_keeps around (Condition loop last) s shell leave e p = loop_left_keeps (has_loop around) leave s shell (condition_run loop last) e p
  left_keeps around (Body loop) s shell leave e p = loop_left_keeps (has_loop around) leave s shell (condition_run loop (unexcused 0)) e p
  left_keeps around (ForBody series) s shell leave e p = loop_left_keeps (has_loop around) leave s shell (At (rest_of_series series (unexcused 0))) e p
  left_keeps around (Call positional) s shell leave e p = (e, p)
  left_keeps around (Evaluation how) s shell leave e p = (e, p)
  left_keeps around (Trapped before) s shell leave e p = (e, p)
  left_keeps around (Interruption before next) s shell leave e p = place_left_keeps around s shell next leave e p
  left_keeps around FailuresIgnored s shell leave e p = (e, p)

  after_by_keeps : (around : List Form) (form : Form) (s : KernelState) (shell : Shell) (run : Run) → shell.pid ≡ pid → P s → Keeps (after_by around form s shell run)
  after_by_keeps around form s shell (At (Done status)) e p = ended_keeps around form s shell status e p
  after_by_keeps around form s shell (At (Leaving leave)) e p = left_keeps around form s shell leave e p
  after_by_keeps around form s shell (At (Acting b fields)) e p = (e, p)
  after_by_keeps around form s shell (At (Calling body fields)) e p = (e, p)
  after_by_keeps around form s shell (At (Evaluating how text)) e p = (e, p)
  after_by_keeps around form s shell (At (Next place)) e p = (e, p)
  after_by_keeps around form s shell (In inner run) e p = (e, p)

  after_keeps : (around : List Form) (form : Form) (a : Acted) → Keeps a → Keeps (after around form a)
  unfolding after
  after_keeps around form a k = after_by_keeps around form a.machine a.shell a.run k.0 k.1

  -- ---- a built-in has set traps
  trap_in_keeps : (set : SignalSet) (s : KernelState) (shell : Shell) (signal : Signal) → shell.pid ≡ pid → P s → P (after_trap_in set s shell signal)
  trap_in_keeps set s shell signal e p = at (has set signal)
    where
      at : (b : Bool) → P (if b then after_trap_set s shell signal else s)
      at true = own shell e s (SetAction signal (signal_action (own_action shell signal) (action_of shell.traps (Caught signal)))) tt p
      at false = p

  pub traps_in_keeps : (set : SignalSet) (s : KernelState) (shell : Shell) (those : List Signal) → shell.pid ≡ pid → P s → P (after_traps_in set s shell those)
  traps_in_keeps set s shell [] e p = p
  traps_in_keeps set s shell (signal ∷ others) e p =
      traps_in_keeps set (after_trap_in set s shell signal) shell others e (trap_in_keeps set s shell signal e p)

  -- what an interactive shell ignores by itself
  releases_keep : (s : KernelState) (shell : Shell) (those : List Signal) → shell.pid ≡ pid → P s → P (after_releases s shell shell.pid those)
  releases_keep s shell [] e p = p
  releases_keep s shell (signal ∷ others) e p =
      releases_keep (after_release s shell shell.pid signal) shell others e
      (own shell e s (SetAction signal (released_action (action_of shell.traps (Caught signal)))) tt p)

  pub own_signals_keep : (s : KernelState) (shell : Shell) → shell.pid ≡ pid → P s → P (after_own_signals s shell shell.pid)
  own_signals_keep s shell e p = at (is_interactive shell)
    where
      at : (b : Bool) → P (if b then after_releases s shell shell.pid own_ignored else s)
      at true = releases_keep s shell own_ignored e p
      at false = p

  machine_keeps : (around : List Form) (s : KernelState) (shell : Shell) (active : Active) → shell.pid ≡ pid → P s → P (machine_at around s shell active)
  unfolding builtin_machine after_traps invoked
  machine_keeps around s shell (Acting i fields) e p =
      let last = last_for around i.builtin shell.vars.special.status in
      let d = invoked s shell last i (drop 1 fields) in
      traps_in_keeps d.outcome.signals s d.shell signals (built_in_number s shell last i.builtin (drop 1 fields) ∙ e) p
  machine_keeps around s shell (Calling body fields) e p = p
  machine_keeps around s shell (Evaluating how text) e p = p
  machine_keeps around s shell (Next place) e p = p
  machine_keeps around s shell (Done status) e p = p
  machine_keeps around s shell (Leaving leave) e p = p

  settled_keeps : (around : List Form) (s : KernelState) (shell : Shell) (run : Run) → shell.pid ≡ pid → P s → Keeps (at_action around s shell run)
  settled_keeps around s shell (At active) e p = (effect_number around s shell active ∙ e, machine_keeps around s shell active e p)
  settled_keeps around s shell (In form run) e p =
      after_keeps around form (at_action (form ∷ around) s shell run) (settled_keeps (form ∷ around) s shell run e p)

  -- ---- what a substitution's process writes
  collected_keeps : (s : KernelState) (shell : Shell) (substitution : Substitution) (aside : ℕ) → shell.pid ≡ pid → P s → Keeps (after_collection s shell substitution aside)
  unfolding after_collection
  collected_keeps s shell substitution aside e p = (e, own shell e s (Close (Aside aside)) tt p)

  collect_by_keeps : (s : KernelState) (shell : Shell) (substitution : Substitution) (aside : ℕ) (told : ReadOutcome) → shell.pid ≡ pid → P s → Keeps (collect_by s shell substitution aside told)
  collect_by_keeps s shell substitution aside (taken.Bytes bytes) e p = at (nat_eq (length bytes) 0)
    where
      at : (b : Bool) → Keeps (if b then after_collection s shell substitution aside else with_run s shell (next (ReadSubstitution (with_written substitution bytes))))
      at true = collected_keeps s shell substitution aside e p
      at false = (e, p)
  collect_by_keeps s shell substitution aside taken.Wait e p = (e, p)
  collect_by_keeps s shell substitution aside taken.Failed e p = collected_keeps s shell substitution aside e p

  collect_end_keeps : (s : KernelState) (shell : Shell) (substitution : Substitution) (o : Option ℕ) → shell.pid ≡ pid → P s → Keeps (collect_end s shell substitution o)
  unfolding collect_from
  collect_end_keeps s shell substitution None e p = (e, p)
  collect_end_keeps s shell substitution (Some aside) e p =
      let t = take_bytes s shell.pid (Aside aside) 1024 in
      collect_by_keeps t.after shell substitution aside t.told e (take_keeps directory shell.pid P (own shell e) s (Aside aside) 1024 p)

  collect_keeps : (s : KernelState) (shell : Shell) (substitution : Substitution) → shell.pid ≡ pid → P s → Keeps (collect_turn s shell substitution)
  unfolding collect_turn
  collect_keeps s shell substitution e p = collect_end_keeps s shell substitution substitution.aside e p

  -- ---- the commands of an interactive shell
  prompted_keeps : (s : KernelState) (shell : Shell) (bytes : List ℕ) → shell.pid ≡ pid → P s → P (give_bytes s shell.pid 2 bytes).after
  prompted_keeps s shell bytes e p = give_keeps directory shell.pid P (own shell e) s 2 bytes p

  job_written_keeps : (c : Bool) (g : Giving) (shell : Shell) (b : Beginning) (number : ℕ) → shell.pid ≡ pid → P g.after
      → KeepsPlaced (if c then stays g.after shell b else behind_job g.after (with_job_told g.after shell number) b)
  job_written_keeps true g shell b number e p = (e, p)
  job_written_keeps false g shell b number e p = (e, p)

  prompt_written_keeps : (c : Bool) (g : Giving) (shell : Shell) (b : Beginning) → shell.pid ≡ pid → P g.after
      → KeepsPlaced (if c then stays g.after shell b else at_place g.after shell (Next (ReadInput b)))
  prompt_written_keeps true g shell b e p = (e, p)
  prompt_written_keeps false g shell b e p = (e, p)

  prompt_by_keeps : (s : KernelState) (shell : Shell) (b : Beginning) (o : Option ℕ) → shell.pid ≡ pid → P s → KeepsPlaced (prompt_by s shell b o)
  prompt_by_keeps s shell b (Some number) e p =
      let line = job_lines s.machine.processes (up_to_date s shell).jobs Short (number ∷ []) in
      let g = give_bytes s shell.pid 2 line in
      job_written_keeps (is_waiting g.told) g (up_to_date s shell) b number e (prompted_keeps s shell line e p)
  prompt_by_keeps s shell b None e p =
      let g = give_bytes s shell.pid 2 (prompt_of shell.vars b.text) in
      prompt_written_keeps (is_waiting g.told) g shell b e (prompted_keeps s shell (prompt_of shell.vars b.text) e p)

  prompt_keeps : (s : KernelState) (shell : Shell) (b : Beginning) → shell.pid ≡ pid → P s → KeepsPlaced (prompt_turn s shell b)
  unfolding prompt_turn
  prompt_keeps s shell b e p = prompt_by_keeps s shell b (job_to_tell s shell b.text) e p

  input_taken_keeps : (s : KernelState) (shell : Shell) (b : Beginning) (told : ReadOutcome) → shell.pid ≡ pid → P s → Keeps (input_taken s shell b told)
  input_taken_keeps s shell b (taken.Bytes bytes) e p = (e, p)
  input_taken_keeps s shell b taken.Wait e p = (e, p)
  input_taken_keeps s shell b taken.Failed e p = (e, p)

  read_input_keeps : (s : KernelState) (shell : Shell) (b : Beginning) → shell.pid ≡ pid → P s → Keeps (input_turn s shell b)
  unfolding input_turn
  read_input_keeps s shell b e p =
      let count = most_read s.machine shell.pid in
      let t = take_bytes s shell.pid (Number 0) count in
      input_taken_keeps t.after shell b t.told e (take_keeps directory shell.pid P (own shell e) s (Number 0) count p)

  -- ---- a wait for a pipeline
  terminal_keeps : (s : KernelState) (shell : Shell) → shell.pid ≡ pid → P s → P (terminal_back s shell.pid)
  terminal_keeps s shell e p = own shell e s (SetForeground (own_group s shell.pid)) tt p

  controlled_keeps : (s : KernelState) (shell : Shell) (children text : List ℕ) (state : JobState) → shell.pid ≡ pid → P s → KeepsPlaced (controlled_by s shell children text state)
  controlled_keeps s shell children text Running e p = (e, p)
  controlled_keeps s shell children text (Suspended signal) e p = (e, terminal_keeps s shell e p)
  controlled_keeps s shell children text (state.Done ending) e p = (e, terminal_keeps s shell e p)

  wait_with_keeps : (s : KernelState) (shell : Shell) (children : List ℕ) (job : Option (List ℕ)) → shell.pid ≡ pid → P s → KeepsPlaced (wait_with s shell children job)
  wait_with_keeps s shell children None e p = (e, p)
  wait_with_keeps s shell children (Some text) e p = controlled_keeps s shell children text (state_of s.machine.processes children) e p

  wait_keeps : (s : KernelState) (shell : Shell) (wait : PipelineWait) → shell.pid ≡ pid → P s → KeepsPlaced (wait_turn s shell wait)
  unfolding wait_turn
  wait_keeps s shell wait e p = wait_with_keeps s shell wait.children wait.job e p

  -- ---- a signal is sent
  sending_keeps : (s : KernelState) (shell : Shell) (signal : Option Signal) (target : Result SignalTarget JobFault) → shell.pid ≡ pid → P s → P (after_sending s signal target)
  sending_keeps s shell None target e p = p
  sending_keeps s shell (Some signal) (Err fault) e p = p
  sending_keeps s shell (Some signal) (Ok target) e p = own shell e s (Kill target signal) tt p

  -- ---- a built-in asks
  continuing_keeps : (s : KernelState) (shell : Shell) (group : ℕ) → shell.pid ≡ pid → P s → P (after_continue s group)
  continuing_keeps s shell group e p = sending_keeps s shell (Some signal.Continue) (Ok (Group group)) e p

  first_keeps : (s : KernelState) (shell : Shell) (jobs : List ContinuedJob) → shell.pid ≡ pid → P s → P (after_first s jobs)
  first_keeps s shell [] e p = p
  first_keeps s shell (job ∷ jobs) e p = continuing_keeps s shell job.group e p

  continuation_keeps : (s : KernelState) (shell : Shell) (c : Continuation) → shell.pid ≡ pid → P s → P (after_continuation s c)
  continuation_keeps s shell (continuation.Background jobs messages status) e p = first_keeps s shell jobs e p
  continuation_keeps s shell (continuation.Foreground job) e p =
      continuing_keeps (after_request s shell.pid (SetForeground job.group)) shell job.group e (own shell e s (SetForeground job.group) tt p)

  asked_keeps : (s : KernelState) (shell : Shell) (rest : BuiltinRest) → shell.pid ≡ pid → P s → P (asked s shell rest).after
  asked_keeps s shell (Reads reader) e p = take_keeps directory shell.pid P (own shell e) s (Number 0) (most_read s.machine shell.pid) p
  asked_keeps s shell (Waits awaited) e p = p
  asked_keeps s shell (Kills kill) e p = sending_keeps s shell kill.send.signal kill.target e p
  asked_keeps s shell (Continues c) e p = continuation_keeps s shell c e p

  ask_by_keeps : (s : KernelState) (shell : Shell) (rest : BuiltinRest) (o : Option Answer) → shell.pid ≡ pid → P s → KeepsPlaced (ask_by s shell rest o)
  ask_by_keeps s shell rest None e p = (e, p)
  ask_by_keeps s shell rest (Some answer) e p = ((resumed_same s shell rest answer).pid ∙ e, p)

  ask_keeps : (s : KernelState) (shell : Shell) (rest : BuiltinRest) → shell.pid ≡ pid → P s → KeepsPlaced (ask_turn s shell rest)
  unfolding ask_turn
  ask_keeps s shell rest e p = let a = asked s shell rest in ask_by_keeps a.after shell rest a.answer e (asked_keeps s shell rest e p)

  -- ---- the job in the foreground is waited for
  job_ended_keeps : (s : KernelState) (shell : Shell) (wait : JobWait) (o : Option ℕ) → shell.pid ≡ pid → P s → KeepsPlaced (job_ended s shell wait o)
  job_ended_keeps s shell wait None e p = (e, p)
  job_ended_keeps s shell wait (Some status) e p = (e, p)

  job_wait_by_keeps : (s : KernelState) (shell : Shell) (wait : JobWait) (state : JobState) → shell.pid ≡ pid → P s → KeepsPlaced (job_wait_by s shell wait state)
  job_wait_by_keeps s shell wait Running e p = (e, p)
  job_wait_by_keeps s shell wait (Suspended signal) e p = (e, terminal_keeps s shell e p)
  job_wait_by_keeps s shell wait (state.Done ending) e p =
      let t = terminal_back s shell.pid in job_ended_keeps t shell wait (wait_status t shell.pid wait.processes) e (terminal_keeps s shell e p)

  job_wait_keeps : (s : KernelState) (shell : Shell) (wait : JobWait) → shell.pid ≡ pid → P s → KeepsPlaced (job_wait_turn s shell wait)
  unfolding job_wait_turn
  job_wait_keeps s shell wait e p = job_wait_by_keeps s shell wait (state_of s.machine.processes wait.processes) e p

  -- ---- /dev/null is laid for an asynchronous list
  set_by_keeps : (r : Result ℕ KernelFault) (s : KernelState) → P s → P (set_by r s).after
  set_by_keeps (Ok aside) s p = p
  set_by_keeps (Err fault) s p = p

  pub null_keeps : (s : KernelState) (shell : Shell) → shell.pid ≡ pid → shell.vars.directory ≡ directory → P s → P (null_laid shell.vars.directory s shell.pid).after
  unfolding null_laid after_null set_aside
  null_keeps s shell e d p =
      let call = Open shell.vars.directory (codes "/dev/null") to_read false 10 in
      let t = after_request s shell.pid call in
      set_by_keeps (set_aside_call t shell.pid 10).answer (after_request t shell.pid (SetAside 10)) (own shell e t (SetAside 10) tt (own shell e s call d p))

  pub background_keeps : (control : Bool) (s : KernelState) (shell : Shell) → shell.pid ≡ pid → shell.vars.directory ≡ directory → P s → P (background_input control s shell).after
  background_keeps true s shell e d p = p
  background_keeps false s shell e d p = null_keeps s shell e d p

  pub input_keeps : (launch : Launch) (before : List ℕ) (aside : Option ℕ) (s : KernelState) (shell : Shell) → shell.pid ≡ pid → shell.vars.directory ≡ directory → P s
      → P (stage_input launch before aside shell s).after
  input_keeps (Foreground job) before aside s shell e d p = p
  input_keeps (Background list) [] aside s shell e d p = background_keeps (has_job_control shell) s shell e d p
  input_keeps (Background list) (child ∷ children) aside s shell e d p = p

  -- ---- a redirection
  redirect_from_keeps : (s : KernelState) (shell : Shell) (prepared : ExpandedCommand) (redirections : List Redirection) → shell.pid ≡ pid → shell.vars.directory ≡ directory → P s → Keeps (redirect_from s shell prepared redirections)
  unfolding redirect_one
  redirect_from_keeps s shell prepared [] e d p = (e, p)
  redirect_from_keeps s shell prepared (redirection ∷ redirections) e d p =
      (e, rw d (redirect_keeps directory shell.pid P (own shell e) (keeps prepared.role) s redirection p))

  redirect_turn_keeps : (s : KernelState) (shell : Shell) (prepared : ExpandedCommand) → shell.pid ≡ pid → shell.vars.directory ≡ directory → P s → Keeps (redirect_turn s shell prepared)
  unfolding redirect_turn
  redirect_turn_keeps s shell prepared e d p = redirect_from_keeps s shell prepared prepared.redirections e d p

  -- ---- a write, and the end
  write_keeps : (s : KernelState) (shell : Shell) (piece : Piece) (finish : Finish) → shell.pid ≡ pid → P s → Keeps (write_turn s shell piece finish)
  unfolding write_turn
  write_keeps s shell piece finish e p = (e, give_keeps directory shell.pid P (own shell e) s piece.descriptor piece.bytes p)

  end_keeps : (s : KernelState) (shell : Shell) (status : ℕ) → shell.pid ≡ pid → P s → Keeps (end_turn s shell status)
  unfolding end_turn
  end_keeps s shell status e p = (e, own shell e s (End status) tt p)

  -- ---- the trap on EXIT
  trap_by_keeps : (s : KernelState) (shell : Shell) (status : ℕ) (action : Option (List ℕ)) → shell.pid ≡ pid → P s → Keeps (trap_by s shell status action)
  trap_by_keeps s shell status None e p = (e, p)
  trap_by_keeps s shell status (Some text) e p = (e, p)

  trap_keeps : (s : KernelState) (shell : Shell) (status : ℕ) → shell.pid ≡ pid → P s → Keeps (trap_turn s shell status)
  unfolding trap_turn
  trap_keeps s shell status e p = trap_by_keeps s shell status (action_of shell.traps Exit) e p

  -- ---- a trap on a signal
  interrupted_keeps : (levels : ℕ) (s : KernelState) (shell : Shell) (place : Action) (text : List ℕ) → shell.pid ≡ pid → P s → Keeps (interrupted levels s shell place text)
  interrupted_keeps zero s shell place text e p = (e, p)
  interrupted_keeps (suc levels) s shell place text e p = (e, p)

  interruption_keeps : (around : List Form) (s : KernelState) (shell : Shell) (place : Action) (text : List ℕ) → shell.pid ≡ pid → P s
      → Keeps (interruption around s shell place text)
  unfolding interruption
  interruption_keeps around s shell place text e p =
      interrupted_keeps (levels_left around) (after_take_signal s shell.pid) (shell_before shell place) place text (before_number shell place ∙ e) (own shell e s TakeSignal tt p)

-- ---- processes that are made
made_keeps_pid : (s : KernelState) (launch : Launch) (shell : Shell) (children : List ℕ) → (made_shell s launch shell children).pid ≡ shell.pid
made_keeps_pid s (Foreground job) shell children = refl
made_keeps_pid s (Background list) shell children = refl

stage_keeps_pid : (s : KernelState) (launch : Launch) (commands : List Command) (shell : Shell) (children : List ℕ) → (stage_shell s launch commands shell children).pid ≡ shell.pid
stage_keeps_pid s launch [] shell children = made_keeps_pid s launch shell children
stage_keeps_pid s launch (command ∷ commands) shell children = refl

module _ (directory : List ℕ) (pid : ℕ) (P : Option ℕ → KernelState → Type 0) (kept : (made : Option ℕ) → IsKept directory pid (P made)) (forks : IsForked pid P) where
  abbrev pub Leaves : Turned → Type 0
  Leaves t = (t.left.shell.pid ≡ pid) × P (made_number t.child) t.left.machine

  own_forks : (shell : Shell) → shell.pid ≡ pid → IsForked shell.pid P
  own_forks shell e = subst (λ n. IsForked n P) (sym e) forks

  forked : (shell : Shell) → shell.pid ≡ pid → (s : KernelState) (before : Option ℕ) (writes is_foreground : Bool) (others : List ℕ) → P None s
      → let f = fork_of s shell.pid before writes in P f.child (behind_fork shell is_foreground others f.child f.after)
  forked shell e s before writes is_foreground others p =
      let f = fork_of s shell.pid before writes in
      subst (λ t. P f.child (behind_fork_by (has_job_control shell) shell.pid is_foreground others f.child t)) (sym (released_is shell f.child f.after))
      (own_forks shell e s before writes (own_settings shell) (has_job_control shell) is_foreground others p)

  program_keeps : (around : List Form) (s : KernelState) (shell : Shell) (prepared : ExpandedCommand) (o : Option ℕ) → shell.pid ≡ pid → P o s → Leaves (program_by around s shell prepared o)
  program_keeps around s shell prepared None e p = (e, p)
  program_keeps around s shell prepared (Some child) e p = (e, p)

  fork_turn_keeps : (around : List Form) (s : KernelState) (shell : Shell) (prepared : ExpandedCommand) → shell.pid ≡ pid → P None s → Leaves (fork_turn around s shell prepared)
  unfolding fork_turn
  fork_turn_keeps around s shell prepared e p =
      let f = fork_of s shell.pid None false in
      program_keeps around (behind_fork shell true [] f.child f.after) shell prepared f.child e (forked shell e s None false true [] p)

  stage_by_keeps : (s : KernelState) (shell : Shell) (command : Command) (stages : Stages) (o : Option ℕ) → shell.pid ≡ pid → P o s → Leaves (stage_by s shell command stages o)
  stage_by_keeps s shell command stages None e p = (e, p)
  stage_by_keeps s shell command stages (Some child) e p = (stage_keeps_pid s stages.launch stages.commands shell (stages.children ++ child ∷ []) ∙ e, p)

  stage_from_keeps : (s : KernelState) (shell : Shell) (stages : Stages) (commands : List Command) → shell.pid ≡ pid → shell.vars.directory ≡ directory → P None s → Leaves (stage_from s shell stages commands)
  unfolding stage_one
  stage_from_keeps s shell stages [] e d p = (e, p)
  stage_from_keeps s shell stages (command ∷ commands) e d p =
      let l = stage_input stages.launch stages.children stages.aside shell s in
      let f = fork_of l.after shell.pid l.aside (is_more commands) in
      let laid = input_keeps directory pid (P None) (kept None) stages.launch stages.children stages.aside s shell e d p in
      stage_by_keeps (behind_fork shell (is_foreground stages.launch) stages.children f.child f.after) shell command (record stages { commands = commands; aside = f.aside }) f.child e
      (forked shell e l.after l.aside (is_more commands) (is_foreground stages.launch) stages.children laid)

  stage_turn_keeps : (around : List Form) (s : KernelState) (shell : Shell) (stages : Stages) → shell.pid ≡ pid → shell.vars.directory ≡ directory → P None s → Leaves (stage_turn around s shell stages)
  unfolding stage_turn
  stage_turn_keeps around s shell stages e d p =
      stage_from_keeps s shell (record stages { launch = launch_by around shell stages.commands stages.children stages.launch }) stages.commands e d p

  list_by_keeps : (s : KernelState) (shell : Shell) (list : AndOr) (o : Option ℕ) → shell.pid ≡ pid → P o s → Leaves (list_by s shell list o)
  list_by_keeps s shell list None e p = (e, p)
  list_by_keeps s shell list (Some child) e p = (e, p)

  list_turn_keeps : (s : KernelState) (shell : Shell) (list : AndOr) → shell.pid ≡ pid → shell.vars.directory ≡ directory → P None s → Leaves (list_turn s shell list)
  unfolding list_turn
  list_turn_keeps s shell list e d p =
      let l = background_input (has_job_control shell) s shell in
      let f = fork_of l.after shell.pid l.aside false in
      list_by_keeps (behind_fork shell false [] f.child f.after) shell list f.child e
      (forked shell e l.after l.aside false false [] (background_keeps directory pid (P None) (kept None) (has_job_control shell) s shell e d p))

  substitution_keeps : (s : KernelState) (shell : Shell) (program : CompoundList) (substitution : Substitution) (o : Option ℕ) → shell.pid ≡ pid → P o s → Leaves (substitution_by s shell program substitution o)
  substitution_keeps s shell program substitution None e p = (e, p)
  substitution_keeps s shell program substitution (Some child) e p = (e, p)

  substitute_keeps : (s : KernelState) (shell : Shell) (program : CompoundList) (wants : ToExpand) (pending : Pending) → shell.pid ≡ pid → P None s → Leaves (substitute_turn s shell program wants pending)
  unfolding substitute_turn
  substitute_keeps s shell program wants pending e p =
      let f = fork_of s shell.pid None true in
      substitution_keeps (released shell f.child f.after) shell program (begun_substitution wants pending f.aside) f.child e
      (subst (P f.child) (sym (released_is shell f.child f.after)) (own_forks shell e s None true (own_settings shell) false true [] p))

  expanded_keeps : (s : KernelState) (shell : Shell) (x : Expanded) → shell.pid ≡ pid → P None s → Leaves (expanded_by s shell x)
  expanded_keeps s shell (expanded.Need program wants pending) e p = substitute_keeps s shell program wants pending e p
  expanded_keeps s shell (expanded.Go move) e p = (e, p)

  -- ---- the turn
  place_keeps : (around : List Form) (s : KernelState) (shell : Shell) (place : Action) → shell.pid ≡ pid → shell.vars.directory ≡ directory → P None s → Leaves (act_place around s shell place)
  place_keeps around s shell (Reading rest status) e d p = (e, p)
  place_keeps around s shell (Prompting b) e d p = prompt_keeps directory pid (P None) (kept None) s shell b e p
  place_keeps around s shell (ReadInput b) e d p = read_input_keeps directory pid (P None) (kept None) s shell b e p
  place_keeps around s shell (Expanding wants pending) e d p =
      let t = expand_turn s.machine.files shell.vars shell.functions wants pending in expanded_keeps s (record shell { vars = t.environment }) t.outcome e p
  place_keeps around s shell (ReadSubstitution substitution) e d p = collect_keeps directory pid (P None) (kept None) s shell substitution e p
  place_keeps around s shell (WaitSubstitution substitution) e d p = (e, p)
  place_keeps around s shell (Asking rest) e d p = ask_keeps directory pid (P None) (kept None) s shell rest e p
  place_keeps around s shell (WaitForJob wait) e d p = job_wait_keeps directory pid (P None) (kept None) s shell wait e p
  place_keeps around s shell (Redirecting prepared) e d p = redirect_turn_keeps directory pid (P None) (kept None) s shell prepared e d p
  place_keeps around s shell (Forking prepared) e d p = fork_turn_keeps around s shell prepared e p
  place_keeps around s shell (Starting start) e d p = (e, p)
  place_keeps around s shell (ForkStage stages) e d p = stage_turn_keeps around s shell stages e d p
  place_keeps around s shell (ForkList list) e d p = list_turn_keeps s shell list e d p
  place_keeps around s shell (AssignLoopVariable series) e d p = (e, p)
  place_keeps around s shell (Defining definition) e d p = (e, p)
  place_keeps around s shell (Waiting wait) e d p = wait_keeps directory pid (P None) (kept None) s shell wait e p
  place_keeps around s shell (Writing piece finish) e d p = write_keeps directory pid (P None) (kept None) s shell piece finish e p
  place_keeps around s shell (Trapping status) e d p = trap_keeps directory pid (P None) (kept None) s shell status e p
  place_keeps around s shell (Ending status) e d p = end_keeps directory pid (P None) (kept None) s shell status e p

  behind_keeps : (around : List Form) (s : KernelState) (shell : Shell) (place : Action) (trap : Option (List ℕ)) → shell.pid ≡ pid → shell.vars.directory ≡ directory → P None s
      → Leaves (act_behind around s shell place trap)
  behind_keeps around s shell place None e d p = place_keeps around s shell place e d p
  behind_keeps around s shell place (Some text) e d p = interruption_keeps directory pid (P None) (kept None) around s shell place text e p

  active_keeps : (around : List Form) (s : KernelState) (shell : Shell) (active : Active) → shell.pid ≡ pid → shell.vars.directory ≡ directory → P None s → Leaves (act_at around s shell active)
  active_keeps around s shell (Acting b fields) e d p = (e, p)
  active_keeps around s shell (Calling body fields) e d p = (e, p)
  active_keeps around s shell (Evaluating how text) e d p = (e, p)
  active_keeps around s shell (Next place) e d p = behind_keeps around s shell place (trap_before s shell place) e d p
  active_keeps around s shell (Done status) e d p = (e, p)
  active_keeps around s shell (Leaving leave) e d p = (e, p)

  reduce_keeps : (s : KernelState) (shell : Shell) (around : List Form) (run : Run) → shell.pid ≡ pid → shell.vars.directory ≡ directory → P None s → Leaves (reduce s shell around run)
  reduce_keeps s shell around (At active) e d p =
      let t = act_at around s shell active in
      let k = active_keeps around s shell active e d p in
      let made = made_number (inherited (is_failure_ignored around) t.child) in
      settled_keeps directory pid (P made) (kept made) around t.left.machine t.left.shell t.left.run k.0
      (subst (λ number. P number t.left.machine) (inherited_number (is_failure_ignored around) t.child) k.1)
  reduce_keeps s shell around (In form run) e d p =
      let t = reduce s shell (form ∷ around) run in
      after_keeps directory pid (P (made_number t.child)) (kept (made_number t.child)) around form t.left (reduce_keeps s shell (form ∷ around) run e d p)

  -- ---- INT may have an interactive shell drop what it does before
  drop_by_keeps : (b : Bool) (s : KernelState) (shell : Shell) (around : List Form) (place : Action) → shell.pid ≡ pid → P None s
      → Keeps directory pid (P None) (kept None)
      (if b then rooted (at_action [] (after_drop s shell) shell (run_in around (dropped_run place))) else with_run s shell (run_of around (Next place)))
  unfolding after_drop
  drop_by_keeps true s shell around place e p =
      let set = own directory pid (P None) (kept None) shell e s (SetAction signal.Interrupt does.Default) tt p in
      settled_keeps directory pid (P None) (kept None) [] (after_drop s shell) shell (run_in around (dropped_run place)) e
      (own directory pid (P None) (kept None) shell e (after_set_action s shell.pid signal.Interrupt does.Default) (SetAction signal.Interrupt does.Caught) tt set)
  drop_by_keeps false s shell around place e p = (e, p)

  drop_keeps : (s : KernelState) (shell : Shell) (around : List Form) (active : Active) → shell.pid ≡ pid → P None s → Keeps directory pid (P None) (kept None) (drop_first s shell around active)
  unfolding drop_at
  drop_keeps s shell around (Next place) e p = drop_by_keeps (drops_before s shell place) s shell around place e p
  drop_keeps s shell around (Acting b fields) e p = (e, p)
  drop_keeps s shell around (Calling body fields) e p = (e, p)
  drop_keeps s shell around (Evaluating how text) e p = (e, p)
  drop_keeps s shell around (Done status) e p = (e, p)
  drop_keeps s shell around (Leaving leave) e p = (e, p)

  pub shell_keeps : (s : KernelState) (interpreter : InterpreterState) → interpreter.shell.pid ≡ pid → interpreter.shell.vars.directory ≡ directory → P None s → Leaves (shell_turn s interpreter)
  unfolding shell_turn
  shell_keeps s interpreter e d p =
      let around = path_of interpreter.run in
      let a = drop_first s interpreter.shell around (active_of interpreter.run) in
      let k = drop_keeps s interpreter.shell around (active_of interpreter.run) e p in
      reduce_keeps a.machine a.shell [] a.run k.0 (drop_directory s interpreter.shell around (active_of interpreter.run) ∙ d) k.1

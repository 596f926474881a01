-- One turn of a shell: inward to its active place, the action there, and outward again.
use Rattle.std.specs.Prelude.{ℕ, List, [], ◌∷◌, Option, Some, None, if◌then◌else◌}
use Rattle.sh_exec_turns.specs.Expanding.{Turn}
use Rattle.sh_builtin_outcome.specs.Outcomes.{shell_status}
use Rattle.sh_builtin_shell.specs.declared.shell.Shell.{Shell}
use Rattle.sh_exec_turns.specs.Reading.{next_command}
use Rattle.sh_exec_turns.specs.Series.{give_turn}
use Rattle.sh_exec_actions.specs.declared.action.Active.{Active}
use Rattle.sh_exec_actions.specs.declared.action.Active.TheVariants.{Acting, Calling, Evaluating, Next, Done, Leaving}
use Rattle.sh_exec_actions.specs.declared.action.Expanded.{Expanded}
use Rattle.sh_exec_actions.specs.declared.action.Expanded.TheVariants as expanded
use Rattle.sh_exec_actions.specs.declared.action.Action.{Action}
use Rattle.sh_exec_actions.specs.declared.action.Action.TheVariants.{Reading, Prompting, ReadInput, Expanding, ReadSubstitution, WaitSubstitution, Asking, WaitForJob, Redirecting, Forking, Starting, ForkStage, ForkList, AssignLoopVariable, Defining, Waiting, Writing, Trapping, Ending}
use Rattle.sh_exec_turns.specs.Acting.{collect_turn, defined, end_turn, ending, expand_turn, given_round, next, read_turn, redirect_turn, trap_turn, write_turn}
use Rattle.sh_exec_turns.specs.Asking.{ask_turn}
use Rattle.sh_exec_turns.specs.Placed.{Placed}
use Rattle.sh_exec_turns.specs.Prompting.{prompt_turn}
use Rattle.sh_exec_turns.specs.JobWaits.{job_wait_turn}
use Rattle.sh_exec_turns.specs.Signals.{after_drop}
use Rattle.sh_exec_turns.specs.Waiting.{answer_turn, wait_turn}
use Rattle.sh_exec_turns.specs.Input.{input_turn}
use Rattle.sh_exec_turns.specs.Traps.{drops_before, interruption, trap_before}
use Rattle.sh_exec_shell.specs.Forks.{Turned, fork_turn, inheriting, list_turn, stage_turn, substitute_turn}
use Rattle.sh_exec_turns.specs.Forms.{Acted, with_run, after, at_action, goes_on_reading}
use Rattle.sh_exec_forms.specs.Moves.{move_run}
use Rattle.sh_exec_forms.specs.Frames.{ends_shell, is_failure_ignored}
use Rattle.sh_exec_actions.specs.declared.form.Form.{Form}
use Rattle.sh_exec_actions.specs.declared.form.Form.TheVariants.{Text, Input}
use Rattle.sh_exec_forms.specs.Running.{Run, At, In, InterpreterState, active_of}
use Rattle.sh_exec_forms.specs.Stacks.{path_of, run_in, run_of}
use Rattle.sh_builtin_outcome.specs.declared.outcome.Leave.TheVariants as leave
use Rattle.sh_kernel.specs.State.{KernelState}

abbrev pub plain : Acted → Turned
plain a = record { left = a; child = None }

abbrev pub placed : Placed → Turned
placed p = plain (with_run p.machine p.shell (At p.active))

-- a need is a command substitution, whose process is made in the same turn
abbrev pub expanded_by : KernelState → Shell → Expanded → Turned
expanded_by s shell (expanded.Need program wants pending) = substitute_turn s shell program wants pending
expanded_by s shell (expanded.Go move) = plain (with_run s shell (move_run move))

abbrev pub expansion : KernelState → Shell → Turn → Turned
expansion s shell t = expanded_by s (record shell { vars = t.environment }) t.outcome

-- the action at a place inside some forms; a program's start isn't the shell's
abbrev pub act_place : (around : List Form) → KernelState → Shell → Action → Turned
act_place around s shell (Reading rest status) = plain (with_run s shell (read_turn (ends_shell around) (goes_on_reading around shell) shell.vars status (next_command shell.aliases rest)))
act_place around s shell (Prompting beginning) = placed (prompt_turn s shell beginning)
act_place around s shell (ReadInput beginning) = plain (input_turn s shell beginning)
act_place around s shell (Expanding wants pending) = expansion s shell (expand_turn s.machine.files shell.vars shell.functions wants pending)
act_place around s shell (ReadSubstitution substitution) = plain (collect_turn s shell substitution)
act_place around s shell (WaitSubstitution substitution) = plain (with_run s shell (next (answer_turn s shell.pid substitution)))
act_place around s shell (Asking rest) = placed (ask_turn s shell rest)
act_place around s shell (WaitForJob wait) = placed (job_wait_turn s shell wait)
act_place around s shell (Redirecting p) = plain (redirect_turn s shell p)
act_place around s shell (Forking p) = fork_turn around s shell p
act_place around s shell (Starting start) = plain (with_run s shell (next (Starting start)))
act_place around s shell (ForkStage stages) = stage_turn around s shell stages
act_place around s shell (ForkList list) = list_turn s shell list
act_place around s shell (AssignLoopVariable series) = plain (given_round s shell (give_turn shell.vars series))
act_place around s shell (Defining definition) = plain (defined s shell definition)
act_place around s shell (Waiting wait) = placed (wait_turn s shell wait)
act_place around s shell (Writing piece finish) = plain (write_turn s shell piece finish)
act_place around s shell (Trapping status) = plain (trap_turn s shell status)
act_place around s shell (Ending status) = plain (end_turn s shell status)

-- the action of a trap may come before it
abbrev pub act_behind : (around : List Form) → KernelState → Shell → Action → (trap : Option (List ℕ)) → Turned
act_behind around s shell place None = act_place around s shell place
act_behind around s shell place (Some text) = plain (interruption around s shell place text)

abbrev pub act_at : (around : List Form) → KernelState → Shell → Active → Turned
act_at around s shell (Acting invocation fields) = plain (with_run s shell (At (Acting invocation fields)))
act_at around s shell (Calling body fields) = plain (with_run s shell (At (Calling body fields)))
act_at around s shell (Evaluating how text) = plain (with_run s shell (At (Evaluating how text)))
act_at around s shell (Next place) = act_behind around s shell place (trap_before s shell place)
act_at around s shell (Done ended) = plain (with_run s shell (At (Done ended)))
act_at around s shell (Leaving leave) = plain (with_run s shell (At (Leaving leave)))

-- statuses go outward from what the action left; around: the forms round it, the innermost first
abbrev pub settled_turn : (around : List Form) → Turned → Turned
settled_turn around t = record { left = at_action around t.left.machine t.left.shell t.left.run; child = t.child }

abbrev pub reduce : KernelState → Shell → (around : List Form) → Run → Turned
reduce s shell around (At active) = settled_turn around (inheriting (is_failure_ignored around) (act_at around s shell active))
reduce s shell around (In form run) =
    let t = reduce s shell (form ∷ around) run in record { left = after around form t.left; child = t.child }

-- at the root what leaves the shell, or is done, becomes its end
abbrev pub at_root : Shell → Run → Run
at_root shell (At (Leaving leave)) = At (Next (ending shell (shell_status leave)))
at_root shell (At (Done ended)) = At (Next (ending shell ended.status))
at_root shell (At (Acting invocation fields)) = At (Acting invocation fields)
at_root shell (At (Calling body fields)) = At (Calling body fields)
at_root shell (At (Evaluating how text)) = At (Evaluating how text)
at_root shell (At (Next place)) = At (Next place)
at_root shell (In form run) = In form run

abbrev pub rooted : Acted → Acted
rooted a = with_run a.machine a.shell (at_root a.shell a.run)

abbrev pub with_root : Turned → Turned
with_root t = record { left = rooted t.left; child = t.child }

-- ---- INT without a trap: as if a command had failed at this place, with 128 and the number of INT; but a shell that is to end, ends. This is looked
-- at as the turn begins, which is then that of what comes next
abbrev pub dropped_status : ℕ
dropped_status = 130

abbrev pub dropped : Run
dropped = At (Leaving (leave.Fault dropped_status))

abbrev pub dropped_run : Action → Run
dropped_run (Reading rest status) = In (Text rest) dropped
dropped_run (ReadInput beginning) = In (Input []) dropped
dropped_run (Trapping status) = At (Next (Trapping status))
dropped_run _ = dropped

unfoldable pub drop_at : KernelState → Shell → (around : List Form) → Action → Acted
drop_at s shell around place =
    if drops_before s shell place
    then rooted (at_action [] (after_drop s shell) shell (run_in around (dropped_run place)))
    else with_run s shell (run_of around (Next place))

abbrev pub drop_first : KernelState → Shell → (around : List Form) → Active → Acted
drop_first s shell around (Next place) = drop_at s shell around place
drop_first s shell around (Acting invocation fields) = with_run s shell (run_of around (Acting invocation fields))
drop_first s shell around (Calling body fields) = with_run s shell (run_of around (Calling body fields))
drop_first s shell around (Evaluating how text) = with_run s shell (run_of around (Evaluating how text))
drop_first s shell around (Done ended) = with_run s shell (run_of around (Done ended))
drop_first s shell around (Leaving leave) = with_run s shell (run_of around (Leaving leave))

-- ---- the turn
abbrev pub turn_from : Acted → Turned
turn_from a = with_root (reduce a.machine a.shell [] a.run)

unfoldable pub shell_turn : KernelState → InterpreterState → Turned
shell_turn s interpreter = turn_from (drop_first s interpreter.shell (path_of interpreter.run) (active_of interpreter.run))

-- The turns in which a shell waits for processes (2.6.3, 2.9.2).
use Rattle.std.specs.Prelude.{ℕ, List, [], ◌∷◌, ◌++◌, ◌&&◌, Bool, false, nat_eq, Option, Some, None, if◌then◌else◌}
use Rattle.sh_builtin_outcome.specs.declared.outcome.Leave.TheVariants as leave
use Rattle.sh_exec_actions.specs.Statuses.{unexcused}
use Rattle.sh_exec_actions.specs.declared.action.Action.{Action}
use Rattle.sh_exec_actions.specs.declared.action.Action.TheVariants.{WaitSubstitution, Expanding, Waiting, Writing}
use Rattle.sh_exec_actions.specs.declared.action.Active.{Active}
use Rattle.sh_exec_actions.specs.declared.action.Active.TheVariants.{Next, Done, Leaving}
use Rattle.sh_exec_actions.specs.declared.action.Finish.TheVariants.{Status}
use Rattle.sh_expand.specs.Answers.{Pending}
use Rattle.sh_exec_actions.specs.declared.action.PipelineWait.{PipelineWait}
use Rattle.sh_exec_actions.specs.declared.action.Substitution.{Substitution}
use Rattle.sh_exec_actions.specs.declared.action.ToExpand.{ToExpand}
use Rattle.sh_exec_actions.specs.declared.action.ToExpand.TheVariants.{Words, Values, Redirects, ForWords, CaseWord, CasePattern}
use Rattle.sh_builtin_shell.specs.Shells.{after_suspension, is_interactive, own_group, up_to_date}
use Rattle.sh_builtin_shell.specs.declared.shell.Shell.{Shell}
use Rattle.sh_exec_signals.specs.Placed.{Placed, at_place}
use Rattle.sh_exec_machine.specs.Waits.{last_of, signal_status, wait_status}
use Rattle.sh_jobs.specs.Lines.{report_of}
use Rattle.sh_jobs.specs.States.{state_of}
use Rattle.sh_jobs.specs.Table.{free_number}
use Rattle.sh_jobs.specs.declared.job.Job.{Job}
use Rattle.sh_jobs.specs.declared.line.JobForm.TheVariants.{Short}
use Rattle.sh_jobs.specs.declared.state.JobState.{JobState}
use Rattle.sh_jobs.specs.declared.state.JobState.TheVariants.{Running, Suspended}
use Rattle.sh_jobs.specs.declared.state.JobState.TheVariants as state
use Rattle.sh_kernel.specs.Calls.{after_set_foreground}
use Rattle.sh_kernel.specs.State.{KernelState}
use Rattle.sh_kernel_processes.specs.Processes.{status_at}
use Rattle.sh_kernel_processes.specs.declared.process.Status as process
use Rattle.sh_kernel_processes.specs.declared.process.Status.TheVariants as status
use Rattle.sh_signal.specs.Signals.{number_of}
use Rattle.sh_signal.specs.declared.signal.Signal.TheVariants.{Interrupt}

-- the status of a substitution is kept for a command without a name (2.9.1)
abbrev pub with_substitution : ToExpand → ℕ → ToExpand
with_substitution (Words command in_place before) status = Words command in_place status
with_substitution (Values p) status = Values (record p { status = status })
with_substitution (Redirects command) status = Redirects command
with_substitution (ForWords command) status = ForWords command
with_substitution (CaseWord command) status = CaseWord command
with_substitution (CasePattern case) status = CasePattern case

abbrev pub with_next_answer : Pending → List ℕ → Pending
with_next_answer pending answer = record pending { answers = pending.answers ++ answer ∷ [] }

abbrev pub answer_by : Substitution → Option ℕ → Action
answer_by substitution None = WaitSubstitution substitution
answer_by substitution (Some status) =
    Expanding (with_substitution substitution.wants status) (Some (with_next_answer substitution.pending substitution.written))

unfoldable pub answer_turn : KernelState → ℕ → Substitution → Action
answer_turn s pid substitution = answer_by substitution (wait_status s pid substitution.children)

-- ---- a pipeline (2.9.2): once all its processes have ended the command is done, with the status of the last
abbrev pub waiting : (children : List ℕ) → (job : Option (List ℕ)) → Active
waiting children job = Next (Waiting (record { children = children; job = job }))

-- one whose last process INT has ended brings an interactive shell back to its prompt, with 130 (2.11)
abbrev pub is_ended_by_interrupt : Option process.Status → Bool
is_ended_by_interrupt None = false
is_ended_by_interrupt (Some status.Running) = false
is_ended_by_interrupt (Some (status.Stopped signal)) = false
is_ended_by_interrupt (Some (status.Exited code)) = false
is_ended_by_interrupt (Some (status.Signaled signal)) = nat_eq signal (number_of Interrupt)

abbrev pub is_brought_back : KernelState → Shell → (children : List ℕ) → Bool
is_brought_back s shell children = is_interactive shell && is_ended_by_interrupt (status_at s.machine.processes (last_of children))

abbrev pub waited : KernelState → Shell → (children : List ℕ) → (status : ℕ) → Active
waited s shell children status = if is_brought_back s shell children then Leaving (leave.Fault status) else Done (unexcused status)

abbrev pub wait_by : KernelState → Shell → (children : List ℕ) → (job : Option (List ℕ)) → Option ℕ → Active
wait_by s shell children job None = waiting children job
wait_by s shell children job (Some status) = waited s shell children status

-- ---- with job control (2.11) the wait is over also where some are stopped and none runs; then the terminal is the shell's again
abbrev pub terminal_back : KernelState → (pid : ℕ) → KernelState
terminal_back s pid = after_set_foreground s (own_group s pid)

-- what is suspended becomes a job, which is told at once; its status is 128 and the number of the signal
abbrev pub told : Option (List ℕ) → (status : ℕ) → Active
told None status = Done (unexcused status)
told (Some line) status = Next (Writing (record { descriptor = 2; bytes = line }) (Status status))

abbrev pub job_line : KernelState → List Job → (number : ℕ) → Option (List ℕ)
job_line s jobs number = report_of s.machine.processes jobs number Short

abbrev pub suspended : KernelState → Shell → (children text : List ℕ) → (signal : ℕ) → Placed
suspended s shell children text signal =
    let left = after_suspension s shell text children (Suspended signal) in
    at_place s left (told (job_line s left.jobs (free_number shell.jobs)) (signal_status signal))

abbrev pub controlled_by : KernelState → Shell → (children text : List ℕ) → JobState → Placed
controlled_by s shell children text Running = at_place s shell (waiting children (Some text))
controlled_by s shell children text (Suspended signal) =
    let left = terminal_back s shell.pid in suspended left (up_to_date left shell) children text signal
controlled_by s shell children text (state.Done ending) =
    at_place (terminal_back s shell.pid) shell (wait_by s shell children (Some text) (wait_status s shell.pid children))

abbrev pub wait_with : KernelState → Shell → (children : List ℕ) → (job : Option (List ℕ)) → Placed
wait_with s shell children None = at_place s shell (wait_by s shell children None (wait_status s shell.pid children))
wait_with s shell children (Some text) = controlled_by s shell children text (state_of s.machine.processes children)

unfoldable pub wait_turn : KernelState → Shell → PipelineWait → Placed
wait_turn s shell wait = wait_with s shell wait.children wait.job

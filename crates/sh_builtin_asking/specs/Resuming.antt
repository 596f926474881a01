-- What a built-in does behind the kernel's answer to what it asked. An answer of another kind than what was asked says nothing: the same is asked
-- again.
use Rattle.std.specs.Prelude.{ℕ, ◌+◌, List, [], ◌∷◌, Bool, length, nat_eq, Option, Some, None, if◌then◌else◌}
use Rattle.std.specs.Option.{option_map_or}
use Rattle.sh_builtin_asking.specs.BuiltIns.{BuiltIn, control_of, kill_step, wait_step, with_outcome, with_vars}
use Rattle.sh_builtin_asking.specs.declared.answer.Answer.{Answer}
use Rattle.sh_builtin_asking.specs.declared.answer.Answer.TheVariants.{Bytes, Ended, Caught, Sent, Continued}
use Rattle.sh_builtin_jobs.specs.Continuing.{after_continuing}
use Rattle.sh_builtin_jobs.specs.KillRuns.{kill_next}
use Rattle.sh_builtin_jobs.specs.declared.continuing.ContinuedJob.{ContinuedJob}
use Rattle.sh_builtin_jobs.specs.declared.run.KillAsk.{KillAsk}
use Rattle.sh_builtin_wait.specs.declared.run.Awaited.{Awaited}
use Rattle.sh_builtin_wait.specs.declared.run.Awaited.TheVariants.{All, Operand}
use Rattle.sh_builtin_wait.specs.declared.run.OperandWait.{OperandWait}
use Rattle.sh_builtin_outcome.specs.Outcomes.{continuing, done, foreground, killing, reading, refusal, saying, waiting}
use Rattle.sh_builtin_wait.specs.declared.target.WaitTarget.{WaitTarget}
use Rattle.sh_builtin_wait.specs.declared.target.WaitTarget.TheVariants.{Process, Job as job_target}
use Rattle.sh_builtin_wait.specs.Waits.{next_wait}
use Rattle.sh_builtin_outcome.specs.declared.builtin.Builtin.TheVariants.{Read}
use Rattle.sh_builtin_outcome.specs.declared.outcome.Outcome.{Outcome}
use Rattle.sh_builtin_outcome.specs.declared.rest.BuiltinRest.{BuiltinRest}
use Rattle.sh_builtin_outcome.specs.declared.rest.BuiltinRest.TheVariants.{Reads, Waits, Kills, Continues}
use Rattle.sh_builtin_outcome.specs.declared.rest.Continuation.{Continuation}
use Rattle.sh_builtin_outcome.specs.declared.rest.Continuation.TheVariants.{Background, Foreground}
use Rattle.sh_builtin_outcome.specs.declared.rest.JobWait.{JobWait}
use Rattle.sh_builtin_environment.specs.declared.outcome.BuiltinFault.TheVariants as fault
use Rattle.sh_builtin_regular.specs.Assigning.{line_assigned}
use Rattle.sh_builtin_regular.specs.Lines.{Progress, bytes_taken}
use Rattle.sh_builtin_regular.specs.declared.reader.LineReader.{LineReader}
use Rattle.sh_builtin_shell.specs.Shells.{in_background, in_foreground, up_to_date, without_background, without_job, without_process}
use Rattle.sh_builtin_shell.specs.declared.shell.Shell.{Shell}
use Rattle.sh_jobs.specs.Table.{job_at}
use Rattle.sh_jobs.specs.declared.job.Job.{Job}
use Rattle.sh_kernel.specs.State.{KernelState}
use Rattle.sh_signal.specs.Signals.{number_of}
use Rattle.sh_signal.specs.declared.signal.Signal.{Signal}

-- ---- read (XCU read). The line is over: its variables have its fields; one that is read-only is refused, and ends no shell
abbrev pub fields_given : (status : ℕ) → (refused : Option (List ℕ)) → Outcome
fields_given status None = done status
fields_given status (Some name) = refusal Read (fault.ReadOnly name)

abbrev pub line_ended : Shell → LineReader → (status : ℕ) → BuiltIn
line_ended shell reader status =
    let a = line_assigned shell.vars reader in with_outcome (with_vars shell a.environment) (fields_given status a.refused)

abbrev pub line_by : Shell → Progress → BuiltIn
line_by shell p = if p.over then line_ended shell p.reader 0 else with_outcome shell (reading p.reader)

-- without a byte the status is 1: at the end of the file, as which a read that fails counts too
abbrev pub line_read : Shell → LineReader → List ℕ → BuiltIn
line_read shell reader bytes =
    if nat_eq (length bytes) 0 then line_ended shell reader 1 else line_by shell (bytes_taken reader bytes)

abbrev pub line_resumed : Shell → LineReader → Answer → BuiltIn
line_resumed shell reader (Bytes bytes) = line_read shell reader bytes
line_resumed shell reader (Ended status) = with_outcome shell (reading reader)
line_resumed shell reader (Caught signal) = with_outcome shell (reading reader)
line_resumed shell reader (Sent is_reached) = with_outcome shell (reading reader)
line_resumed shell reader Continued = with_outcome shell (reading reader)

-- ---- wait (XCU wait). What an operand names has ended: the shell doesn't know it any more, and the next operand is looked up. The messages come
-- last
abbrev pub without_target : Shell → WaitTarget → Shell
without_target shell (Process pid) = without_process shell pid
without_target shell (job_target number pids) = without_job shell number pids

abbrev pub next_operand : KernelState → Shell → OperandWait → (status : ℕ) → BuiltIn
next_operand s shell wait status = with_outcome shell (wait_step (next_wait s.machine.processes shell.jobs shell.known wait status))

abbrev pub operand_ended : KernelState → Shell → OperandWait → (status : ℕ) → BuiltIn
operand_ended s shell wait status = next_operand s (up_to_date s (without_target shell wait.target)) wait status

-- the processes of all asynchronous lists have ended: none of them is known then, and the status is 0
abbrev pub wait_ended : KernelState → Shell → Awaited → (status : ℕ) → BuiltIn
wait_ended s shell All status = with_outcome (without_background shell) (done 0)
wait_ended s shell (Operand wait) status = operand_ended s shell wait status

-- a signal that the shell has caught ends the waiting, with 128 and its number, behind what is to be said of operands so far; and the shell goes on
-- knowing the processes (2.12)
abbrev pub said_so_far : Awaited → List (List ℕ)
said_so_far All = []
said_so_far (Operand wait) = wait.messages

abbrev pub wait_caught : Awaited → Signal → Outcome
wait_caught awaited signal = saying [] (said_so_far awaited) (128 + number_of signal)

abbrev pub wait_resumed : KernelState → Shell → Awaited → Answer → BuiltIn
wait_resumed s shell awaited (Bytes bytes) = with_outcome shell (waiting awaited)
wait_resumed s shell awaited (Ended status) = wait_ended s shell awaited status
wait_resumed s shell awaited (Caught signal) = with_outcome shell (wait_caught awaited signal)
wait_resumed s shell awaited (Sent is_reached) = with_outcome shell (waiting awaited)
wait_resumed s shell awaited Continued = with_outcome shell (waiting awaited)

-- ---- kill (XCU kill). The next operand is looked up, or the messages are said
abbrev pub next_signal : KernelState → Shell → KillAsk → (is_reached : Bool) → BuiltIn
next_signal s shell ask is_reached =
    with_outcome shell (kill_step (kill_next (control_of s shell) s.machine.processes shell.jobs ask is_reached))

abbrev pub kill_resumed : KernelState → Shell → KillAsk → Answer → BuiltIn
kill_resumed s shell ask (Bytes bytes) = with_outcome shell (killing ask)
kill_resumed s shell ask (Ended status) = with_outcome shell (killing ask)
kill_resumed s shell ask (Caught signal) = with_outcome shell (killing ask)
kill_resumed s shell ask (Sent is_reached) = next_signal s (up_to_date s shell) ask is_reached
kill_resumed s shell ask Continued = with_outcome shell (killing ask)

-- ---- bg and fg (XCU bg, fg). A job goes on: that it runs is told by what was written
abbrev pub with_continued : Shell → ContinuedJob → Shell
with_continued shell job = record shell { jobs = after_continuing shell.jobs job }

abbrev pub processes_of : List Job → (number : ℕ) → List ℕ
processes_of jobs number = option_map_or (λ job. job.pids) (job_at jobs number) []

-- bg: the next of its jobs, and then its messages
abbrev pub background_left : (jobs : List ContinuedJob) → (messages : List (List ℕ)) → (status : ℕ) → Outcome
background_left [] messages status = saying [] messages status
background_left (job ∷ jobs) messages status = continuing [] (Background (job ∷ jobs) messages status)

abbrev pub background_continued : Shell → (jobs : List ContinuedJob) → (messages : List (List ℕ)) → (status : ℕ) → BuiltIn
background_continued shell [] messages status = with_outcome shell (background_left [] messages status)
background_continued shell (job ∷ jobs) messages status =
    with_outcome (in_background (with_continued shell job) (processes_of shell.jobs job.number)) (background_left jobs messages status)

-- fg: the shell waits for the processes of the job
abbrev pub job_wait : ContinuedJob → (processes : List ℕ) → JobWait
job_wait job processes = record { number = job.number; processes = processes }

abbrev pub foreground_continued : Shell → ContinuedJob → BuiltIn
foreground_continued shell job =
    let processes = processes_of shell.jobs job.number in
    with_outcome (in_foreground (with_continued shell job) processes) (foreground (job_wait job processes))

abbrev pub job_continued : Shell → Continuation → BuiltIn
job_continued shell (Background jobs messages status) = background_continued shell jobs messages status
job_continued shell (Foreground job) = foreground_continued shell job

abbrev pub continue_resumed : Shell → Continuation → Answer → BuiltIn
continue_resumed shell continuation (Bytes bytes) = with_outcome shell (continuing [] continuation)
continue_resumed shell continuation (Ended status) = with_outcome shell (continuing [] continuation)
continue_resumed shell continuation (Caught signal) = with_outcome shell (continuing [] continuation)
continue_resumed shell continuation (Sent is_reached) = with_outcome shell (continuing [] continuation)
continue_resumed shell continuation Continued = job_continued shell continuation

-- ---- what is left of a built-in, in a shell's process of this kernel
unfoldable pub resumed : KernelState → Shell → BuiltinRest → Answer → BuiltIn
resumed s shell (Reads reader) answer = line_resumed shell reader answer
resumed s shell (Waits awaited) answer = wait_resumed s shell awaited answer
resumed s shell (Kills ask) answer = kill_resumed s shell ask answer
resumed s shell (Continues continuation) answer = continue_resumed shell continuation answer

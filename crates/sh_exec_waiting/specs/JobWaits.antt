-- Waiting for a job that fg has brought to the foreground (XCU fg).
use Rattle.std.specs.Prelude.{ℕ, List, ◌++◌, Option, Some, None}
use Rattle.sh_builtin_outcome.specs.declared.rest.JobWait.{JobWait}
use Rattle.sh_builtin_shell.specs.Shells.{up_to_date, without_job}
use Rattle.sh_builtin_shell.specs.declared.shell.Shell.{Shell}
use Rattle.sh_exec_actions.specs.declared.action.Action.TheVariants.{WaitForJob}
use Rattle.sh_exec_actions.specs.declared.action.Active.TheVariants.{Next}
use Rattle.sh_exec_signals.specs.Placed.{Placed, at_place}
use Rattle.sh_exec_waiting.specs.Waiting.{job_line, terminal_back, told, waited}
use Rattle.sh_exec_machine.specs.Waits.{signal_status, wait_status}
use Rattle.sh_jobs.specs.States.{state_of}
use Rattle.sh_jobs.specs.Table.{after_telling}
use Rattle.sh_jobs.specs.declared.state.JobState.{JobState}
use Rattle.sh_jobs.specs.declared.state.JobState.TheVariants.{Running, Suspended}
use Rattle.sh_jobs.specs.declared.state.JobState.TheVariants as state
use Rattle.sh_kernel.specs.State.{KernelState}

-- the wait is over once all have ended: then the shell forgets the job. It is over also where some are stopped and none runs: then the
-- job is told to be suspended, its processes are known, and the status is 128 and the number of the signal (2.11). The terminal is the shell's
-- again
abbrev pub job_ended : KernelState → Shell → JobWait → Option ℕ → Placed
job_ended s shell wait None = at_place s shell (Next (WaitForJob wait))
job_ended s shell wait (Some status) = at_place s (without_job shell wait.number wait.processes) (waited s shell wait.processes status)

abbrev pub with_suspended : Shell → JobWait → (signal : ℕ) → Shell
with_suspended shell wait signal = record shell {
  known = shell.known ++ wait.processes;
  jobs = after_telling shell.jobs wait.number (Suspended signal);
}

abbrev pub told_suspended : KernelState → Shell → (number : ℕ) → (signal : ℕ) → Placed
told_suspended s shell number signal = at_place s shell (told (job_line s shell.jobs number) (signal_status signal))

abbrev pub job_suspended : KernelState → Shell → JobWait → (signal : ℕ) → Placed
job_suspended s shell wait signal = told_suspended s (with_suspended shell wait signal) wait.number signal

abbrev pub job_wait_by : KernelState → Shell → JobWait → JobState → Placed
job_wait_by s shell wait Running = at_place s shell (Next (WaitForJob wait))
job_wait_by s shell wait (Suspended signal) =
    let left = terminal_back s shell.pid in job_suspended left (up_to_date left shell) wait signal
job_wait_by s shell wait (state.Done ending) =
    let left = terminal_back s shell.pid in job_ended left shell wait (wait_status left shell.pid wait.processes)

unfoldable pub job_wait_turn : KernelState → Shell → JobWait → Placed
job_wait_turn s shell wait = job_wait_by s shell wait (state_of s.machine.processes wait.processes)

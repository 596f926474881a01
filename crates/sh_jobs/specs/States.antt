-- The state of a job, by the statuses of its processes (XBD chapter 3, Job, XCU jobs).
use Rattle.std.specs.Prelude.{ℕ, ◌-◌, List, [], ◌∷◌, length, Bool, Option, Some, None, slice_get, if◌then◌else◌}
use Rattle.std.specs.List.{list_any}
use Rattle.std.specs.Option.{option_or, unwrap_or}
use Rattle.sh_kernel_processes.specs.Processes.{status_at}
use Rattle.sh_kernel_processes.specs.Processes.{is_running}
use Rattle.sh_kernel_processes.specs.declared.process.Process.{Process}
use Rattle.sh_kernel_processes.specs.declared.process.Status.{Status}
use Rattle.sh_kernel_processes.specs.declared.process.Status.TheVariants.{Running, Stopped, Exited, Signaled}
use Rattle.sh_jobs.specs.declared.state.Ending.{Ending}
use Rattle.sh_jobs.specs.declared.state.Ending.TheVariants as ending
use Rattle.sh_jobs.specs.declared.state.JobState.{JobState}
use Rattle.sh_jobs.specs.declared.state.JobState.TheVariants as state

-- the status of a process of a job; a number that no process ever had counts as an exit with 0
abbrev pub status_of : List Process → ℕ → Status
status_of ps pid = unwrap_or (status_at ps pid) (Exited 0)

-- ---- one of the processes runs
abbrev pub any_runs : List Process → List ℕ → Bool
any_runs ps pids = list_any (λ pid. is_running (status_at ps pid)) pids

-- ---- the signal that stopped the last of the processes that is stopped
abbrev pub stop_of : Status → Option ℕ
stop_of Running = None
stop_of (Stopped signal) = Some signal
stop_of (Exited status) = None
stop_of (Signaled signal) = None

abbrev pub last_stop : List Process → List ℕ → Option ℕ
last_stop ps [] = None
last_stop ps (pid ∷ pids) = option_or (last_stop ps pids) (stop_of (status_of ps pid))

-- ---- how the last of the processes ended; it has ended where none runs and none is stopped
abbrev pub ending_of : Status → Ending
ending_of Running = ending.Exited 0
ending_of (Stopped signal) = ending.Exited 0
ending_of (Exited status) = ending.Exited status
ending_of (Signaled signal) = ending.Signaled signal

abbrev pub ending_by : List Process → Option ℕ → Ending
ending_by ps None = ending.Exited 0
ending_by ps (Some pid) = ending_of (status_of ps pid)

abbrev pub last_ending : List Process → List ℕ → Ending
last_ending ps pids = ending_by ps (slice_get pids (length pids - 1))

-- ---- the state
abbrev pub state_at_rest : Option ℕ → Ending → JobState
state_at_rest (Some signal) end = state.Suspended signal
state_at_rest None end = state.Done end

unfoldable pub state_of : List Process → List ℕ → JobState
state_of ps pids = if any_runs ps pids then state.Running else state_at_rest (last_stop ps pids) (last_ending ps pids)

-- What is to be told of the jobs: the states that have changed, and the jobs of which nothing more is to be told.
use Rattle.std.specs.Prelude.{ℕ, List, ◌==◌, ◌&&◌, Bool, true, false, not, Option, Some, None, map, filter, nat_lt, if◌then◌else◌}
use Rattle.sh_kernel_processes.specs.declared.process.Process.{Process}
use Rattle.sh_jobs.specs.Order.{best}
use Rattle.sh_jobs.specs.States.{state_of}
use Rattle.sh_jobs.specs.declared.job.Job.{Job}
use Rattle.sh_jobs.specs.declared.state.Ending.{Ending}
use Rattle.sh_jobs.specs.declared.state.Ending.TheVariants.{Exited, Signaled}
use Rattle.sh_jobs.specs.declared.state.JobState.{JobState}
use Rattle.sh_jobs.specs.declared.state.JobState.TheVariants.{Running, Suspended, Done}

-- ---- a state is the one that was told last
abbrev pub same_ending : Ending → Ending → Bool
same_ending (Exited a) (Exited b) = a == b
same_ending (Exited a) (Signaled b) = false
same_ending (Signaled a) (Exited b) = false
same_ending (Signaled a) (Signaled b) = a == b

abbrev pub same_state : JobState → JobState → Bool
same_state Running Running = true
same_state Running (Suspended b) = false
same_state Running (Done b) = false
same_state (Suspended a) Running = false
same_state (Suspended a) (Suspended b) = a == b
same_state (Suspended a) (Done b) = false
same_state (Done a) Running = false
same_state (Done a) (Suspended b) = false
same_state (Done a) (Done b) = same_ending a b

abbrev pub is_told : JobState → Option JobState → Bool
is_told now None = false
is_told now (Some told) = same_state now told

-- ---- the least number of a job whose state is not the one last told
abbrev pub has_changed : List Process → Job → Bool
has_changed ps job = not (is_told (state_of ps job.pids) job.told)

abbrev pub lesser : ℕ → Option ℕ → ℕ
lesser number None = number
lesser number (Some other) = if nat_lt other number then other else number

abbrev pub next_changed : List Process → List Job → Option ℕ
next_changed ps jobs = best lesser (map (λ job. job.number) (filter (has_changed ps) jobs))

-- ---- without the jobs that are done, and whose state has been told
abbrev pub is_done : JobState → Bool
is_done Running = false
is_done (Suspended signal) = false
is_done (Done ending) = true

abbrev pub is_over_in : JobState → Option JobState → Bool
is_over_in now told = is_done now && is_told now told

abbrev pub is_over : List Process → Job → Bool
is_over ps job = is_over_in (state_of ps job.pids) job.told

abbrev pub without_told : List Process → List Job → List Job
without_told ps jobs = filter (λ job. not (is_over ps job)) jobs

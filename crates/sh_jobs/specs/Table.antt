-- A table of jobs, in the order in which they were launched (XBD chapter 3, Job).
use Rattle.std.specs.Prelude.{◌≡◌, ℕ, zero, suc, ◌+◌, ◌<◌, ◌≤◌, List, [], ◌∷◌, ◌++◌, ◌==◌, Bool, true, false, not, Option, Some, length, map, filter, nat_le, if◌then◌else◌}
use Rattle.std.specs.List.{find, insert, list_any, position}
use Rattle.std.specs.Option.{unwrap_or}
use Rattle.sh_jobs.specs.declared.job.Job.{Job}
use Rattle.sh_jobs.specs.declared.state.JobState.{JobState}

abbrev pub has_number : ℕ → Job → Bool
has_number number job = job.number == number

-- the job of a number
abbrev pub job_at : List Job → ℕ → Option Job
job_at jobs number = find (has_number number) jobs

abbrev pub is_taken : List Job → ℕ → Bool
is_taken jobs number = list_any (has_number number) jobs

-- ---- the number of a new job: the least one from 1 on that no job has
pub record IsLeastFree (jobs : List Job) (number : ℕ) : Type 0 where
  pub from_one : 1 ≤ number
  pub free : is_taken jobs number ≡ false
  pub least : (k : ℕ) → 1 ≤ k → k < number → is_taken jobs k ≡ true

-- the first free one of so many numbers from this one on, or else the one after them
abbrev pub free_from : List Job → ℕ → ℕ → ℕ
free_from jobs zero number = number
free_from jobs (suc more) number = if is_taken jobs number then free_from jobs more (number + 1) else number

-- n jobs leave one of the first n + 1 numbers free; what launch gives is this number, and is proved to be the least that is free
abbrev pub free_number : List Job → ℕ
free_number jobs = free_from jobs (length jobs) 1

-- ---- a job is launched
abbrev pub new_job : ℕ → ℕ → List ℕ → List ℕ → Option JobState → ℕ → Job
new_job number group pids text told event =
    record { number = number; group = group; pids = pids; text = text; told = told; changed = event }

abbrev pub with_launch : List Job → ℕ → List ℕ → List ℕ → Option JobState → ℕ → List Job
with_launch jobs group pids text told event = jobs ++ new_job (free_number jobs) group pids text told event ∷ []

-- ---- a process starts, stops or goes on: its job has changed at this event
abbrev pub has_process : ℕ → Job → Bool
has_process pid job = list_any (λ own. own == pid) job.pids

abbrev pub job_after_note : ℕ → ℕ → Job → Job
job_after_note pid event job = if has_process pid job then record job { changed = event } else job

abbrev pub after_note : List Job → ℕ → ℕ → List Job
after_note jobs pid event = map (job_after_note pid event) jobs

-- ---- a job's state is told
abbrev pub job_after_telling : ℕ → JobState → Job → Job
job_after_telling number state job = if has_number number job then record job { told = Some state } else job

abbrev pub after_telling : List Job → ℕ → JobState → List Job
after_telling jobs number state = map (job_after_telling number state) jobs

-- ---- a job is forgotten
abbrev pub without : List Job → ℕ → List Job
without jobs number = filter (λ job. not (has_number number job)) jobs

-- ---- the numbers of all jobs, the least first: each is put before the first that isn't less
abbrev pub place_of : List ℕ → ℕ → ℕ
place_of numbers number = unwrap_or (position (λ other. nat_le number other) numbers) (length numbers)

abbrev pub with_number : List ℕ → ℕ → List ℕ
with_number numbers number = insert numbers (place_of numbers number) number

abbrev pub with_numbers : List ℕ → List Job → List ℕ
with_numbers numbers [] = numbers
with_numbers numbers (job ∷ jobs) = with_numbers (with_number numbers job.number) jobs

abbrev pub numbers_of : List Job → List ℕ
numbers_of jobs = with_numbers [] jobs

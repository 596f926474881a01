-- Laws of tables of jobs: which job is the current one and which has changed, and that no two jobs have one number.
use Rattle.std.specs.Prelude.{◌≡◌, ℕ, ◌≤◌, List, [], ◌∷◌, true, false, Option, Some, None, ◌⊎◌}
use Rattle.sh_kernel.specs.Changes.{Changes}
use Rattle.sh_kernel_processes.specs.declared.process.Process.{Process}
use Rattle.sh_jobs.specs.Moments.{brought_up}
use Rattle.sh_jobs.specs.News.{has_changed, next_changed, without_told}
use Rattle.sh_jobs.specs.Order.{current_of, is_ahead, previous_of, rank_of}
use Rattle.sh_jobs.specs.Table.{after_note, after_telling, is_taken, with_launch, without}
use Rattle.sh_jobs.specs.declared.job.Job.{Job}
use Rattle.sh_jobs.specs.declared.state.JobState.{JobState}

-- ---- the job of a number, which is ahead of all others
abbrev pub IsAmong : Job → List Job → Type 0
IsAmong job [] = ⊥
IsAmong job (other ∷ others) = (other ≡ job) ⊎ IsAmong job others

abbrev pub NoneAhead : List Process → Job → List Job → Type 0
NoneAhead ps job [] = Unit {0}
NoneAhead ps job (other ∷ others) = (is_ahead (rank_of ps other) (rank_of ps job) ≡ false) × NoneAhead ps job others

pub record IsFirst (ps : List Process) (jobs : List Job) (number : ℕ) : Type 0 where
  pub job : Job
  pub among : IsAmong job jobs
  pub numbered : job.number ≡ number
  pub ahead : NoneAhead ps job jobs

-- no job is ahead of the current one
abbrev pub CurrentIsFirst : Type 0
CurrentIsFirst = (ps : List Process) (jobs : List Job) (number : ℕ) → current_of ps jobs ≡ Some number → IsFirst ps jobs number

-- no job but the current one is ahead of the previous one
abbrev pub PreviousIsNext : Type 0
PreviousIsNext =
    (ps : List Process) (jobs : List Job) (current number : ℕ) → current_of ps jobs ≡ Some current → previous_of ps jobs ≡ Some number
    → IsFirst ps (without jobs current) number

-- ---- the next job that has changed: none of a lesser number has
abbrev pub NoneBefore : List Process → ℕ → List Job → Type 0
NoneBefore ps number [] = Unit {0}
NoneBefore ps number (job ∷ jobs) = (has_changed ps job ≡ true → number ≤ job.number) × NoneBefore ps number jobs

pub record IsNext (ps : List Process) (jobs : List Job) (number : ℕ) : Type 0 where
  pub job : Job
  pub among : IsAmong job jobs
  pub changed : has_changed ps job ≡ true
  pub numbered : job.number ≡ number
  pub least : NoneBefore ps number jobs

abbrev pub NextIsLeast : Type 0
NextIsLeast = (ps : List Process) (jobs : List Job) (number : ℕ) → next_changed ps jobs ≡ Some number → IsNext ps jobs number

abbrev pub NoneHasChanged : List Process → List Job → Type 0
NoneHasChanged ps [] = Unit {0}
NoneHasChanged ps (job ∷ jobs) = (has_changed ps job ≡ false) × NoneHasChanged ps jobs

abbrev pub NoneIsNext : Type 0
NoneIsNext = (ps : List Process) (jobs : List Job) → next_changed ps jobs ≡ None → NoneHasChanged ps jobs

-- ---- each number is from 1 on, and no two jobs have one
abbrev pub AreApart : List Job → Type 0
AreApart [] = Unit {0}
AreApart (job ∷ jobs) = (1 ≤ job.number) × (is_taken jobs job.number ≡ false) × AreApart jobs

abbrev pub LaunchesKeepApart : Type 0
LaunchesKeepApart =
    (jobs : List Job) (group : ℕ) (pids text : List ℕ) (state : Option JobState) (event : ℕ)
    → AreApart jobs → AreApart (with_launch jobs group pids text state event)

abbrev pub NotesKeepApart : Type 0
NotesKeepApart = (jobs : List Job) (pid event : ℕ) → AreApart jobs → AreApart (after_note jobs pid event)

abbrev pub TellingsKeepApart : Type 0
TellingsKeepApart = (jobs : List Job) (number : ℕ) (state : JobState) → AreApart jobs → AreApart (after_telling jobs number state)

abbrev pub RemovalsKeepApart : Type 0
RemovalsKeepApart = (jobs : List Job) (number : ℕ) → AreApart jobs → AreApart (without jobs number)

abbrev pub ClearingsKeepApart : Type 0
ClearingsKeepApart = (ps : List Process) (jobs : List Job) → AreApart jobs → AreApart (without_told ps jobs)

abbrev pub BringingUpKeepsApart : Type 0
BringingUpKeepsApart = (changes : Changes) (jobs : List Job) → AreApart jobs → AreApart (brought_up changes jobs)

-- ---- what is up to date stays so
abbrev pub BringingTwiceIsOnce : Type 0
BringingTwiceIsOnce = (changes : Changes) (jobs : List Job) → brought_up changes (brought_up changes jobs) ≡ brought_up changes jobs

-- The current job and the previous one (XBD chapter 3, Job ID).
use Rattle.std.specs.Prelude.{ℕ, List, [], ◌∷◌, ◌==◌, Bool, true, false, not, Option, Some, None, option_map, map, nat_lt, if◌then◌else◌}
use Rattle.sh_kernel_processes.specs.declared.process.Process.{Process}
use Rattle.sh_jobs.specs.States.{state_of}
use Rattle.sh_jobs.specs.Table.{has_number, without}
use Rattle.sh_jobs.specs.declared.job.Job.{Job}
use Rattle.sh_jobs.specs.declared.order.Rank.{Rank}
use Rattle.sh_jobs.specs.declared.state.JobState.{JobState}
use Rattle.sh_jobs.specs.declared.state.JobState.TheVariants.{Running, Suspended, Done}

-- ---- what is left of a list, where each one is compared with what is left of those after it
abbrev pub best : {X : Type 0} → (X → Option X → X) → List X → Option X
best pick [] = None
best pick (x ∷ xs) = Some (pick x (best pick xs))

-- ---- which of two jobs is ahead: a suspended one, then the one that changed later, then the one of the greater number
abbrev pub is_suspended : JobState → Bool
is_suspended Running = false
is_suspended (Suspended signal) = true
is_suspended (Done ending) = false

abbrev pub rank_of : List Process → Job → Rank
rank_of ps job = record { suspended = is_suspended (state_of ps job.pids); changed = job.changed; number = job.number }

abbrev pub is_later : Rank → Rank → Bool
is_later a b = if a.changed == b.changed then nat_lt b.number a.number else nat_lt b.changed a.changed

abbrev pub ahead_by : Bool → Bool → Bool → Bool
ahead_by true true later = later
ahead_by true false later = true
ahead_by false true later = false
ahead_by false false later = later

abbrev pub is_ahead : Rank → Rank → Bool
is_ahead a b = ahead_by a.suspended b.suspended (is_later a b)

abbrev pub first_of_two : Rank → Option Rank → Rank
first_of_two rank None = rank
first_of_two rank (Some other) = if is_ahead other rank then other else rank

-- ---- the current job is ahead of all others, the previous one of all but the current one
abbrev pub first_number : List Process → List Job → Option ℕ
first_number ps jobs = option_map (λ rank. rank.number) (best first_of_two (map (rank_of ps) jobs))

unfoldable pub current_of : List Process → List Job → Option ℕ
current_of ps jobs = first_number ps jobs

abbrev pub previous_by : List Process → List Job → Option ℕ → Option ℕ
previous_by ps jobs None = None
previous_by ps jobs (Some current) = first_number ps (without jobs current)

unfoldable pub previous_of : List Process → List Job → Option ℕ
previous_of ps jobs = previous_by ps jobs (current_of ps jobs)

-- whether a job is not the one that is left out, if one is
abbrev pub is_kept : Option ℕ → Job → Bool
is_kept None job = true
is_kept (Some number) job = not (has_number number job)

-- Numbers of jobs that stay apart.
use Rattle.std.proofs.Common.{◌≡◌, ℕ, ◌≤◌, List, [], ◌∷◌, ◌++◌, Bool, true, false, cond, Option, Some, map, refl, ap, ◌∙◌, arith}
use Rattle.std.specs.Prelude.{◌==◌, ◌||◌, filter}
use Rattle.std.proofs.lemmas.Bool.{or_from, or_parts}
use Rattle.std.proofs.lemmas.Bool.Decides.{nat_tests}
use Rattle.sh_jobs.specs.Laws.{AreApart}
use Rattle.sh_jobs.specs.Table.{free_number, has_number, has_process, is_taken, job_after_note, job_after_telling, new_job, with_launch}
use Rattle.sh_jobs.specs.declared.job.Job.{Job}
use Rattle.sh_jobs.specs.declared.state.JobState.{JobState}
use Rattle.sh_jobs.proofs.Numbers.{free_number_is_least}

other_way : (m n : ℕ) → (m == n) ≡ false → (n == m) ≡ false
other_way m n h = grind (arith, nat_tests)

-- ---- one more job
taken_pushed : (jobs : List Job) (job : Job) (n : ℕ) → is_taken jobs n ≡ false → has_number n job ≡ false → is_taken (jobs ++ job ∷ []) n ≡ false
taken_pushed [] job n h k = or_from (has_number n job) false k refl
taken_pushed (first ∷ jobs) job n h k =
    let parts = or_parts (has_number n first) (is_taken jobs n) h in
    or_from (has_number n first) (is_taken (jobs ++ job ∷ []) n) parts.0 (taken_pushed jobs job n parts.1 k)

pushed : (jobs : List Job) (job : Job) → AreApart jobs → 1 ≤ job.number → is_taken jobs job.number ≡ false → AreApart (jobs ++ job ∷ [])
pushed [] job apart from free = (from, refl, tt)
pushed (first ∷ jobs) job apart from free =
    let parts = or_parts (has_number job.number first) (is_taken jobs job.number) free in
    (apart.0, taken_pushed jobs job first.number apart.1 (other_way first.number job.number parts.0), pushed jobs job apart.2 from parts.1)

pub launched_apart : (jobs : List Job) (group : ℕ) (pids text : List ℕ) (state : Option JobState) (event : ℕ) → AreApart jobs
    → AreApart (with_launch jobs group pids text state event)
launched_apart jobs group pids text state event apart =
    let least = free_number_is_least jobs in
    pushed jobs (new_job (free_number jobs) group pids text state event) apart least.from_one least.free

-- ---- jobs that keep their numbers
pub taken_mapped : (change : Job → Job) → ((job : Job) → (change job).number ≡ job.number) → (jobs : List Job) (n : ℕ) → is_taken (map change jobs) n ≡ is_taken jobs n
taken_mapped change same [] n = refl
taken_mapped change same (job ∷ jobs) n =
    ap (λ m. (m == n) || is_taken (map change jobs) n) (same job) ∙ ap (λ b. (job.number == n) || b) (taken_mapped change same jobs n)

pub mapped : (change : Job → Job) → ((job : Job) → (change job).number ≡ job.number) → (jobs : List Job) → AreApart jobs → AreApart (map change jobs)
mapped change same [] apart = tt
mapped change same (job ∷ jobs) apart =
    let e = same job in
    (rw e apart.0, ap (λ n. is_taken (map change jobs) n) e ∙ taken_mapped change same jobs job.number ∙ apart.1, mapped change same jobs apart.2)

noted_number : (event : ℕ) (job : Job) (b : Bool) → (cond b (record job { changed = event }) job).number ≡ job.number
noted_number event job true = refl
noted_number event job false = refl

pub noted_keeps : (pid event : ℕ) (job : Job) → (job_after_note pid event job).number ≡ job.number
noted_keeps pid event job = noted_number event job (has_process pid job)

told_number : (state : JobState) (job : Job) (b : Bool) → (cond b (record job { told = Some state }) job).number ≡ job.number
told_number state job true = refl
told_number state job false = refl

pub told_keeps : (number : ℕ) (state : JobState) (job : Job) → (job_after_telling number state job).number ≡ job.number
told_keeps number state job = told_number state job (has_number number job)

-- ---- jobs that are left
left_by : (keep : Job → Bool) (job : Job) (jobs : List Job) (n : ℕ) (b : Bool) → keep job ≡ b → has_number n job ≡ false → is_taken (filter keep jobs) n ≡ false
    → is_taken (filter keep (job ∷ jobs)) n ≡ false
left_by keep job jobs n true e h k = rw e (or_from (has_number n job) (is_taken (filter keep jobs) n) h k)
left_by keep job jobs n false e h k = rw e k

taken_left : (keep : Job → Bool) (jobs : List Job) (n : ℕ) → is_taken jobs n ≡ false → is_taken (filter keep jobs) n ≡ false
taken_left keep [] n h = refl
taken_left keep (job ∷ jobs) n h =
    let parts = or_parts (has_number n job) (is_taken jobs n) h in
    left_by keep job jobs n (keep job) refl parts.0 (taken_left keep jobs n parts.1)

filtered_by : (keep : Job → Bool) (job : Job) (jobs : List Job) (b : Bool) → keep job ≡ b → AreApart (job ∷ jobs) → AreApart (filter keep jobs)
    → AreApart (filter keep (job ∷ jobs))
filtered_by keep job jobs true e apart rest = rw e (apart.0, taken_left keep jobs job.number apart.1, rest)
filtered_by keep job jobs false e apart rest = rw e rest

pub filtered : (keep : Job → Bool) (jobs : List Job) → AreApart jobs → AreApart (filter keep jobs)
filtered keep [] apart = tt
filtered keep (job ∷ jobs) apart = filtered_by keep job jobs (keep job) refl apart (filtered keep jobs apart.2)

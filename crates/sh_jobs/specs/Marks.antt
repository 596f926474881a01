-- What a table of jobs keeps of the numbers that are taken. No call shows it: it spares a launch a look at each job.
use Rattle.std.specs.Prelude.{◌≡◌, ℕ, ◌<◌, ◌≤◌, List, Bool, true, false, get_or, length}
use Rattle.sh_jobs.specs.Table.{is_taken}
use Rattle.sh_jobs.specs.declared.job.Job.{Job}

-- all numbers from 1 to some number are taken, and of each one after it that has a mark, the mark says whether it is
pub record AreMarked (jobs : List Job) (marks : List Bool) (filled : ℕ) : Type 0 where
  pub taken : (k : ℕ) → 1 ≤ k → k ≤ filled → is_taken jobs k ≡ true
  pub marked : (k : ℕ) → filled < k → k < length marks → get_or marks k false ≡ is_taken jobs k

use Rattle.std.proofs.Common.{List, [], ◌∷◌, ◌≡◌, refl, ap}
use Rattle.sh_kernel.specs.Changes.{Changes}
use Rattle.sh_jobs.specs.Moments.{brought_up, job_brought_up}
use Rattle.sh_jobs.specs.declared.job.Job.{Job}
use Rattle.sh_jobs.proofs.laws.bringing_up_twice_is_once.Goals as goal

twice : (changes : Changes) (jobs : List Job) → brought_up changes (brought_up changes jobs) ≡ brought_up changes jobs
twice changes [] = refl
twice changes (job ∷ jobs) = ap (λ rest. job_brought_up changes job ∷ rest) (twice changes jobs)

pub returns : goal.returns
returns c = twice

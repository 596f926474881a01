-- When a job last changed, by the kernel's clock: the latest moment at which one of its processes started, stopped or went on (XBD chapter
-- 3, Job ID).
use Rattle.std.specs.Prelude.{ℕ, List, [], ◌∷◌, map, max}
use Rattle.sh_kernel.specs.Changes.{Changes, changed_at}
use Rattle.sh_jobs.specs.declared.job.Job.{Job}

-- 0 without any process
abbrev pub latest : Changes → List ℕ → ℕ
latest changes [] = 0
latest changes (pid ∷ pids) = max (changed_at changes pid) (latest changes pids)

abbrev pub job_brought_up : Changes → Job → Job
job_brought_up changes job = record job { changed = latest changes job.pids }

abbrev pub brought_up : Changes → List Job → List Job
brought_up changes jobs = map (job_brought_up changes) jobs

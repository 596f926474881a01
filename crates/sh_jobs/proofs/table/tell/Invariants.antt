use Rattle.std.proofs.Common.{◌≡◌, ◌++◌, map, take, drop}
use Rattle.sh_jobs.specs.Table.{job_after_telling}
use Rattle.sh_jobs.proofs.table.tell.Given as goal

abbrev pub invariant-loop-job : goal.invariant-loop-job
invariant-loop-job l = l.jobs ≡ map (job_after_telling l.number l.state) (take l.job-index l.initial.jobs) ++ drop l.job-index l.initial.jobs

use Rattle.std.proofs.Common.{◌≡◌, ◌++◌, map, take, drop}
use Rattle.sh_jobs.specs.Table.{job_after_note}
use Rattle.sh_jobs.proofs.table.note.Given as goal

abbrev pub invariant-loop-job : goal.invariant-loop-job
invariant-loop-job l = l.jobs ≡ map (job_after_note l.pid l.event) (take l.job-index l.initial.jobs) ++ drop l.job-index l.initial.jobs

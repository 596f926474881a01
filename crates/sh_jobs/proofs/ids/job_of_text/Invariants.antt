use Rattle.std.proofs.Common.{◌≡◌, length}
use Rattle.sh_jobs.specs.Ids.{job_of_text}
use Rattle.sh_jobs.proofs.Fitting.{fitting_behind}
use Rattle.sh_jobs.proofs.ids.job_of_text.Given as goal

abbrev pub invariant-jobs : goal.invariant-jobs
invariant-jobs l = fitting_behind l.pattern l.found l.rest ≡ job_of_text l.jobs l.pattern

abbrev pub decreases-jobs : goal.decreases-jobs
decreases-jobs l = length l.rest

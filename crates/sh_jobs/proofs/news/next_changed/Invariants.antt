use Rattle.std.proofs.Common.{◌≡◌, length}
use Rattle.sh_kernel.specs.State.{KernelState, StandsAt}
use Rattle.sh_jobs.specs.News.{has_changed, lesser, next_changed}
use Rattle.sh_jobs.proofs.Best.{among}
use Rattle.sh_jobs.proofs.news.next_changed.Given as goal

abbrev pub invariant-jobs : goal.invariant-jobs
invariant-jobs l =
    (s : KernelState) → StandsAt l.kernel s
    → among lesser (λ job. job.number) (has_changed s.machine.processes) l.least l.rest ≡ next_changed s.machine.processes l.jobs

abbrev pub decreases-jobs : goal.decreases-jobs
decreases-jobs l = length l.rest

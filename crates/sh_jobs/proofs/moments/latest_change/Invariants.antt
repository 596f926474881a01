use Rattle.std.proofs.Common.{◌≡◌, length, max}
use Rattle.sh_kernel.specs.State.{KernelState, StandsAt}
use Rattle.sh_jobs.specs.Moments.{latest}
use Rattle.sh_jobs.proofs.moments.latest_change.Given as goal

abbrev pub invariant-processes : goal.invariant-processes
invariant-processes l = (s : KernelState) → StandsAt l.kernel s → max l.latest (latest s.changes l.rest) ≡ latest s.changes l.pids

abbrev pub decreases-processes : goal.decreases-processes
decreases-processes l = length l.rest

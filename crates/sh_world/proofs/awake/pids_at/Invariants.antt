use Rattle.std.proofs.Common.{◌≡◌, ◌++◌, length}
use Rattle.sh_kernel.specs.State.{KernelState, StandsAt}
use Rattle.sh_world.specs.Awake.{pids_at}
use Rattle.sh_world.proofs.awake.pids_at.Given as goal

abbrev pub invariant-places : goal.invariant-places
invariant-places g l = (s : KernelState) → StandsAt l.kernel s → l.pids.items ++ pids_at s l.tasks l.rest ≡ pids_at s l.tasks l.places

abbrev pub decreases-places : goal.decreases-places
decreases-places g l = length l.rest

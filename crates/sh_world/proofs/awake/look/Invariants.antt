use Rattle.std.proofs.Common.{◌≡◌, take}
use Rattle.sh_kernel.specs.State.{KernelState, StandsAt}
use Rattle.sh_world.proofs.Watching.{IsSeen}
use Rattle.sh_world.proofs.awake.look.Given as goal

abbrev pub invariant-tasks : goal.invariant-tasks
invariant-tasks g l = ((s : KernelState) → StandsAt l.fn.kernel s → StandsAt l.kernel s)
    × (l.kernel.terminal ≡ l.fn.kernel.terminal)
    × IsSeen l.kernel.watch (take l.place l.tasks) l.places.items l.last

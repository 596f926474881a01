use Rattle.std.proofs.Common.{◌≡◌, ◌++◌, length}
use Rattle.sh_kernel.specs.State.{KernelState, StandsAt}
use Rattle.sh_exec.specs.Processes.{runnable_pids}
use Rattle.sh_world.proofs.tasks.runnable_pids.Given as goal

abbrev pub invariant-tasks : goal.invariant-tasks
invariant-tasks g l = (s : KernelState) → StandsAt l.kernel s → l.pids.items ++ runnable_pids s l.rest ≡ runnable_pids s l.tasks

abbrev pub decreases-tasks : goal.decreases-tasks
decreases-tasks g l = length l.rest

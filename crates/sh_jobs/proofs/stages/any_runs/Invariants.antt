use Rattle.std.proofs.Common.{◌≡◌, length}
use Rattle.sh_kernel.specs.State.{KernelState, StandsAt}
use Rattle.sh_jobs.specs.States.{any_runs}
use Rattle.sh_jobs.proofs.stages.any_runs.Given as goal

abbrev pub invariant-processes : goal.invariant-processes
invariant-processes l = (s : KernelState) → StandsAt l.kernel s → any_runs s.machine.processes l.rest ≡ any_runs s.machine.processes l.pids

abbrev pub decreases-processes : goal.decreases-processes
decreases-processes l = length l.rest

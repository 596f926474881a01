use Rattle.std.proofs.Common.{◌≡◌, length}
use Rattle.std.specs.Option.{option_or}
use Rattle.sh_kernel.specs.State.{KernelState, StandsAt}
use Rattle.sh_jobs.specs.States.{last_stop}
use Rattle.sh_jobs.proofs.stages.last_stop.Given as goal

abbrev pub invariant-processes : goal.invariant-processes
invariant-processes l =
    (s : KernelState) → StandsAt l.kernel s → option_or (last_stop s.machine.processes l.rest) l.stop ≡ last_stop s.machine.processes l.pids

abbrev pub decreases-processes : goal.decreases-processes
decreases-processes l = length l.rest

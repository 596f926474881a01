use Rattle.std.proofs.Common.{length}
use Rattle.sh_kernel_descriptors.specs.Machine.{MachineState}
use Rattle.sh_kernel_machine.specs.Machine.{StandsAt}
use Rattle.sh_kernel_machine.proofs.Ending.{Left}
use Rattle.sh_kernel_machine.proofs.machine.Machine.close_all_ended.Given as goal

abbrev pub invariant-pids : goal.invariant-pids
invariant-pids l = (s : MachineState) → StandsAt l.initial.self s → Left l.rest l.pids l.self s

abbrev pub decreases-pids : goal.decreases-pids
decreases-pids l = length l.rest

use Rattle.std.proofs.Common.{◌≡◌, length}
use Rattle.sh_kernel_processes.specs.Sending.{after_hang_ups}
use Rattle.sh_kernel_processes.proofs.sending.hang_up_each.Given as goal

abbrev pub invariant-groups : goal.invariant-groups
invariant-groups l =
    after_hang_ups (record { processes = l.processes.all; members = l.members.items }) l.pids l.at_risk l.at_most
    ≡ after_hang_ups (record { processes = l.fn.processes.all; members = l.fn.members.items }) l.pids l.at_risk l.at_risk

abbrev pub decreases-groups : goal.decreases-groups
decreases-groups l = length l.at_most

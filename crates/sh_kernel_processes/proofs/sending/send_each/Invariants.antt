use Rattle.std.proofs.Common.{◌≡◌, length}
use Rattle.sh_kernel_processes.specs.Sending.{after_signal_to_each}
use Rattle.sh_kernel_processes.proofs.sending.send_each.Given as goal

abbrev pub invariant-pids : goal.invariant-pids
invariant-pids l =
    after_signal_to_each (record { processes = l.processes.all; members = l.members.items }) l.to l.signal l.rest
    ≡ after_signal_to_each (record { processes = l.fn.processes.all; members = l.fn.members.items }) l.to l.signal l.pids

abbrev pub decreases-pids : goal.decreases-pids
decreases-pids l = length l.rest

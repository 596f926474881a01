use Rattle.std.proofs.Common.{◌≡◌, length}
use Rattle.std.specs.Prelude.{find}
use Rattle.sh_kernel_processes.specs.Sending.{is_abandoned}
use Rattle.sh_kernel_processes.proofs.sending.first_abandoned.Given as goal

abbrev pub invariant-groups : goal.invariant-groups
invariant-groups l =
    find (is_abandoned (record { processes = l.processes; members = l.members })) l.rest
    ≡ find (is_abandoned (record { processes = l.processes; members = l.members })) l.groups

abbrev pub decreases-groups : goal.decreases-groups
decreases-groups l = length l.rest

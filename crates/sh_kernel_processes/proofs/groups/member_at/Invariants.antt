use Rattle.std.proofs.Common.{◌≡◌, length}
use Rattle.sh_kernel_processes.specs.Groups.{member_at}
use Rattle.sh_kernel_processes.proofs.groups.member_at.Given as goal

abbrev pub invariant-members : goal.invariant-members
invariant-members l = member_at l.rest l.pid ≡ member_at l.members l.pid

abbrev pub decreases-members : goal.decreases-members
decreases-members l = length l.rest

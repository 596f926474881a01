use Rattle.sh_kernel.proofs.Owning.{owned_stays}
use Rattle.sh_kernel.proofs.Reached.{lists_leave_owned}
use Rattle.sh_kernel.proofs.laws.owned_stays_owned.Goals as goal

pub returns : goal.returns
returns c = record { one = owned_stays; list = lists_leave_owned }

use Rattle.sh_kernel.proofs.Frames.{requests_change}
use Rattle.sh_kernel.proofs.Reached.{lists_change}
use Rattle.sh_kernel.proofs.laws.requests_change_what_is_reached.Goals as goal

pub returns : goal.returns
returns c = record { one = requests_change; list = lists_change }

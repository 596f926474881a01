use Rattle.sh_kernel.proofs.Reached.{lists_reach_no_more, reach_no_more}
use Rattle.sh_kernel.proofs.laws.requests_reach_no_more.Goals as goal

pub returns : goal.returns
returns c = record { one = reach_no_more; list = lists_reach_no_more }

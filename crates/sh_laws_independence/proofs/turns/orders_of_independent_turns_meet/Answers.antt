use Rattle.sh_laws_independence.proofs.Meeting.{orders_meet}
use Rattle.sh_laws_independence.proofs.turns.orders_of_independent_turns_meet.Goals as goal

pub returns : goal.returns
returns g c = orders_meet _

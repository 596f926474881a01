use Rattle.sh_laws_independence.proofs.Meeting.{can_there, stays_there}
use Rattle.sh_laws_independence.proofs.turns.independent_turns_stay_possible.Goals as goal

pub returns-clause-task : goal.returns-clause-task
returns-clause-task g c = stays_there _

pub returns-clause-runnable : goal.returns-clause-runnable
returns-clause-runnable g c = can_there _

use Rattle.sh_laws_independence.proofs.Asked.{can_still, machines_commute, tasks_stay}
use Rattle.sh_laws_independence.proofs.turns.independent_turns_commute.Goals as goal

pub returns-clause-machine : goal.returns-clause-machine
returns-clause-machine g c = machines_commute _

pub returns-clause-task : goal.returns-clause-task
returns-clause-task g c = tasks_stay _

pub returns-clause-runnable : goal.returns-clause-runnable
returns-clause-runnable g c = λ s p q ask ask' program program' i. can_still _ s p q ask ask' program' i

use Rattle.sh_jobs.proofs.Changed.{next_is, none_is_next}
use Rattle.sh_jobs.proofs.laws.next_changed_is_the_least.Goals as goal

pub returns-clause-some : goal.returns-clause-some
returns-clause-some c = next_is

pub returns-clause-none : goal.returns-clause-none
returns-clause-none c = none_is_next

use Rattle.sh_schedules_outcomes.specs.Shell.{outcome_of, shell}
use Rattle.sh_schedules.proofs.Ordering.{one_order}
use Rattle.sh_schedules.proofs.laws.ordered_explorations_are_the_same.Goals as goal

pub returns : goal.returns
returns g c = λ k n s found new ones others tried more one two moved shifted sorted ordered.
    one_order (shell g.S.Stock.meaning) outcome_of k n s found new ones others tried more one two moved shifted sorted ordered

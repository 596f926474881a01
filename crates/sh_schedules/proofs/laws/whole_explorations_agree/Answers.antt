use Rattle.sh_schedules_outcomes.specs.Shell.{outcome_of, shell}
use Rattle.sh_schedules.proofs.Agreeing.{same_found, same_outcomes}
use Rattle.sh_schedules.proofs.laws.whole_explorations_agree.Goals as goal

pub returns-clause-outcomes : goal.returns-clause-outcomes
returns-clause-outcomes g c = λ k n s found new tried more seen one two there.
    same_outcomes (shell g.S.Stock.meaning) outcome_of k n s found new tried more seen one two there

pub returns-clause-each : goal.returns-clause-each
returns-clause-each g c = λ k n s found new tried more f other one two here there same.
    same_found (shell g.S.Stock.meaning) outcome_of k n s found new tried more f other one two here there same

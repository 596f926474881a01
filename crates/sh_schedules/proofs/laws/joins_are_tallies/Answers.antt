use Rattle.sh_schedules_outcomes.specs.Shell.{outcome_of, shell}
use Rattle.sh_schedules.proofs.Joining.{tally_both}
use Rattle.sh_schedules.proofs.laws.joins_are_tallies.Goals as goal

pub returns : goal.returns
returns g c = λ k n s done others found ones new one two few h. tally_both (shell g.S.Stock.meaning) outcome_of k n s done others found ones new one two few h

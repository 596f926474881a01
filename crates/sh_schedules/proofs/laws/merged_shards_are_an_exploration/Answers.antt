use Rattle.sh_schedules_outcomes.specs.Shell.{outcome_of, shell}
use Rattle.sh_schedules.proofs.Merging.{merged}
use Rattle.sh_schedules.proofs.laws.merged_shards_are_an_exploration.Goals as goal

pub returns : goal.returns
returns g c = λ k n last s found tried order new each all few h. merged (shell g.S.Stock.meaning) outcome_of k n last s found tried order new each all few h

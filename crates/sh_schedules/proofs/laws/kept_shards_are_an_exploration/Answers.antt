use Rattle.sh_schedules_outcomes.specs.Shell.{outcome_of, shell}
use Rattle.sh_schedules.proofs.Keeping.{kept_merged}
use Rattle.sh_schedules.proofs.laws.kept_shards_are_an_exploration.Goals as goal

pub returns : goal.returns
returns g c = λ k n last s found tried order kept new small each all few is h. kept_merged (shell g.S.Stock.meaning) outcome_of k n last s found tried order kept new small each all few is h

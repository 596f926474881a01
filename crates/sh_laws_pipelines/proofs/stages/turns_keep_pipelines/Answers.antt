use Rattle.sh_laws_pipelines.proofs.AllStages.{goes_on}
use Rattle.sh_laws_pipelines.proofs.stages.turns_keep_pipelines.Goals as goal

pub returns : goal.returns
returns g c = goes_on g.S.Stock.meaning g.met.S.Stock.laws

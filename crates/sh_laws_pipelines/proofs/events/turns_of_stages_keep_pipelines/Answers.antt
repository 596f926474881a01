use Rattle.sh_laws_pipelines.proofs.States.{goes_on_at}
use Rattle.sh_laws_pipelines.proofs.events.turns_of_stages_keep_pipelines.Goals as goal

pub returns : goal.returns
returns g c = goes_on_at g.S.Stock.meaning g.met.S.Stock.laws

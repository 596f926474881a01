use Rattle.sh_laws_pipelines.proofs.StagesBeside.{stands_after_key}
use Rattle.sh_laws_pipelines.proofs.AllStages.{beside}
use Rattle.sh_laws_pipelines.proofs.stages.others_keep_pipelines.Goals as goal

pub returns-clause-requests : goal.returns-clause-requests
returns-clause-requests g c = beside g.S.Stock.meaning

pub returns-clause-keys : goal.returns-clause-keys
returns-clause-keys g c = stands_after_key g.S.Stock.meaning

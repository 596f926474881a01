use Rattle.sh_laws_pipelines.proofs.Ending.{ends_at, last_holds}
use Rattle.sh_laws_pipelines.proofs.AllStages.{ends_step}
use Rattle.sh_laws_pipelines.proofs.stages.ends_keep_pipelines.Goals as goal

pub returns-clause-stands : goal.returns-clause-stands
returns-clause-stands g c = ends_at g.S.Stock.meaning

pub returns-clause-steps : goal.returns-clause-steps
returns-clause-steps g c = ends_step g.S.Stock.meaning

pub returns-clause-file : goal.returns-clause-file
returns-clause-file g c = last_holds g.S.Stock.meaning

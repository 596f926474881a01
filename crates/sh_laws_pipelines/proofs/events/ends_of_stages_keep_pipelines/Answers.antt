use Rattle.sh_laws_pipelines.proofs.States.{ends_on_at, last_holds_at}
use Rattle.sh_laws_pipelines.proofs.events.ends_of_stages_keep_pipelines.Goals as goal

pub returns-clause-stands : goal.returns-clause-stands
returns-clause-stands g c = ends_on_at g.S.Stock.meaning

pub returns-clause-file : goal.returns-clause-file
returns-clause-file g c = last_holds_at g.S.Stock.meaning

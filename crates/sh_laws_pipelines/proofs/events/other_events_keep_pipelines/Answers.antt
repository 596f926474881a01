use Rattle.sh_laws_pipelines.proofs.States.{beside_at, key_at}
use Rattle.sh_laws_pipelines.proofs.events.other_events_keep_pipelines.Goals as goal

pub returns-clause-turns : goal.returns-clause-turns
returns-clause-turns g c = beside_at g.S.Stock.meaning

pub returns-clause-keys : goal.returns-clause-keys
returns-clause-keys g c = key_at g.S.Stock.meaning

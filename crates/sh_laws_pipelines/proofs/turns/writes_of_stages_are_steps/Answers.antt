use Rattle.sh_laws_pipelines.proofs.Turning.{writes_file, writes_pipe}
use Rattle.sh_laws_pipelines.proofs.turns.writes_of_stages_are_steps.Goals as goal

pub returns-clause-to_pipes : goal.returns-clause-to_pipes
returns-clause-to_pipes g c = writes_pipe g.S.Stock.meaning g.met.S.Stock.laws

pub returns-clause-to_files : goal.returns-clause-to_files
returns-clause-to_files g c = writes_file g.S.Stock.meaning g.met.S.Stock.laws

use Rattle.sh_laws_pipelines.proofs.Turning.{reads_file, reads_pipe}
use Rattle.sh_laws_pipelines.proofs.turns.reads_of_stages_are_steps.Goals as goal

pub returns-clause-from_pipes : goal.returns-clause-from_pipes
returns-clause-from_pipes g c = reads_pipe g.S.Stock.meaning g.met.S.Stock.laws

pub returns-clause-from_files : goal.returns-clause-from_files
returns-clause-from_files g c = reads_file g.S.Stock.meaning g.met.S.Stock.laws

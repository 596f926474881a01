use Rattle.sh_laws_pipelines.proofs.Beginnings.{file_begins, file_is_whole}
use Rattle.sh_laws_pipelines.proofs.files.files_hold_the_output.Goals as goal

pub returns-clause-beginning : goal.returns-clause-beginning
returns-clause-beginning g c = file_begins g.S.Stock.meaning g.S.Filter.filtering g.met.S.Filter.filter_laws

pub returns-clause-whole : goal.returns-clause-whole
returns-clause-whole g c = file_is_whole g.S.Stock.meaning g.S.Filter.filtering g.met.S.Filter.filter_laws

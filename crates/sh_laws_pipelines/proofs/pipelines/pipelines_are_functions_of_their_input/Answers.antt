use Rattle.sh_laws_pipelines.proofs.Functions.{begins, has_status, is_whole}
use Rattle.sh_laws_pipelines.proofs.pipelines.pipelines_are_functions_of_their_input.Goals as goal

pub returns-clause-beginning : goal.returns-clause-beginning
returns-clause-beginning g c = begins g.S.Stock.meaning g.S.Filter.filtering g.met.S.Filter.filter_laws

pub returns-clause-whole : goal.returns-clause-whole
returns-clause-whole g c = is_whole g.S.Stock.meaning g.S.Filter.filtering g.met.S.Filter.filter_laws

pub returns-clause-status : goal.returns-clause-status
returns-clause-status g c = has_status g.S.Stock.meaning g.S.Filter.filtering g.met.S.Filter.filter_laws

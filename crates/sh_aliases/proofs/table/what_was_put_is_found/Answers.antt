use Rattle.sh_aliases.proofs.Tables.{as_before, found}
use Rattle.sh_aliases.proofs.table.what_was_put_is_found.Goals as goal

pub returns-clause-found : goal.returns-clause-found
returns-clause-found c = found

pub returns-clause-others : goal.returns-clause-others
returns-clause-others c = as_before

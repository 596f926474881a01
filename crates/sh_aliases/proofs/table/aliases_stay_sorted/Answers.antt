use Rattle.sh_aliases.proofs.Tables.{sorted_left, sorted_put}
use Rattle.sh_aliases.proofs.table.aliases_stay_sorted.Goals as goal

pub returns-clause-put : goal.returns-clause-put
returns-clause-put c = sorted_put

pub returns-clause-removed : goal.returns-clause-removed
returns-clause-removed c = sorted_left

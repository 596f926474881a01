use Rattle.sh_aliases.proofs.Tables.{gone, still_there}
use Rattle.sh_aliases.proofs.table.what_was_removed_is_gone.Goals as goal

pub returns-clause-gone : goal.returns-clause-gone
returns-clause-gone c = gone

pub returns-clause-others : goal.returns-clause-others
returns-clause-others c = still_there

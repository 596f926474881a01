use Rattle.sh_vars.proofs.Places.{no_entries}
use Rattle.sh_vars.proofs.table.Table.new.Goals as goal

pub returns : goal.returns
returns c = no_entries _ c.new.ensures.items

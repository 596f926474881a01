use Rattle.sh_laws.proofs.Changing.{turns_change}
use Rattle.sh_laws.proofs.turns.turns_change_what_is_reached.Goals as goal

pub returns : goal.returns
returns c d = turns_change _

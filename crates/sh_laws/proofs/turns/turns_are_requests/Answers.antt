use Rattle.sh_laws.proofs.Lists.{turns}
use Rattle.sh_laws.proofs.turns.turns_are_requests.Goals as goal

pub returns : goal.returns
returns c d = turns _

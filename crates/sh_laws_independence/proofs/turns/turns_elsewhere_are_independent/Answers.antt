use Rattle.sh_laws_independence.proofs.TurnsElsewhere.{turns_elsewhere}
use Rattle.sh_laws_independence.proofs.turns.turns_elsewhere_are_independent.Goals as goal

pub returns : goal.returns
returns c = turns_elsewhere

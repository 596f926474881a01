use Rattle.sh_laws.proofs.Processes.{turn_number}
use Rattle.sh_laws.proofs.turns.turns_keep_numbers.Goals as goal

pub returns : goal.returns
returns c d = turn_number _

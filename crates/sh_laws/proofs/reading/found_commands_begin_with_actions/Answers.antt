use Rattle.sh_laws.proofs.CommandTurns.{next_holds}
use Rattle.sh_laws.proofs.reading.found_commands_begin_with_actions.Goals as goal

pub returns : goal.returns
returns c = next_holds

use Rattle.sh_parse_commands.proofs.Ending.{rewriting_ends}
use Rattle.sh_parse_commands.proofs.laws.rewriting_ends.Goals as goal

pub returns : goal.returns
returns c = rewriting_ends

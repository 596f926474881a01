use Rattle.sh_parse_commands.proofs.Rewriting.{reading_rewrites}
use Rattle.sh_parse_commands.proofs.laws.aliases_are_rewritings.Goals as goal

pub returns : goal.returns
returns c = reading_rewrites

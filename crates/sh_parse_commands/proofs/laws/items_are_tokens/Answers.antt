use Rattle.sh_parse_commands.proofs.Texts.{tokens_of}
use Rattle.sh_parse_commands.proofs.laws.items_are_tokens.Goals as goal

pub returns : goal.returns
returns c = tokens_of

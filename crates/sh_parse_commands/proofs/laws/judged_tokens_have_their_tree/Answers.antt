use Rattle.sh_parse_commands.proofs.Texts.{judged_tree}
use Rattle.sh_parse_commands.proofs.laws.judged_tokens_have_their_tree.Goals as goal

pub returns : goal.returns
returns c = judged_tree

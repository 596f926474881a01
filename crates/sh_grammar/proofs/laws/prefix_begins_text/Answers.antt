use Rattle.sh_grammar.proofs.Computing.{prefix_text}
use Rattle.sh_grammar.proofs.laws.prefix_begins_text.Goals as goal

pub returns : goal.returns
returns c = prefix_text

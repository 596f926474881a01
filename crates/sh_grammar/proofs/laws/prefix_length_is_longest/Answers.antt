use Rattle.sh_grammar.proofs.Computing.{length_text}
use Rattle.sh_grammar.proofs.laws.prefix_length_is_longest.Goals as goal

pub returns : goal.returns
returns c = length_text

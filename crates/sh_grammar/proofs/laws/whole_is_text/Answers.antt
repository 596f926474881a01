use Rattle.sh_grammar.proofs.Computing.{whole_text}
use Rattle.sh_grammar.proofs.laws.whole_is_text.Goals as goal

pub returns : goal.returns
returns c = whole_text

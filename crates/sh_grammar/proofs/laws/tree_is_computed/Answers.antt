use Rattle.sh_grammar.proofs.Deriving.{tree_computed}
use Rattle.sh_grammar.proofs.laws.tree_is_computed.Goals as goal

pub returns : goal.returns
returns c = tree_computed

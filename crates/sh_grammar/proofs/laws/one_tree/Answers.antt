use Rattle.sh_grammar.proofs.Computing.{tree_once_only}
use Rattle.sh_grammar.proofs.laws.one_tree.Goals as goal

pub returns : goal.returns
returns c = tree_once_only

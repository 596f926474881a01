use Rattle.sh_arith.proofs.Answering.{says_one}
use Rattle.sh_arith.proofs.says_one_expression.Goals as goal

pub returns : goal.returns
returns c = says_one c.one_tree.ensures

use Rattle.sh_arith_grammar.proofs.Nested.{nested}
use Rattle.sh_arith_grammar.proofs.laws.levels_are_nested.Goals as goal

pub returns : goal.returns
returns c = nested

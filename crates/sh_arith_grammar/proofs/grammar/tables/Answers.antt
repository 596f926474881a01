use Rattle.std.proofs.Common.{subst, sym}
use Rattle.sh_grammar.specs.Passes.{IsPredictive}
use Rattle.sh_arith_grammar.proofs.Passes.{arithmetic_predictive}
use Rattle.sh_arith_grammar.proofs.Tied.{arithmetic_is, tabled}
use Rattle.sh_arith_grammar.proofs.grammar.tables.Goals as goal

pub returns-clause-grammar : goal.returns-clause-grammar
unfolding tabled
returns-clause-grammar c = arithmetic_is

pub returns-clause-passes : goal.returns-clause-passes
unfolding tabled
returns-clause-passes c = subst IsPredictive (sym arithmetic_is) arithmetic_predictive

use Rattle.std.proofs.Common.{refl}
use Rattle.sh_token_grammar.specs.Shell.{substitution}
use Rattle.sh_token_grammar.proofs.Passing.{substitution_predictive}
use Rattle.sh_token_grammar.proofs.grammar.substituted.Goals as goal

pub returns-clause-grammar : goal.returns-clause-grammar
unfolding substitution
returns-clause-grammar c = refl

pub returns-clause-predictive : goal.returns-clause-predictive
unfolding substitution
returns-clause-predictive c = substitution_predictive

use Rattle.std.proofs.Common.{refl}
use Rattle.sh_token_grammar.specs.Shell.{complete}
use Rattle.sh_token_grammar.proofs.Passing.{complete_predictive}
use Rattle.sh_token_grammar.proofs.grammar.complete_command.Goals as goal

pub returns-clause-grammar : goal.returns-clause-grammar
unfolding complete
returns-clause-grammar c = refl

pub returns-clause-predictive : goal.returns-clause-predictive
unfolding complete
returns-clause-predictive c = complete_predictive

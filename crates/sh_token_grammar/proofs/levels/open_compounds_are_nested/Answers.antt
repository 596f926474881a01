use Rattle.sh_token_grammar.proofs.Marking.{complete_nested, substitution_nested}
use Rattle.sh_token_grammar.proofs.levels.open_compounds_are_nested.Goals as goal

pub returns-clause-command : goal.returns-clause-command
returns-clause-command c = complete_nested

pub returns-clause-substitution : goal.returns-clause-substitution
returns-clause-substitution c = substitution_nested

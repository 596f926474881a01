use Rattle.sh_parse_words.proofs.Fitted.{command_syntax, substitution_syntax}
use Rattle.sh_parse_words.proofs.laws.fitting_leaves_have_syntax.Goals as goal

pub returns-clause-command : goal.returns-clause-command
returns-clause-command c = command_syntax

pub returns-clause-substitution : goal.returns-clause-substitution
returns-clause-substitution c = substitution_syntax

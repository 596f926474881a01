use Rattle.sh_parse_words.proofs.Derived.{made_command, made_substitution}
use Rattle.sh_parse_words.proofs.syntax.syntax_tree.Goals as goal

pub returns-clause-command : goal.returns-clause-command
returns-clause-command c = made_command _ _ _ c.in_ok-found.ensures

pub returns-clause-substitution : goal.returns-clause-substitution
returns-clause-substitution c = made_substitution _ _ _ c.in_ok-found.ensures

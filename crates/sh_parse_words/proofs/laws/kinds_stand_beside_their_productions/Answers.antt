use Rattle.std.proofs.Common.{refl}
use Rattle.sh_token_grammar.specs.Shell.{complete, substitution}
use Rattle.sh_parse_words.specs.Productions.{productions}
use Rattle.sh_parse_words.proofs.laws.kinds_stand_beside_their_productions.Goals as goal

pub returns-clause-command : goal.returns-clause-command
unfolding complete productions
returns-clause-command c = refl

pub returns-clause-substitution : goal.returns-clause-substitution
unfolding substitution productions
returns-clause-substitution c = refl

use Rattle.std.proofs.Common.{refl}
use Rattle.sh_parse_words.specs.Productions.{productions}
use Rattle.sh_parse_words.proofs.productions.kind_table.Goals as goal

pub returns : goal.returns
unfolding productions
returns c = refl

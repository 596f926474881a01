use Rattle.sh_parse.proofs.Decisions.{reading_defined}
use Rattle.sh_parse.proofs.laws.reading_is_the_defined_one.Goals as goal

pub returns : goal.returns
returns c = reading_defined

use Rattle.sh_parse.proofs.Insides.{inside_of}
use Rattle.sh_parse.proofs.laws.items_are_inside.Goals as goal

pub returns : goal.returns
returns c = inside_of

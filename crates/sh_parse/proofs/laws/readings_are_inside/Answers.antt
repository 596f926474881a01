use Rattle.sh_parse.proofs.Readings.{reading_inside}
use Rattle.sh_parse.proofs.laws.readings_are_inside.Goals as goal

pub returns : goal.returns
returns c = reading_inside

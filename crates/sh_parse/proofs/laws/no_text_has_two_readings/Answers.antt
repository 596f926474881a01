use Rattle.sh_parse.proofs.Readings.{one_reading}
use Rattle.sh_parse.proofs.laws.no_text_has_two_readings.Goals as goal

pub returns : goal.returns
returns c = one_reading

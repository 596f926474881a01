use Rattle.sh_laws.proofs.Spelled.{given}
use Rattle.sh_laws.proofs.reading.spelled_parts_are_given.Goals as goal

pub returns : goal.returns
returns c = given

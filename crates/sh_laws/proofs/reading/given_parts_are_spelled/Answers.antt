use Rattle.sh_laws.proofs.Given.{spelled_parts}
use Rattle.sh_laws.proofs.reading.given_parts_are_spelled.Goals as goal

pub returns : goal.returns
returns c = spelled_parts

use Rattle.sh_parse_documents.proofs.Defined.{bodies_defined}
use Rattle.sh_parse_documents.proofs.bodies.bodies_are_the_defined_ones.Goals as goal

pub returns : goal.returns
returns c = bodies_defined

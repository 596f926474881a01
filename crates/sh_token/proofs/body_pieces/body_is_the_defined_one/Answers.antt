use Rattle.sh_token.proofs.BodyLaws.{body_law}
use Rattle.sh_token.proofs.body_pieces.body_is_the_defined_one.Goals as goal

pub returns : goal.returns
returns c = λ levels bytes answer. body_law levels bytes answer

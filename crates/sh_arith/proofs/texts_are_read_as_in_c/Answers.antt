use Rattle.sh_arith.proofs.Saying.{says_written}
use Rattle.sh_arith.proofs.Writing.{written}
use Rattle.sh_arith.proofs.texts_are_read_as_in_c.Goals as goal

pub returns : goal.returns
returns c = λ text e. ((λ s. (written text e s, s.shallow)), (λ h. says_written text e h.0 h.1))

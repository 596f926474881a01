use Rattle.sh_token.proofs.Laws.{first_law}
use Rattle.sh_token.proofs.token.first_token_is_the_defined_one.Goals as goal

pub returns : goal.returns
returns c = λ e levels bytes answer. first_law e levels bytes answer

use Rattle.std.proofs.Common.{arith}
use Rattle.std.proofs.lemmas.Grind.{common_steps}
use Rattle.sh_syntax.proofs.Equations.{named_is, here_is}
use Rattle.sh_syntax.proofs.Spaces.{spaced-append}
use Rattle.sh_syntax.proofs.text.put_target.Goals as goal

pub returns-in_ok-put_operator-in-Named : goal.returns-in_ok-put_operator-in-Named
returns-in_ok-put_operator-in-Named c =
    grind (arith, common_steps, named_is c.in-Named.operator c.in-Named.word, spaced-append)

pub returns-in_ok-put_here_operator-in-Here : goal.returns-in_ok-put_here_operator-in-Here
returns-in_ok-put_here_operator-in-Here c =
    grind (arith, common_steps, here_is c.in-Here.operator c.in-Here.delimiter c.in-Here.body, spaced-append)

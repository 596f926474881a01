use Rattle.std.proofs.Common.{arith}
use Rattle.std.proofs.lemmas.Grind.{common_steps}
use Rattle.sh_syntax.proofs.Equations.{redirect_is}
use Rattle.sh_syntax.proofs.Spaces.{spaced-append}
use Rattle.sh_syntax.proofs.text.put_redirect.Goals as goal

pub returns-in-None : goal.returns-in-None
returns-in-None c = grind (arith, common_steps, redirect_is c.args.redirect.now, spaced-append)

pub returns-in_ok-extend_from_slice-in-Some : goal.returns-in_ok-extend_from_slice-in-Some
returns-in_ok-extend_from_slice-in-Some c = grind (arith, common_steps, redirect_is c.args.redirect.now, spaced-append)

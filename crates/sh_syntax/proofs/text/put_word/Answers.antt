use Rattle.std.proofs.Common.{arith}
use Rattle.std.proofs.lemmas.Grind.{common_steps}
use Rattle.sh_syntax.proofs.Equations.{word_is}
use Rattle.sh_syntax.proofs.Spaces.{spaced-append}
use Rattle.sh_syntax.proofs.text.put_word.Goals as goal

pub returns : goal.returns
returns c = grind (arith, common_steps, word_is c.args.word.now, spaced-append)

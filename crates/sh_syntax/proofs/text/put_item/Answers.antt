use Rattle.std.proofs.Common.{arith}
use Rattle.std.proofs.lemmas.Grind.{common_steps}
use Rattle.sh_syntax.proofs.Equations.{assignment_is, item-word_is, item-redirect_is}
use Rattle.sh_syntax.proofs.text.put_item.Goals as goal

pub returns-in-Assignment : goal.returns-in-Assignment
returns-in-Assignment c =
    grind (arith, common_steps, assignment_is c.in-Assignment.name c.in-Assignment.value c.in-Assignment.source)

pub returns-in-Word : goal.returns-in-Word
returns-in-Word c = grind (arith, common_steps, item-word_is c.in-Word.word)

pub returns-in-Redirect : goal.returns-in-Redirect
returns-in-Redirect c = grind (arith, common_steps, item-redirect_is c.in-Redirect.redirect)

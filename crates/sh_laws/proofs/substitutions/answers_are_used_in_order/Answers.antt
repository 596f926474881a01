use Rattle.sh_laws.proofs.AnswersInOrder.{in_order}
use Rattle.sh_laws.proofs.substitutions.answers_are_used_in_order.Goals as goal

pub returns : goal.returns
returns c = in_order

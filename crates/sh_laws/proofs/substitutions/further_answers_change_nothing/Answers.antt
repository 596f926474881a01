use Rattle.sh_laws.proofs.AnswersInOrder.{stays}
use Rattle.sh_laws.proofs.substitutions.further_answers_change_nothing.Goals as goal

pub returns : goal.returns
returns c = stays

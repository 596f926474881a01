use Rattle.sh_grammar.proofs.Around.{awaited_around}
use Rattle.sh_grammar.proofs.laws.awaited_marks_are_around.Goals as goal

pub returns : goal.returns
returns c = awaited_around

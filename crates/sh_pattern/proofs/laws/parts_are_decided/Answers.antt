use Rattle.sh_pattern.proofs.Decisions.{longest_both, shortest_both}
use Rattle.sh_pattern.proofs.laws.parts_are_decided.Goals as goal

pub returns-clause-shortest : goal.returns-clause-shortest
returns-clause-shortest c = shortest_both

pub returns-clause-longest : goal.returns-clause-longest
returns-clause-longest c = longest_both

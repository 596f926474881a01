use Rattle.sh_laws.proofs.Growing.{grow, show}
use Rattle.sh_laws.proofs.Runs.{runs}
use Rattle.sh_laws.proofs.turns.runs_only_grow.Goals as goal

pub returns-clause-machine : goal.returns-clause-machine
returns-clause-machine c d = λ s events. grow _ _ (runs _ s events)

pub returns-clause-terminal : goal.returns-clause-terminal
returns-clause-terminal c d = λ s events. show _ _ (runs _ s events)

use Rattle.sh_laws.proofs.ProcessTurns.{task_next, turn_stands}
use Rattle.sh_laws.proofs.ShellTurns.{shell_stands}
use Rattle.sh_laws.proofs.turns.turns_end_before_actions.Goals as goal

pub returns-clause-shell : goal.returns-clause-shell
returns-clause-shell c d = λ s interpreter h. shell_stands s interpreter h

pub returns-clause-process : goal.returns-clause-process
returns-clause-process c d = λ s task h. turn_stands _ s task h

pub returns-clause-next : goal.returns-clause-next
returns-clause-next c d = λ task h. task_next task h

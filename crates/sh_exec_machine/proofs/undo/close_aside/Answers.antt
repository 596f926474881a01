use Rattle.sh_exec_machine.specs.Undoing.{without_aside}
use Rattle.sh_exec_machine.proofs.undo.close_aside.Goals as goal

-- it is closed from where it has its number
pub returns-clause-state : goal.returns-clause-state
unfolding without_aside
returns-clause-state c = λ s h. c.close_numbered.ensures.state _ (c.number.ensures.state s h)

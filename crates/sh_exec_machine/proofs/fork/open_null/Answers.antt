use Rattle.sh_exec_machine.specs.Forking.{after_null}
use Rattle.sh_exec_machine.proofs.fork.open_null.Goals as goal

pub returns-clause-state : goal.returns-clause-state
unfolding after_null
returns-clause-state c s h = (c.in_ok-_told.ensures.state s h).state

use Rattle.sh_exec_signals.specs.Signals.{after_drop}
use Rattle.sh_exec_signals.proofs.signals.finish_drop.Goals as goal

-- INT is caught again from where it isn't pending any more
pub returns-clause-state : goal.returns-clause-state
unfolding after_drop
returns-clause-state c = λ s at. c.set_action-2.ensures.state _ (c.set_action.ensures.state s at)

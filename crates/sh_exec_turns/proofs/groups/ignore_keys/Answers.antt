use Rattle.sh_kernel.specs.Calls.{after_set_action}
use Rattle.sh_kernel_processes.specs.declared.member.SignalAction.TheVariants.{Ignored}
use Rattle.sh_signal.specs.declared.signal.Signal.TheVariants.{Interrupt}
use Rattle.sh_exec_turns.proofs.groups.ignore_keys.Goals as goal

-- the second signal is ignored from where the first is
pub returns-clause-state : goal.returns-clause-state
returns-clause-state c = λ s at. c.set_action-2.ensures.state (after_set_action s c.args.pid Interrupt Ignored) (c.set_action.ensures.state s at)

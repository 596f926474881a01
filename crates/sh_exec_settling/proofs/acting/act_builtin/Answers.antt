use Rattle.sh_exec_settling.proofs.Built.{built}
use Rattle.sh_exec_settling.proofs.acting.act_builtin.Goals as goal

pub returns-clause-state : goal.returns-clause-state
returns-clause-state c = λ s k.
    built c.heed_traps.new.kernel c.args.frames.now s c.args.shell.now c.invoke.new.shell c.args.invocation c.args.fields.now c.arguments_of.result.now
    c.status.result c.last_for-last.result c.in_ok-outcome.outcome
    c.status.ensures c.last_for-last.ensures c.arguments_of.ensures (c.in_ok-outcome.ensures s k) (c.heed_traps.ensures.state s k)

use Rattle.std.proofs.Common.{◌∙◌}
use Rattle.sh_exec_signals.proofs.Heeding.{goes_on}
use Rattle.sh_exec_signals.proofs.signals.set_actions.Goals as goal

pub signals-preserved : goal.signals-preserved
signals-preserved c = (
  (λ s h. goes_on c.args.set c.args.shell.now c.in-Some.signal.now c.signals.rest.now c.in-Some.others.now c.args.signals.now c.signals.kernel c.set_action.new.kernel s
      c.in-Some.ensures.cases.0 c.set_action.ensures.state (c.signals.invariant.0 s h)),
  c.set_action.ensures.terminal ∙ c.signals.invariant.1,
  c.set_action.ensures.watch ∙ c.signals.invariant.2,
)

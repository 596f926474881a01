use Rattle.std.proofs.Common.{rules, subst}
use Rattle.sh_exec_settling.proofs.Outward.{onward}
use Rattle.sh_exec_settling.specs.Forms.{IsOnWay, outward, with_run}
use Rattle.sh_exec_forms.specs.Running.{At}
use Rattle.sh_exec_settling.proofs.forms.settle_outward.Goals as goal

pub outward-preserved : goal.outward-preserved
outward-preserved c = (
  (λ s k. subst (λ step. IsOnWay c.go_outward.new.kernel c.go_outward.new.shell c.go_outward.new.frames step (outward c.args.frames.now (with_run s c.args.shell.now (At c.args.active)))) c.in-Outward.is
      (onward c.outward.kernel c.outward.shell c.outward.frames c.outward.active c.go_outward.new.kernel c.go_outward.new.shell c.go_outward.new.frames c.in_ok-next.field-0
      (outward c.args.frames.now (with_run s c.args.shell.now (At c.args.active)))
      (c.outward.invariant.0 s k) c.in_ok-next.ensures.state)),
  search rules,
  search rules,
)

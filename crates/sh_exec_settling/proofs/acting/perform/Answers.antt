use Rattle.std.proofs.Common.{sym, subst, refl}
use Rattle.sh_exec_settling.proofs.Built.{not_built, not_effected}
use Rattle.sh_exec_settling.specs.Forms.{HasPerformed}
use Rattle.sh_kernel.specs.State.{StandsAt}
use Rattle.sh_exec_settling.proofs.acting.perform.Goals as goal

-- no built-in acts at the place
pub returns-in_ok-step-in_default : goal.returns-in_ok-step-in_default
returns-in_ok-step-in_default c = record {
  performed = λ s k. subst (HasPerformed c.step_at.new.shell c.step_at.new.frames c.args.frames.now c.in_ok-step-in_default.step)
      (sym (not_effected c.args.frames.now s c.args.shell.now c.args.active c.in_default.not-Acting)) c.in_ok-step-in_default.ensures;
  state = λ s k. subst (StandsAt c.args.kernel.now) (sym (not_built c.args.frames.now s c.args.shell.now c.args.active c.in_default.not-Acting)) k;
  terminal = refl;
  watch = refl;
}

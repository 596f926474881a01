use Rattle.std.proofs.Common.{ap, subst, ◌∙◌}
use Rattle.sh_exec_settling.specs.Builtins.{effect_at, machine_at}
use Rattle.sh_exec_settling.specs.Forms.{HasPerformed, within}
use Rattle.sh_exec_forms.specs.Stacks.{run_of}
use Rattle.sh_exec_settling.proofs.Outward.{performed_inward, performed_outward}
use Rattle.sh_exec_settling.proofs.forms.settle.Goals as goal
use Rattle.sh_vars.specs.declared.shell_options.Options.{Options}

-- an action comes next, at the place or inside what a built-in entered
pub returns-in-Inward-clause-state : goal.returns-in-Inward-clause-state
returns-in-Inward-clause-state c = λ s k.
    performed_inward c.perform.new.kernel s c.args.shell.now c.perform.new.shell c.perform.new.frames c.args.frames.now c.args.active c.in-Inward.active (c.in_ok-active.ensures.state s k)
    (subst (λ step. HasPerformed c.perform.new.shell c.perform.new.frames c.args.frames.now step (effect_at c.args.frames.now s c.args.shell.now c.args.active)) c.in-Inward.is (c.in_ok-active.ensures.performed s k))

-- what is over goes outward
pub returns-in_ok-active-in-Outward-clause-state : goal.returns-in_ok-active-in-Outward-clause-state
returns-in_ok-active-in-Outward-clause-state c = λ s k.
    performed_outward c.settle_outward.new.kernel s c.args.shell.now c.perform.new.shell c.settle_outward.new.shell c.perform.new.frames c.args.frames.now c.args.active
    c.in-Outward.active c.within-active.result (run_of c.settle_outward.new.frames c.in_ok-active-in-Outward.active)
    (subst (λ step. HasPerformed c.perform.new.shell c.perform.new.frames c.args.frames.now step (effect_at c.args.frames.now s c.args.shell.now c.args.active)) c.in-Outward.is (c.in_ok-active.ensures.performed s k))
    (c.within-active.ensures ∙ ap (λ (options : Options). within options.exit_on_error c.perform.new.frames c.in-Outward.active) c.options-errexit.ensures)
    (c.in_ok-active-in-Outward.ensures.state (machine_at c.args.frames.now s c.args.shell.now c.args.active) (c.in_ok-active.ensures.state s k))

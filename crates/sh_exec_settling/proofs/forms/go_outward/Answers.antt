use Rattle.std.proofs.Common.{rules, refl}
use Rattle.sh_exec_actions.specs.declared.action.Active.TheVariants.{Acting, Calling, Done, Evaluating, Leaving, Next}
use Rattle.sh_exec_settling.proofs.Outward.{alone_on_way, stays_on_way}
use Rattle.sh_exec_settling.proofs.forms.go_outward.Goals as goal

pub returns-in-Next-clause-state : goal.returns-in-Next-clause-state
returns-in-Next-clause-state c = λ s k.
    stays_on_way c.args.kernel.now c.args.shell.now c.args.frames.now s c.args.active (Next c.in-Next.place) c.in-Next.is k refl

pub returns-in-Acting-clause-state : goal.returns-in-Acting-clause-state
returns-in-Acting-clause-state c = λ s k.
    stays_on_way c.args.kernel.now c.args.shell.now c.args.frames.now s c.args.active (Acting c.in-Acting.invocation c.in-Acting.fields) c.in-Acting.is k refl

pub returns-in-Calling-clause-state : goal.returns-in-Calling-clause-state
returns-in-Calling-clause-state c = λ s k.
    stays_on_way c.args.kernel.now c.args.shell.now c.args.frames.now s c.args.active (Calling c.in-Calling.body c.in-Calling.fields) c.in-Calling.is k refl

pub returns-in-Evaluating-clause-state : goal.returns-in-Evaluating-clause-state
returns-in-Evaluating-clause-state c = λ s k.
    stays_on_way c.args.kernel.now c.args.shell.now c.args.frames.now s c.args.active (Evaluating c.in-Evaluating.how c.in-Evaluating.text) c.in-Evaluating.is k refl

pub returns-in-None-clause-state : goal.returns-in-None-clause-state
returns-in-None-clause-state c = λ s k.
    alone_on_way c.args.kernel.now c.args.shell.now c.pop.new.self c.args.frames.now s c.args.active (Done c.in-Done.ended) c.in-Done.is k (search rules) (search rules)

pub returns-in-None-pop-clause-state : goal.returns-in-None-pop-clause-state
returns-in-None-pop-clause-state c = λ s k.
    alone_on_way c.args.kernel.now c.args.shell.now c.pop-in-Leaving.new.self c.args.frames.now s c.args.active (Leaving c.in-Leaving.leave) c.in-Leaving.is k (search rules) (search rules)

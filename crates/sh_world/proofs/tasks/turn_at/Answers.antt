use Rattle.std.proofs.Common.{inr, refl}
use Rattle.sh_world.proofs.Among.{none_turned, one_turned}
use Rattle.sh_world.proofs.tasks.turn_at.Goals as goal

-- no process has the pid
pub returns-then-place-tasks-clause-state : goal.returns-then-place-tasks-clause-state
returns-then-place-tasks-clause-state g c = λ s h. none_turned g.S.Stock.meaning s _ c.args.pid _ h (rw c.requires c.if-place-tasks.true)

-- the process at the place takes the turn
pub returns-clause-state : goal.returns-clause-state
returns-clause-state g c = λ s h. one_turned g.S.Stock.meaning s c.turn.new.kernel c.args.pid c.args.tasks.now c.index-tasks-place.result c.turn.new.self c.in_ok-child.child c.args.place c.requires c.if-place-tasks.false (c.in_ok-child.ensures.state s h)

pub returns-in_err-child-clause-others : goal.returns-in_err-child-clause-others
returns-in_err-child-clause-others g c = inr (c.turn.new.self, refl)

pub returns-clause-others : goal.returns-clause-others
returns-clause-others g c = inr (c.turn.new.self, refl)

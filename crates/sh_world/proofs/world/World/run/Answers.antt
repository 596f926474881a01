use Rattle.std.proofs.Common.{◌≤◌, length, take_all, arith}
use Rattle.sh_exec.specs.declared.event.Event.TheVariants.{Run}
use Rattle.sh_exec.proofs.Runs.{run-take_more}
use Rattle.sh_world.proofs.world.World.run.Goals as goal

-- the world stood at the state before this event, so it stands at the state after it
pub loop-event-preserved : goal.loop-event-preserved
loop-event-preserved g c = λ s h.
    rw (run-take_more g.S.Stock.meaning s c.args.events.now c.loop-event.event-index (Run 0) c.loop-event-test.true)
    (c.in_ok-apply.ensures.step _ (c.loop-event.invariant s h))

-- no event is left
pub returns-clause-run : goal.returns-clause-run
returns-clause-run g c = λ s h.
    let past : length c.args.events.now ≤ c.loop-event.event-index = omega arith in
    rw (← take_all _ _ past) (c.loop-event.invariant s h)

use Rattle.psh.proofs.Driving.{run-times_more}
use Rattle.psh.proofs.serving.drive_line.Goals as goal

-- the world stood at the state before this event, so it stands at the state after it
pub times-preserved : goal.times-preserved
times-preserved g c = λ s h.
    rw (run-times_more g.S.Stock.meaning s c.times.done c.args.turns.event) (c.in_ok-apply.ensures.step _ (c.times.invariant s h))

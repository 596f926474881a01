use Rattle.sh_schedules_outcomes.specs.Shell.{shell}
use Rattle.sh_schedules.proofs.Walk.{is_after}
use Rattle.sh_schedules.proofs.turns.take_turn.Goals as goal

pub returns : goal.returns
returns g c = λ s h. (
  c.in_ok-turn_at.ensures s h,
  is_after (shell g.S.Stock.meaning) s c.args.place c.in_ok-here.field-0.here c.args.standing c.standing_after.result (c.in_ok-here.ensures s h).1 c.standing_after.ensures.left
      c.standing_after.ensures.mark,
)

use Rattle.sh_schedules_outcomes.specs.Shell.{shell}
use Rattle.sh_schedules.proofs.turns.turn_of.Goals as goal

pub returns : goal.returns
unfolding shell
returns g c = λ s h. c.apply.ensures.step s h

use Rattle.sh_schedules.proofs.Partings.{part_somewhere}
use Rattle.sh_schedules.proofs.laws.different_schedules_part.Goals as goal

pub returns : goal.returns
returns g c = λ j k n s es fs one two differ. part_somewhere _ n s 0 es fs one.any.turns two.any.turns one.any.within two.any.within one.any.ends two.any.ends differ

use Rattle.std.proofs.Common.{refl}
use Rattle.sh_schedules_outcomes.specs.Shell.{shell}
use Rattle.sh_schedules.proofs.Preempting.{is_within}
use Rattle.sh_schedules.proofs.laws.as_many_preemptions_as_turns_bound_nothing.Goals as goal

pub returns : goal.returns
returns g c = λ k n s found tried events enough whole is. whole.complete refl events (is_within (shell g.S.Stock.meaning) k n s events enough is)

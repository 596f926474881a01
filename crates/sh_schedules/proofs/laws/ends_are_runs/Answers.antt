use Rattle.sh_schedules.proofs.Runs.{end_is_run}
use Rattle.sh_schedules.proofs.laws.ends_are_runs.Goals as goal

pub returns : goal.returns
returns g c = λ s events. end_is_run g.S.Stock.meaning s events

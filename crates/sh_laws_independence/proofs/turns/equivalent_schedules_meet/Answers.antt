use Rattle.sh_laws_independence.proofs.Meeting.{schedules_meet}
use Rattle.sh_laws_independence.proofs.turns.equivalent_schedules_meet.Goals as goal

pub returns : goal.returns
returns g c = schedules_meet _

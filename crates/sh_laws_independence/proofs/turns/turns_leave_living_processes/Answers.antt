use Rattle.sh_laws_independence.proofs.Meeting.{all_live_after}
use Rattle.sh_laws_independence.proofs.turns.turns_leave_living_processes.Goals as goal

pub returns : goal.returns
returns g c = all_live_after _

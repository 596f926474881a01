use Rattle.sh_laws.proofs.Runs.{runs}
use Rattle.sh_laws.proofs.turns.runs_are_requests.Goals as goal

pub returns : goal.returns
returns c d = runs _

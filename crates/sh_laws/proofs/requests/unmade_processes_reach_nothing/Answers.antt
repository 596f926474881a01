use Rattle.sh_laws.proofs.Unmade.{unmade_at_start, unmade_stay_all, unmade_stay_forking}
use Rattle.sh_laws.proofs.requests.unmade_processes_reach_nothing.Goals as goal

pub returns-clause-start : goal.returns-clause-start
returns-clause-start c = unmade_at_start

pub returns-clause-list : goal.returns-clause-list
returns-clause-list c = unmade_stay_all

pub returns-clause-fork : goal.returns-clause-fork
returns-clause-fork c = unmade_stay_forking

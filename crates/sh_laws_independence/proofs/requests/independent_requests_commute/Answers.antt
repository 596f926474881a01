use Rattle.sh_laws_independence.proofs.Commuting.{read_answered, requests_commute, write_answered}
use Rattle.sh_laws_independence.proofs.requests.independent_requests_commute.Goals as goal

pub returns-clause-state : goal.returns-clause-state
returns-clause-state c = requests_commute

pub returns-clause-read : goal.returns-clause-read
returns-clause-read c = read_answered

pub returns-clause-write : goal.returns-clause-write
returns-clause-write c = write_answered

use Rattle.sh_laws.proofs.Redirecting.{giving_is, taking_is}
use Rattle.sh_laws.proofs.requests.transfers_are_requests.Goals as goal

pub returns-clause-taken : goal.returns-clause-taken
returns-clause-taken c = taking_is

pub returns-clause-given : goal.returns-clause-given
returns-clause-given c = giving_is

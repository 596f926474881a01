use Rattle.sh_laws.proofs.Redirecting.{redirecting_is}
use Rattle.sh_laws.proofs.requests.redirecting_is_requests.Goals as goal

pub returns : goal.returns
returns c = redirecting_is

use Rattle.sh_laws.proofs.Undoing.{undoing_is}
use Rattle.sh_laws.proofs.requests.undoing_is_requests.Goals as goal

pub returns : goal.returns
returns c = undoing_is

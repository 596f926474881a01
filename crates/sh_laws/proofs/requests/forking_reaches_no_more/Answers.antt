use Rattle.sh_laws.proofs.Reaching.{forking_reaches}
use Rattle.sh_laws.proofs.requests.forking_reaches_no_more.Goals as goal

pub returns : goal.returns
returns c = forking_reaches

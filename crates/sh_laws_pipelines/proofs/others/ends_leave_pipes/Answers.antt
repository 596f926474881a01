use Rattle.sh_laws_pipelines.proofs.Leaving.{ends_leave}
use Rattle.sh_laws_pipelines.proofs.others.ends_leave_pipes.Goals as goal

pub returns : goal.returns
returns c = ends_leave

use Rattle.sh_builtin_jobs.proofs.Serving.{each_is_served}
use Rattle.sh_builtin_jobs.proofs.laws.each_operand_is_served.Goals as goal

pub returns : goal.returns
returns c = each_is_served

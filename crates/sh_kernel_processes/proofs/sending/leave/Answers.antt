use Rattle.std.proofs.Common.{rules}
use Rattle.std.proofs.lemmas.Fn.{filter_same}
use Rattle.sh_kernel_processes.specs.Sending.{stays}
use Rattle.sh_kernel_processes.proofs.sending.leave.Goals as goal

pub returns : goal.returns
returns c = filter_same _ (stays c.args.processes.now) _ (λ x b f' k. search rules) _ _ c.retain.ensures.filtered

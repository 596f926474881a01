use Rattle.std.proofs.Common.{◌∙◌, ap}
use Rattle.sh_kernel_descriptors.specs.Waiting.{waits}
use Rattle.sh_kernel_descriptors.proofs.Slots.{read_alike}
use Rattle.sh_kernel_descriptors.proofs.waiting.read_pipe_waits.Goals as goal

pub returns : goal.returns
returns c ps agree n = c.read_at_waits.ensures n ∙ ap (λ r. waits r) (read_alike c.args.pipes.now.entries ps c.args.pipe n c.args.writer agree)

use Rattle.std.proofs.Common.{length}
use Rattle.sh_kernel_descriptors.proofs.Going.{Left}
use Rattle.sh_kernel_descriptors.proofs.closing.close_each.Given as goal

abbrev pub invariant-held : goal.invariant-held
invariant-held l = Left l.pid l.closing l.rest l.held l.fn.entries l.entries l.fn.pipes.entries l.pipes.entries

abbrev pub decreases-held : goal.decreases-held
decreases-held l = length l.rest

use Rattle.sh_kernel_descriptors.proofs.Going.{goes_on}
use Rattle.sh_kernel_descriptors.proofs.closing.close_each.Goals as goal

pub held-preserved : goal.held-preserved
held-preserved c =
    goes_on c.args.pid c.args.closing c.in-Some.h.now c.held.rest.now c.in-Some.others.now c.args.held.now c.args.entries.now c.held.entries c.close_one.new.entries c.args.pipes.now.entries c.held.pipes.entries c.close_one.new.pipes.entries
    c.in-Some.ensures.cases.0 c.close_one.ensures.at c.close_one.ensures.pipes c.close_one.ensures.room c.held.invariant

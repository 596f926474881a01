use Rattle.sh_kernel.proofs.Noting.{goes_on}
use Rattle.sh_kernel.proofs.changes.note_each.Goals as goal

pub pids-preserved : goal.pids-preserved
pids-preserved c =
    goes_on c.args.before.now c.in-Some.first.now c.pids.rest.now c.in-Some.others.now c.args.machine.now.processes c.args.moment c.args.moments.now.items c.pids.moments.items c.note_one.new.moments.items
    c.in-Some.ensures.cases.0 c.note_one.ensures c.pids.invariant

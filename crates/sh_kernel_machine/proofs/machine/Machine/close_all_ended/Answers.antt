use Rattle.sh_kernel_machine.proofs.Ending.{goes_on}
use Rattle.sh_kernel_machine.proofs.machine.Machine.close_all_ended.Goals as goal

pub pids-preserved : goal.pids-preserved
pids-preserved c s st = goes_on c.in-Some.pid.now c.pids.rest.now c.in-Some.others.now c.args.pids.now c.pids.self c.close_ended.new.self s c.in-Some.ensures.cases.0 c.close_ended.ensures (c.pids.invariant s st)

use Rattle.sh_exec.proofs.Rising.{lists_runnable}
use Rattle.sh_exec.proofs.laws.runnable_pids_rise.Goals as goal

pub returns : goal.returns
returns c d = lists_runnable

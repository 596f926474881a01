use Rattle.sh_arith.proofs.Computing.{fault_both, value_both}
use Rattle.sh_arith.proofs.evaluation_is_computed.Goals as goal

pub returns-clause-value : goal.returns-clause-value
returns-clause-value c = value_both

pub returns-clause-fault : goal.returns-clause-fault
returns-clause-fault c = fault_both

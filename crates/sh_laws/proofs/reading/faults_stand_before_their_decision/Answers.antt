use Rattle.sh_laws.proofs.Decided.{fault_before}
use Rattle.sh_laws.proofs.reading.faults_stand_before_their_decision.Goals as goal

pub returns : goal.returns
returns c = fault_before

use Rattle.std.proofs.Common.{ap}
use Rattle.sh_exec_machine.specs.Forking.{Forked}
use Rattle.sh_laws.proofs.Forking.{forked_is}
use Rattle.sh_laws.proofs.requests.forking_is_requests.Goals as goal

pub returns-clause-child : goal.returns-clause-child
returns-clause-child c = λ s pid before writes. ap (λ (f : Forked). f.child) (forked_is s pid before writes)

pub returns-clause-aside : goal.returns-clause-aside
returns-clause-aside c = λ s pid before writes. ap (λ (f : Forked). f.aside) (forked_is s pid before writes)

pub returns-clause-state : goal.returns-clause-state
returns-clause-state c = λ s pid before writes. ap (λ (f : Forked). f.after) (forked_is s pid before writes)

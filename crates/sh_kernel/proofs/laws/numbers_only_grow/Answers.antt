use Rattle.sh_kernel.proofs.Growing.{keys_grow, requests_grow}
use Rattle.sh_kernel.proofs.Reached.{lists_grow}
use Rattle.sh_kernel.proofs.laws.numbers_only_grow.Goals as goal

pub returns : goal.returns
returns c = record { key = keys_grow; one = requests_grow; list = lists_grow }

use Rattle.sh_kernel.proofs.Screens.{keys_show, terminal_grows}
use Rattle.sh_kernel.proofs.Terminals.{lists_grow_terminal}
use Rattle.sh_kernel.proofs.laws.the_terminal_only_grows.Goals as goal

pub returns : goal.returns
returns c = record { key = keys_show; one = terminal_grows; list = lists_grow_terminal }

use Rattle.sh_kernel.proofs.Screens.{terminal_stays}
use Rattle.sh_kernel.proofs.Terminals.{lists_leave_terminal}
use Rattle.sh_kernel.proofs.laws.the_terminal_is_reached.Goals as goal

pub returns : goal.returns
returns c = record { one = terminal_stays; list = lists_leave_terminal }

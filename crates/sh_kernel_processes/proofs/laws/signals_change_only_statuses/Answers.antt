use Rattle.sh_kernel_processes.proofs.Statuses.{ends_change, signals_change}
use Rattle.sh_kernel_processes.proofs.laws.signals_change_only_statuses.Goals as goal

pub returns : goal.returns
returns c = record { send = signals_change; end = ends_change }

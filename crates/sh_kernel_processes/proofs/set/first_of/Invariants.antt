use Rattle.std.proofs.Common.{◌≡◌, length}
use Rattle.std.specs.Prelude.{find}
use Rattle.sh_kernel_processes.specs.Sets.{has}
use Rattle.sh_kernel_processes.proofs.set.first_of.Given as goal

abbrev pub invariant-signals : goal.invariant-signals
invariant-signals l = find (has l.set) l.rest ≡ find (has l.set) l.signals

abbrev pub decreases-signals : goal.decreases-signals
decreases-signals l = length l.rest

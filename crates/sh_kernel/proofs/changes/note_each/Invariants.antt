use Rattle.std.proofs.Common.{length}
use Rattle.sh_kernel.proofs.Noting.{Left}
use Rattle.sh_kernel.proofs.changes.note_each.Given as goal

abbrev pub invariant-pids : goal.invariant-pids
invariant-pids l = Left l.before l.rest l.machine.processes l.moment l.initial.moments.items l.moments.items

abbrev pub decreases-pids : goal.decreases-pids
decreases-pids l = length l.rest

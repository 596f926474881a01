use Rattle.std.proofs.Common.{◌≡◌, length}
use Rattle.sh_schedules_outcomes.proofs.outcome.are_waiters.Given as goal

abbrev pub invariant-waiters : goal.invariant-waiters
invariant-waiters l = (l.lefts ≡ l.rights → l.left ≡ l.right) × (l.left ≡ l.right → l.lefts ≡ l.rights)

abbrev pub decreases-waiters : goal.decreases-waiters
decreases-waiters l = length l.lefts

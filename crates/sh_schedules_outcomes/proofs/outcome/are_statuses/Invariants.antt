use Rattle.std.proofs.Common.{◌≡◌, length}
use Rattle.sh_schedules_outcomes.proofs.outcome.are_statuses.Given as goal

abbrev pub invariant-statuses : goal.invariant-statuses
invariant-statuses l = (l.lefts ≡ l.rights → l.left ≡ l.right) × (l.left ≡ l.right → l.lefts ≡ l.rights)

abbrev pub decreases-statuses : goal.decreases-statuses
decreases-statuses l = length l.lefts

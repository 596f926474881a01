use Rattle.std.proofs.Common.{◌+◌, ◌≡◌, ℕ, length}
use Rattle.sh_schedules_outcomes.specs.Found.{IsPlace}
use Rattle.sh_schedules_outcomes.proofs.found.place_of.Given as goal

abbrev pub invariant-found : goal.invariant-found
invariant-found l = (l.place + length l.rest ≡ length l.found) × ((i : ℕ) → IsPlace l.rest l.outcome i → IsPlace l.found l.outcome (l.place + i))

abbrev pub decreases-found : goal.decreases-found
decreases-found l = length l.rest

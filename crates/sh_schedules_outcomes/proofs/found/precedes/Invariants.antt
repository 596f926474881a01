use Rattle.std.proofs.Common.{◌≡◌, length}
use Rattle.sh_schedules_outcomes.specs.Preference.{precedes}
use Rattle.sh_schedules_outcomes.proofs.found.precedes.Given as goal

abbrev pub invariant-events : goal.invariant-events
invariant-events l = precedes l.events l.others ≡ precedes l.ones l.twos

abbrev pub decreases-events : goal.decreases-events
decreases-events l = length l.twos

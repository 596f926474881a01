use Rattle.std.proofs.Common.{◌≡◌}
use Rattle.sh_schedules_outcomes.specs.Choices.{places_below}
use Rattle.sh_schedules.proofs.choices.places_below.Given as goal

abbrev pub invariant-places : goal.invariant-places
invariant-places l = l.places.items ≡ places_below l.place

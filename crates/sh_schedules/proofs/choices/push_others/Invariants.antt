use Rattle.std.proofs.Common.{◌≡◌, ◌++◌}
use Rattle.sh_schedules_outcomes.specs.Choices.{others_below}
use Rattle.sh_schedules.proofs.choices.push_others.Given as goal

abbrev pub invariant-places : goal.invariant-places
invariant-places l = l.places.items ≡ l.fn.places.items ++ others_below l.here l.place

use Rattle.std.proofs.Common.{◌↔◌, [], length, ◌-◌, ◌≤◌}
use Rattle.sh_pattern.specs.Match.{AreMatched}
use Rattle.sh_pattern.specs.Place.{from}
use Rattle.sh_pattern.proofs.search.vanishes.Given as goal

abbrev pub invariant-loop-at : goal.invariant-loop-at
invariant-loop-at l = (l.at ≤ length l.pattern) × (AreMatched (from l.pattern l.start) [] ↔ AreMatched (from l.pattern l.at) [])

abbrev pub decreases-loop-at : goal.decreases-loop-at
decreases-loop-at l = length l.pattern - l.at

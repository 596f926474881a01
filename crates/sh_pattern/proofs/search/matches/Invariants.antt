use Rattle.std.proofs.Common.{◌↔◌, drop, length, ◌-◌, ◌≤◌}
use Rattle.sh_pattern.specs.Match.{AreMatched, Matches}
use Rattle.sh_pattern.specs.Place.{from}
use Rattle.sh_pattern.proofs.search.matches.Given as goal

abbrev pub invariant-loop-at : goal.invariant-loop-at
invariant-loop-at l = record { within : l.at ≤ length l.pattern; bytes : l.byte ≤ length l.text; same : Matches l.pattern l.text ↔ AreMatched (from l.pattern l.at) (drop l.byte l.text) }

abbrev pub decreases-loop-at : goal.decreases-loop-at
decreases-loop-at l = length l.pattern - l.at

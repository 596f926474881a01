use Rattle.std.proofs.Common.{◌↔◌}
use Rattle.sh_pattern.specs.Place.{IsPlaced, Reached, work}
use Rattle.sh_pattern.proofs.search.matches_behind.Given as goal

abbrev pub invariant-loop-place : goal.invariant-loop-place
invariant-loop-place l = IsPlaced l.pattern l.text l.place × (Reached l.pattern l.text l.initial.place ↔ Reached l.pattern l.text l.place)

abbrev pub decreases-loop-place : goal.decreases-loop-place
decreases-loop-place l = work l.pattern l.text l.place

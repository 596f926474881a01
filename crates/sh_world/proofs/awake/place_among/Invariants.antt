use Rattle.std.proofs.Common.{ℕ, length}
use Rattle.sh_world.specs.Awake.{Has}
use Rattle.sh_world.proofs.awake.place_among.Given as goal

abbrev pub invariant-places : goal.invariant-places
invariant-places g l = (place : ℕ) → Has l.rest place → Has l.places place

abbrev pub decreases-places : goal.decreases-places
decreases-places g l = length l.rest

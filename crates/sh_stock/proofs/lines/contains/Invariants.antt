use Rattle.std.proofs.Common.{◌≡◌, length}
use Rattle.sh_stock.specs.Lines.{contains}
use Rattle.sh_stock.proofs.lines.contains.Given as goal

abbrev pub invariant-places : goal.invariant-places
invariant-places l = contains l.text l.rest ≡ contains l.text l.line

abbrev pub decreases-places : goal.decreases-places
decreases-places l = length l.rest

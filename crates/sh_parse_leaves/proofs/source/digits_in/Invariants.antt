use Rattle.std.proofs.Common.{◌≡◌, ◌++◌, length}
use Rattle.sh_parse_leaves.specs.Sources.{digits_in}
use Rattle.sh_parse_leaves.proofs.source.digits_in.Given as goal

abbrev pub invariant-loop-b : goal.invariant-loop-b
invariant-loop-b l = l.digits.items ++ digits_in l.rest ≡ digits_in l.bytes

abbrev pub decreases-loop-b : goal.decreases-loop-b
decreases-loop-b l = length l.rest

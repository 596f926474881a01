use Rattle.std.proofs.Common.{◌≡◌, ◌++◌, length}
use Rattle.sh_parse_leaves.proofs.leaf.put_same.Given as goal

abbrev pub invariant-loop-part : goal.invariant-loop-part
invariant-loop-part l = l.parts.items ++ l.rest ≡ l.initial.parts.items ++ l.others

abbrev pub decreases-loop-part : goal.decreases-loop-part
decreases-loop-part l = length l.rest

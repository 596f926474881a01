use Rattle.std.proofs.Common.{◌≡◌, ◌++◌, length}
use Rattle.sh_parse_commands.specs.Judging.{with_bodies}
use Rattle.sh_parse_commands.proofs.prefix.fill.Given as goal

abbrev pub invariant-loop-leaf : goal.invariant-loop-leaf
invariant-loop-leaf l = l.all.items ++ with_bodies l.rest l.left ≡ with_bodies l.fn.leaves.items l.fn.bodies.items

abbrev pub decreases-loop-leaf : goal.decreases-loop-leaf
decreases-loop-leaf l = length l.rest

use Rattle.std.proofs.Common.{◌≡◌, ◌++◌, length}
use Rattle.sh_parse_commands.proofs.prefix.put_all.Given as goal

abbrev pub invariant-loop-body : goal.invariant-loop-body
invariant-loop-body l = l.bodies.items ++ l.rest ≡ l.initial.bodies.items ++ l.fn.others.items

abbrev pub decreases-loop-body : goal.decreases-loop-body
decreases-loop-body l = length l.rest

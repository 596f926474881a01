use Rattle.std.proofs.Common.{◌≡◌, ◌++◌, length}
use Rattle.sh_exec_parts.specs.Simple.{assignments_of}
use Rattle.sh_exec_parts.proofs.simple.assignments_of.Given as goal

abbrev pub invariant-items : goal.invariant-items
invariant-items l = l.assignments ++ assignments_of l.rest ≡ assignments_of l.items

abbrev pub decreases-items : goal.decreases-items
decreases-items l = length l.rest

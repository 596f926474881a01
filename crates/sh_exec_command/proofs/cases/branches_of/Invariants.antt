use Rattle.std.proofs.Common.{◌≡◌, ◌++◌, length}
use Rattle.sh_exec_command.specs.Cases.{branches_of}
use Rattle.sh_exec_command.proofs.cases.branches_of.Given as goal

abbrev pub invariant-items : goal.invariant-items
invariant-items l = l.branches ++ branches_of l.rest ≡ branches_of l.items

abbrev pub decreases-items : goal.decreases-items
decreases-items l = length l.rest

use Rattle.std.proofs.Common.{◌≡◌, length}
use Rattle.sh_exec_parts.specs.Declarations.{declares_by}
use Rattle.sh_exec_parts.specs.Simple.{words_of}
use Rattle.sh_exec_parts.proofs.declaration.declares.Given as goal

abbrev pub invariant-items : goal.invariant-items
invariant-items l = declares_by (words_of l.rest) ≡ declares_by (words_of l.items)

abbrev pub decreases-items : goal.decreases-items
decreases-items l = length l.rest

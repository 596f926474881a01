use Rattle.std.proofs.Common.{◌≡◌, length}
use Rattle.sh_builtin_environment.specs.Marking.{marked_all}
use Rattle.sh_builtin_environment.proofs.marking.mark_all.Given as goal

abbrev pub invariant-operands : goal.invariant-operands
invariant-operands l = marked_all l.attribute l.vars l.rest ≡ marked_all l.attribute l.fn.vars l.operands

abbrev pub decreases-operands : goal.decreases-operands
decreases-operands l = length l.rest

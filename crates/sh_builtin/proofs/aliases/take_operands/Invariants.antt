use Rattle.std.proofs.Common.{◌≡◌, length}
use Rattle.sh_builtin.specs.Aliases.{after_operands, defined_by}
use Rattle.sh_builtin.proofs.aliases.take_operands.Given as goal

abbrev pub invariant-operands : goal.invariant-operands
invariant-operands l = after_operands (defined_by l.aliases l.told) l.rest ≡ after_operands (defined_by l.fn.aliases l.fn.told) l.operands

abbrev pub decreases-operands : goal.decreases-operands
decreases-operands l = length l.rest

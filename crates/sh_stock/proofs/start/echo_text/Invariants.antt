use Rattle.std.proofs.Common.{◌≡◌, ◌++◌, length}
use Rattle.std.specs.List.{join_with_byte}
use Rattle.sh_stock.proofs.start.echo_text.Given as goal

abbrev pub invariant-operands : goal.invariant-operands
invariant-operands l = l.text ++ join_with_byte 32 l.rest ≡ join_with_byte 32 l.operands

abbrev pub decreases-operands : goal.decreases-operands
decreases-operands l = length l.rest

use Rattle.std.proofs.Common.{◌≡◌, ◌++◌, length}
use Rattle.sh_token_pieces.specs.TokenClasses.{literal_prefix}
use Rattle.sh_token_pieces.proofs.piece.literal_prefix.Given as goal

abbrev pub invariant-loop-first : goal.invariant-loop-first
invariant-loop-first l = l.bytes.items ++ literal_prefix l.rest ≡ literal_prefix l.pieces

abbrev pub decreases-loop-first : goal.decreases-loop-first
decreases-loop-first l = length l.rest

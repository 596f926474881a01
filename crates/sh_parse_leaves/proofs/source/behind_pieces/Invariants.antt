use Rattle.std.proofs.Common.{◌≡◌, length}
use Rattle.sh_parse_leaves.specs.Sources.{behind_pieces}
use Rattle.sh_parse_leaves.proofs.source.behind_pieces.Given as goal

abbrev pub invariant-loop-piece : goal.invariant-loop-piece
invariant-loop-piece l = behind_pieces l.rest l.left ≡ behind_pieces l.pieces l.bytes

abbrev pub decreases-loop-piece : goal.decreases-loop-piece
decreases-loop-piece l = length l.rest

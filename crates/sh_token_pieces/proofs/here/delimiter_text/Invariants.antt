use Rattle.std.proofs.Common.{◌≡◌, ◌++◌, length}
use Rattle.sh_token_pieces.specs.Here.{delimiter_text}
use Rattle.sh_token_pieces.proofs.here.delimiter_text.Given as goal

abbrev pub invariant-loop-first : goal.invariant-loop-first
invariant-loop-first l = l.text.items ++ delimiter_text l.rest ≡ delimiter_text l.pieces

abbrev pub decreases-loop-first : goal.decreases-loop-first
decreases-loop-first l = length l.rest

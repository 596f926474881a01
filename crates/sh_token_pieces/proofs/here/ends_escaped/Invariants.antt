use Rattle.std.proofs.Common.{◌≡◌, length}
use Rattle.sh_token_pieces.specs.Here.{ends_escaped}
use Rattle.sh_token_pieces.proofs.here.ends_escaped.Given as goal

abbrev pub invariant-loop-first : goal.invariant-loop-first
invariant-loop-first l = ends_escaped l.rest ≡ ends_escaped l.line

abbrev pub decreases-loop-first : goal.decreases-loop-first
decreases-loop-first l = length l.rest

use Rattle.std.proofs.Common.{◌≡◌, length}
use Rattle.sh_parse_words.specs.Places.{behind_joins}
use Rattle.sh_parse_words.proofs.place.behind_joins.Given as goal

abbrev pub invariant-loop-first : goal.invariant-loop-first
invariant-loop-first l = behind_joins l.rest ≡ behind_joins l.bytes

abbrev pub decreases-loop-first : goal.decreases-loop-first
decreases-loop-first l = length l.rest

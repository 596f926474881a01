use Rattle.std.proofs.Common.{◌≡◌}
use Rattle.sh_parse_words.specs.Places.{behind_plain}
use Rattle.sh_parse_words.proofs.place.behind_plain.Given as goal

abbrev pub invariant-loop-left : goal.invariant-loop-left
invariant-loop-left l = behind_plain l.left l.rest ≡ behind_plain l.count l.bytes

abbrev pub decreases-loop-left : goal.decreases-loop-left
decreases-loop-left l = l.left

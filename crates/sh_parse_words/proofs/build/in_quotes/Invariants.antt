use Rattle.std.proofs.Common.{◌≡◌, length}
use Rattle.sh_parse_words.specs.Building.{in_quotes}
use Rattle.sh_parse_words.proofs.build.in_quotes.Given as goal

abbrev pub invariant-loop-frame : goal.invariant-loop-frame
invariant-loop-frame l = in_quotes l.is_quoted l.rest ≡ in_quotes l.around l.frames

abbrev pub decreases-loop-frame : goal.decreases-loop-frame
decreases-loop-frame l = length l.rest

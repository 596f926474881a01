use Rattle.std.proofs.Common.{◌≡◌, length}
use Rattle.sh_parse_words.specs.Parameters.{number_behind}
use Rattle.sh_parse_words.proofs.parameter.number.Given as goal

abbrev pub invariant-loop-digit : goal.invariant-loop-digit
invariant-loop-digit l = number_behind l.number l.rest ≡ number_behind 0 l.digits

abbrev pub decreases-loop-digit : goal.decreases-loop-digit
decreases-loop-digit l = length l.rest

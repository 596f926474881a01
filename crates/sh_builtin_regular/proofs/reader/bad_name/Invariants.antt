use Rattle.std.proofs.Common.{◌≡◌, length}
use Rattle.sh_builtin_regular.specs.Operands.{bad_name}
use Rattle.sh_builtin_regular.proofs.reader.bad_name.Given as goal

abbrev pub invariant-words : goal.invariant-words
invariant-words l = bad_name l.rest ≡ bad_name l.words

abbrev pub decreases-words : goal.decreases-words
decreases-words l = length l.rest

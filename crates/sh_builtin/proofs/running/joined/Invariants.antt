use Rattle.std.proofs.Common.{◌≡◌, ◌++◌, length}
use Rattle.std.specs.List.{join_with_byte}
use Rattle.sh_builtin.proofs.running.joined.Given as goal

abbrev pub invariant-words : goal.invariant-words
invariant-words l = l.text ++ join_with_byte 32 l.rest ≡ join_with_byte 32 l.arguments

abbrev pub decreases-words : goal.decreases-words
decreases-words l = length l.rest

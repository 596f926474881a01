use Rattle.std.proofs.Common.{◌≡◌, length, None}
use Rattle.sh_builtin_environment.specs.Options.{parsed_behind}
use Rattle.sh_builtin_environment.proofs.options.parse_options.Given as goal

abbrev pub invariant-words : goal.invariant-words
invariant-words l = parsed_behind l.allowed l.last l.rest ≡ parsed_behind l.allowed None l.arguments

abbrev pub decreases-words : goal.decreases-words
decreases-words l = length l.rest

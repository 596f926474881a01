use Rattle.std.proofs.Common.{◌≡◌, length}
use Rattle.sh_builtin_outcome.specs.CommandWords.{last_behind}
use Rattle.sh_builtin_outcome.proofs.command_words.last_behind.Given as goal

abbrev pub invariant-commands : goal.invariant-commands
invariant-commands l = last_behind l.left l.rest ≡ last_behind l.at_most l.words

abbrev pub decreases-commands : goal.decreases-commands
decreases-commands l = length l.left

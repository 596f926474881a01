use Rattle.std.proofs.Common.{◌≡◌, ◌++◌, length}
use Rattle.std.specs.Prelude.{map}
use Rattle.sh_exec_command.specs.Series.{word_of_series}
use Rattle.sh_exec_command.proofs.series.words_wanted.Given as goal

abbrev pub invariant-words : goal.invariant-words
invariant-words l = l.wanted ++ map word_of_series l.rest ≡ map word_of_series l.words

abbrev pub decreases-words : goal.decreases-words
decreases-words l = length l.rest

use Rattle.std.proofs.Common.{◌≡◌, ◌++◌, length}
use Rattle.sh_parse_words.specs.Backquotes.{without_escapes}
use Rattle.sh_parse_words.proofs.backquotes.unescaped.Given as goal

abbrev pub invariant-loop-first : goal.invariant-loop-first
invariant-loop-first l = l.text.items ++ without_escapes l.is_quoted l.rest ≡ without_escapes l.is_quoted l.bytes

abbrev pub decreases-loop-first : goal.decreases-loop-first
decreases-loop-first l = length l.rest

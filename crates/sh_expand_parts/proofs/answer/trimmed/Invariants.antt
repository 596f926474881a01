use Rattle.std.proofs.Common.{◌≡◌, length}
use Rattle.sh_expand_parts.specs.Answers.{without_end_newlines}
use Rattle.sh_expand_parts.proofs.answer.trimmed.Given as goal

abbrev pub invariant-bytes : goal.invariant-bytes
invariant-bytes l = without_end_newlines l.rest ≡ without_end_newlines l.text

abbrev pub decreases-bytes : goal.decreases-bytes
decreases-bytes l = length l.rest

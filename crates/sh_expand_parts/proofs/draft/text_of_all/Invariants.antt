use Rattle.std.proofs.Common.{◌≡◌, ◌++◌, length}
use Rattle.sh_expand_parts.specs.Drafts.{text_of_all}
use Rattle.sh_expand_parts.proofs.draft.text_of_all.Given as goal

abbrev pub invariant-texts : goal.invariant-texts
invariant-texts l = l.all.items ++ text_of_all l.between l.rest ≡ text_of_all l.between l.texts

abbrev pub decreases-texts : goal.decreases-texts
decreases-texts l = length l.rest

use Rattle.std.proofs.Common.{◌≡◌, ◌++◌, length}
use Rattle.sh_expand_parts.specs.Drafts.{apart, text_items}
use Rattle.sh_expand_parts.proofs.draft.apart.Given as goal

abbrev pub invariant-texts : goal.invariant-texts
invariant-texts l = l.items ++ apart (text_items l.context) l.rest ≡ apart (text_items l.context) l.texts

abbrev pub decreases-texts : goal.decreases-texts
decreases-texts l = length l.rest

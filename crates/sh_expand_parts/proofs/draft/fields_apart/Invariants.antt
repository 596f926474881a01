use Rattle.std.proofs.Common.{◌≡◌, ◌++◌, length}
use Rattle.sh_expand_parts.specs.Drafts.{apart, field_items}
use Rattle.sh_expand_parts.proofs.draft.fields_apart.Given as goal

abbrev pub invariant-texts : goal.invariant-texts
invariant-texts l = l.items ++ apart field_items l.rest ≡ apart field_items l.texts

abbrev pub decreases-texts : goal.decreases-texts
decreases-texts l = length l.rest

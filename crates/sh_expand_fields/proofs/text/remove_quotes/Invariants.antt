use Rattle.std.proofs.Common.{◌≡◌, ◌++◌, length}
use Rattle.sh_expand_fields.specs.Text.{text_of}
use Rattle.sh_expand_fields.proofs.text.remove_quotes.Given as goal

abbrev pub invariant-items : goal.invariant-items
invariant-items l = l.text.items ++ text_of l.rest ≡ text_of l.field

abbrev pub decreases-items : goal.decreases-items
decreases-items l = length l.rest

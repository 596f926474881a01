use Rattle.std.proofs.Common.{◌≡◌, ◌++◌, length}
use Rattle.sh_expand_fields.specs.Text.{marks, marks_of}
use Rattle.sh_expand_fields.proofs.text.pattern_of.Given as goal

abbrev pub invariant-items : goal.invariant-items
invariant-items l = l.marker.marks.items ++ marks l.marker.escaped l.rest ≡ marks_of l.field

abbrev pub decreases-items : goal.decreases-items
decreases-items l = length l.rest

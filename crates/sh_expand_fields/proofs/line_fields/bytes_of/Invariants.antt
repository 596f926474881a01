use Rattle.std.proofs.Common.{◌≡◌, ◌++◌, length}
use Rattle.sh_expand_fields.specs.Lines.{bytes_of}
use Rattle.sh_expand_fields.proofs.line_fields.bytes_of.Given as goal

abbrev pub invariant-marks : goal.invariant-marks
invariant-marks l = l.text ++ bytes_of l.rest ≡ bytes_of l.marks

abbrev pub decreases-marks : goal.decreases-marks
decreases-marks l = length l.rest

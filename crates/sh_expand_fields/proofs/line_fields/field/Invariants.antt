use Rattle.std.proofs.Common.{◌≡◌, ◌++◌, length}
use Rattle.sh_expand_fields.specs.Lines.{field}
use Rattle.sh_expand_fields.proofs.line_fields.field.Given as goal

abbrev pub invariant-marks : goal.invariant-marks
invariant-marks l = l.text ++ field l.ifs l.rest ≡ field l.ifs l.line

abbrev pub decreases-marks : goal.decreases-marks
decreases-marks l = length l.rest

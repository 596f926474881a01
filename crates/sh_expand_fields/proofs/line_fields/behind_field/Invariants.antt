use Rattle.std.proofs.Common.{◌≡◌, length}
use Rattle.sh_expand_fields.specs.Lines.{behind_field}
use Rattle.sh_expand_fields.proofs.line_fields.behind_field.Given as goal

abbrev pub invariant-marks : goal.invariant-marks
invariant-marks l = behind_field l.ifs l.rest ≡ behind_field l.ifs l.line

abbrev pub decreases-marks : goal.decreases-marks
decreases-marks l = length l.rest

use Rattle.std.proofs.Common.{◌≡◌, length}
use Rattle.sh_expand_fields.specs.Lines.{behind_white}
use Rattle.sh_expand_fields.proofs.line_fields.behind_white.Given as goal

abbrev pub invariant-marks : goal.invariant-marks
invariant-marks l = behind_white l.ifs l.rest ≡ behind_white l.ifs l.line

abbrev pub decreases-marks : goal.decreases-marks
decreases-marks l = length l.rest

use Rattle.std.proofs.Common.{◌≡◌, length}
use Rattle.sh_expand_fields.specs.Lines.{before_white}
use Rattle.sh_expand_fields.proofs.line_fields.before_white.Given as goal

abbrev pub invariant-marks : goal.invariant-marks
invariant-marks l = before_white l.ifs l.rest ≡ before_white l.ifs l.line

abbrev pub decreases-marks : goal.decreases-marks
decreases-marks l = length l.rest

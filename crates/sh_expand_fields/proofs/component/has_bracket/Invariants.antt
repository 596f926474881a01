use Rattle.std.proofs.Common.{◌≡◌, length}
use Rattle.sh_expand_fields.specs.Pathnames.{has_bracket}
use Rattle.sh_expand_fields.proofs.component.has_bracket.Given as goal

abbrev pub invariant-marks : goal.invariant-marks
invariant-marks l = has_bracket l.rest ≡ has_bracket l.component

abbrev pub decreases-marks : goal.decreases-marks
decreases-marks l = length l.rest

use Rattle.std.proofs.Common.{◌≡◌, ◌++◌, length, map}
use Rattle.sh_pattern.specs.Items.{byte_of}
use Rattle.sh_expand_fields.proofs.component.bytes_of.Given as goal

abbrev pub invariant-marks : goal.invariant-marks
invariant-marks l = l.bytes.items ++ map byte_of l.rest ≡ map byte_of l.component

abbrev pub decreases-marks : goal.decreases-marks
decreases-marks l = length l.rest

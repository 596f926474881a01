use Rattle.std.proofs.Common.{◌≡◌, ◌≤◌, length}
use Rattle.sh_files_image.specs.Fields.{last_space}
use Rattle.sh_files_image.proofs.fields.last_space.Given as goal

abbrev pub invariant-bytes : goal.invariant-bytes
invariant-bytes l = (last_space l.rest ≡ last_space l.line) × (length l.rest ≤ length l.line)

abbrev pub decreases-bytes : goal.decreases-bytes
decreases-bytes l = length l.rest

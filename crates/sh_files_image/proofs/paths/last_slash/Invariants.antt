use Rattle.std.proofs.Common.{◌≡◌, ◌≤◌, length}
use Rattle.sh_files_image.specs.Paths.{last_slash}
use Rattle.sh_files_image.proofs.paths.last_slash.Given as goal

abbrev pub invariant-bytes : goal.invariant-bytes
invariant-bytes l = (last_slash l.rest ≡ last_slash l.path) × (length l.rest ≤ length l.path)

abbrev pub decreases-bytes : goal.decreases-bytes
decreases-bytes l = length l.rest

use Rattle.std.proofs.Common.{◌≡◌, length}
use Rattle.sh_files_image.specs.Paths.{components}
use Rattle.sh_files_image.specs.Paths.{good_names}
use Rattle.sh_files_image.proofs.names.good_names.Given as goal

abbrev pub invariant-names : goal.invariant-names
invariant-names l = good_names (components l.path) ≡ good_names (components l.rest)

abbrev pub decreases-names : goal.decreases-names
decreases-names l = length l.rest

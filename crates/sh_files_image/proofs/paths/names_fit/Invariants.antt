use Rattle.std.proofs.Common.{◌≡◌, length}
use Rattle.sh_files_image.specs.Paths.{components, names_fit}
use Rattle.sh_files_image.proofs.paths.names_fit.Given as goal

abbrev pub invariant-names : goal.invariant-names
invariant-names l = names_fit (components l.rest) ≡ names_fit (components l.path)

abbrev pub decreases-names : goal.decreases-names
decreases-names l = length l.rest

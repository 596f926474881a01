use Rattle.std.proofs.Common.{◌≡◌, length, codes}
use Rattle.sh_builtin_environment.specs.Walks.{through}
use Rattle.sh_files_image.specs.Paths.{components}
use Rattle.sh_builtin_environment.proofs.directory.go_through.Given as goal

abbrev pub invariant-names : goal.invariant-names
invariant-names l = through l.place.items (components l.rest) ≡ through (codes "/") (components l.path)

abbrev pub decreases-names : goal.decreases-names
decreases-names l = length l.rest

use Rattle.std.proofs.Common.{◌≡◌, length, codes}
use Rattle.sh_files_image.specs.Paths.{components}
use Rattle.sh_files.specs.Nodes.{walk_end}
use Rattle.sh_files.proofs.files.Files.walk.Given as goal

abbrev pub invariant-names : goal.invariant-names
invariant-names l = walk_end l.self (codes "/") (components l.path) ≡ walk_end l.self l.place.items (components l.rest)

abbrev pub decreases-names : goal.decreases-names
decreases-names l = length l.rest

use Rattle.std.proofs.Common.{◌≡◌, ◌++◌, length}
use Rattle.std.specs.Prelude.{map}
use Rattle.sh_files.specs.Search.{elements, path_in}
use Rattle.sh_files.proofs.search.paths_in.Given as goal

abbrev pub invariant-elements : goal.invariant-elements
invariant-elements l = l.paths ++ map (path_in l.name) (elements l.rest) ≡ map (path_in l.name) (elements l.value)

abbrev pub decreases-elements : goal.decreases-elements
decreases-elements l = length l.rest

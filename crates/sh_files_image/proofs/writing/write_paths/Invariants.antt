use Rattle.std.proofs.Common.{◌≡◌, ◌++◌, length}
use Rattle.sh_files_image.specs.Writing.{paths_text}
use Rattle.sh_files_image.proofs.writing.write_paths.Given as goal

abbrev pub invariant-paths : goal.invariant-paths
invariant-paths l = l.image.items ++ paths_text l.nodes l.rest ≡ l.fn.image.items ++ paths_text l.nodes l.entries

abbrev pub decreases-paths : goal.decreases-paths
decreases-paths l = length l.rest

use Rattle.std.proofs.Common.{◌≡◌, length}
use Rattle.std.specs.Prelude.{find}
use Rattle.sh_files.specs.Nodes.{is_executable}
use Rattle.sh_files.proofs.search.first_executable.Given as goal

abbrev pub invariant-paths : goal.invariant-paths
invariant-paths l = find (is_executable l.files l.directory) l.rest ≡ find (is_executable l.files l.directory) l.paths

abbrev pub decreases-paths : goal.decreases-paths
decreases-paths l = length l.rest

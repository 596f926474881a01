use Rattle.std.proofs.Common.{◌≡◌, length}
use Rattle.std.specs.List.{list_any}
use Rattle.sh_files.specs.Search.{names_regular}
use Rattle.sh_files.proofs.search.any_regular.Given as goal

abbrev pub invariant-paths : goal.invariant-paths
invariant-paths l = list_any (names_regular l.files l.directory) l.rest ≡ list_any (names_regular l.files l.directory) l.paths

abbrev pub decreases-paths : goal.decreases-paths
decreases-paths l = length l.rest

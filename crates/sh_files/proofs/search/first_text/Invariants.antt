use Rattle.std.proofs.Common.{◌≡◌, length}
use Rattle.sh_files.specs.Search.{first_text}
use Rattle.sh_files.proofs.search.first_text.Given as goal

abbrev pub invariant-paths : goal.invariant-paths
invariant-paths l = first_text l.files l.directory l.rest ≡ first_text l.files l.directory l.paths

abbrev pub decreases-paths : goal.decreases-paths
decreases-paths l = length l.rest

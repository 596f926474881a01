use Rattle.std.proofs.Common.{Bor, List, ℕ, length, map}
use Rattle.std.specs.FinMap as paths
use Rattle.sh_files_image.specs.Listing.{from, names_in}
use Rattle.sh_files_image.proofs.Turns.{IsAt}
use Rattle.sh_files_image.proofs.listing.names_of.Given as goal

abbrev pub invariant-paths : goal.invariant-paths
invariant-paths l =
    IsAt l.prefix (map (λ (name : Bor (List ℕ)). name.now) l.names.items) (names_in l.prefix (paths.entries l.table)) (from l.text.items (paths.entries l.table))

abbrev pub decreases-paths : goal.decreases-paths
decreases-paths l = length (from l.text.items (paths.entries l.table))

-- The files: a map from path to node. A node has a number that stays its own; numbers go up from 0 by creation.
use Rattle.std.specs.Prelude.{[], ◌∷◌, codes}
use Rattle.std.specs.FinMap.{from_entries}
use Rattle.sh_files_image.specs.Paths.{PathMap}

-- the root, and the devices that are there from the start
unfoldable pub starting_paths : PathMap
starting_paths = from_entries ((codes "/", 0) ∷ (codes "/dev", 1) ∷ (codes "/dev/null", 2) ∷ (codes "/dev/tty", 3) ∷ [])

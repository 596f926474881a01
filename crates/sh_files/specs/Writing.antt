-- The image that is written of files: its lines in the order of their paths' bytes.
use Rattle.std.specs.Prelude.{ℕ, ◌++◌, List, [], ◌∷◌, codes}
use Rattle.std.specs.FinMap as map
use Rattle.sh_files_image.specs.Writing.{paths_text}
use Rattle.sh_files.specs.Nodes.{FileMap}

abbrev pub last_line : List ℕ
last_line = codes "end" ++ 10 ∷ []

-- the whole image
abbrev pub image_text : FileMap → List ℕ
image_text files = codes "psh image 1" ++ 10 ∷ (paths_text files.nodes (map.entries files.paths) ++ last_line)

-- What an image has of paths and their nodes.
use Rattle.std.specs.Prelude.{ℕ, ◌++◌, List, [], ◌∷◌, if◌then◌else◌, Option, Some, None, slice_get}
use Rattle.sh_files_image.specs.Places.{Entries}
use Rattle.sh_files_image.specs.Texts.{is_left_out, node_text}
use Rattle.sh_files_image.specs.declared.node.Node.{Node}

abbrev pub found_text : List ℕ → Option Node → List ℕ
found_text path None = []
found_text path (Some node) = node_text path node

-- what the image has of one path
abbrev pub path_text : List Node → List ℕ × ℕ → List ℕ
path_text nodes e = if is_left_out e.0 then [] else found_text e.0 (slice_get nodes e.1)

abbrev pub paths_text : List Node → Entries → List ℕ
paths_text nodes [] = []
paths_text nodes (e ∷ es) = path_text nodes e ++ paths_text nodes es

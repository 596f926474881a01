-- Which files an image can hold.
use Rattle.std.specs.Prelude.{◌≡◌, ℕ, ◌<◌, ◌==◌, List, Bool, true, false, Some, length}
use Rattle.std.specs.List.{list_any}
use Rattle.std.specs.FinMap.{get}
use Rattle.sh_files_image.specs.Paths.{is_image_path, parent}
use Rattle.sh_files_image.specs.Texts.{is_left_out}
use Rattle.sh_files_image.specs.declared.node.Node.{Node}
use Rattle.sh_files_image.specs.declared.node.Node.TheVariants.{Directory, File, Null, Terminal}
use Rattle.sh_files.specs.Nodes.{FileMap, node_at, starting}
use Rattle.sh_files.specs.Image.{is_directory}

-- a directory or a regular file
abbrev pub is_kept : Node → Bool
is_kept Directory = true
is_kept (File file) = true
is_kept Null = false
is_kept Terminal = false

-- a path that an image may have: one that it may name, without a newline, in a directory, and of no device
pub record IsPlaced (files : FileMap) (path : List ℕ) (node : Node) : Type 0 where
  pub named : is_image_path path ≡ true
  pub one_line : list_any (λ b. b == 10) path ≡ false
  pub held : is_directory (node_at files (parent path)) ≡ true
  pub kept : is_kept node ≡ true

-- each path is that of the root or a device, which are as at the start, or one that an image may have
pub record IsWhole (files : FileMap) : Type 0 where
  pub there : (path : List ℕ) → is_left_out path ≡ true → node_at files path ≡ node_at starting path
  pub placed : (path : List ℕ) (node : Node) → is_left_out path ≡ false → node_at files path ≡ Some node → IsPlaced files path node
  pub numbered : (path : List ℕ) (n : ℕ) → get files.paths path ≡ Some n → n < length files.nodes

-- the same node at each path; their numbers may differ
abbrev pub AreSame : FileMap → FileMap → Type 0
AreSame a b = (path : List ℕ) → node_at a path ≡ node_at b path

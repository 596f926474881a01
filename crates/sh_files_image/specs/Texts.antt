-- The lines that an image has for nodes.
use Rattle.std.specs.Prelude.{ℕ, ◌++◌, List, [], ◌∷◌, ◌||◌, Bool, if◌then◌else◌, codes, decimal, length}
use Rattle.std.specs.Str.{bytes_eq}
use Rattle.sh_files_image.specs.Contents.{Regular}
use Rattle.sh_files_image.specs.Paths.{is_device}
use Rattle.sh_files_image.specs.declared.node.Flags.{Flags}
use Rattle.sh_files_image.specs.declared.node.Node.{Node}
use Rattle.sh_files_image.specs.declared.node.Node.TheVariants.{Directory, File, Null, Terminal}

-- a flag's letter, or a hyphen
abbrev pub flag_text : ℕ → Bool → ℕ
flag_text letter flag = if flag then letter else 45

abbrev pub flags_text : Flags → List ℕ
flags_text flags = flag_text 114 flags.read ∷ flag_text 119 flags.write ∷ flag_text 120 flags.execute ∷ []

abbrev pub directory_line : List ℕ → List ℕ
directory_line path = codes "dir " ++ path

abbrev pub file_line : List ℕ → Regular → List ℕ
file_line path file = codes "file " ++ (path ++ 32 ∷ (flags_text file.flags ++ 32 ∷ decimal (length file.bytes)))

-- a line for a directory; for a file a line, its bytes and a newline; nothing for a device
abbrev pub node_text : List ℕ → Node → List ℕ
node_text path Directory = directory_line path ++ 10 ∷ []
node_text path (File file) = file_line path file ++ 10 ∷ (file.bytes ++ 10 ∷ [])
node_text path Null = []
node_text path Terminal = []

-- the root and the devices are in no image
abbrev pub is_left_out : List ℕ → Bool
is_left_out path = bytes_eq path (codes "/") || is_device path

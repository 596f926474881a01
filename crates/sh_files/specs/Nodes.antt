-- The files: a map from path to node. A node has a number that stays its own; numbers go up from 0 by creation.
use Rattle.std.specs.Prelude.{ℕ, ◌+◌, ◌++◌, List, [], ◌∷◌, ◌&&◌, ◌||◌, ◌==◌, not, Bool, true, false, if◌then◌else◌, Option, Some, None, Result, Ok, Err, codes, length, nat_eq, nat_le, set, slice_get, take, drop}
use Rattle.std.specs.Option.{option_and_then}
use Rattle.std.specs.List.{list_any, starts_with}
use Rattle.std.specs.FinMap.{entries, get, insert}
use Rattle.sh_files_image.specs.Listing.{prefix_of, names_in}
use Rattle.sh_files_image.specs.Paths.{PathMap, absolute, components, fits, next_place}
use Rattle.sh_files_image.specs.Starting.{starting_paths}
use Rattle.sh_files_image.specs.Contents.{Regular, content_after_write}
use Rattle.sh_files_image.specs.declared.node.Flags.{Flags}
use Rattle.sh_files_image.specs.declared.node.Node.{Node}
use Rattle.sh_files_image.specs.declared.node.Node.TheVariants.{Directory, File, Null, Terminal}
use Rattle.sh_files.specs.declared.fault.FileFault.{FileFault}
use Rattle.sh_files.specs.declared.fault.FileFault.TheVariants.{NoEntry, NoAccess, IsDirectory, NotDirectory, Exists, BadNumber, TooLarge}
use Rattle.sh_files.specs.declared.opening.Opening.{Opening}

pub record FileMap : Type 0 where
  pub paths : PathMap
  pub nodes : List Node

-- the root, and the devices that are there from the start
unfoldable pub starting : FileMap
starting = record { paths = starting_paths; nodes = Directory ∷ Directory ∷ Null ∷ Terminal ∷ [] }

-- the node at a path
abbrev pub node_at : FileMap → List ℕ → Option Node
node_at files place = option_and_then (λ n. slice_get files.nodes n) (get files.paths place)

-- ---- the absolute path of what a path names (XBD 4.16)
-- a component is looked for in a directory
abbrev pub entrance : Option Node → Result (Unit {0}) FileFault
entrance None = Err NoEntry
entrance (Some Directory) = Ok tt
entrance (Some (File file)) = Err NotDirectory
entrance (Some Null) = Err NotDirectory
entrance (Some Terminal) = Err NotDirectory

abbrev pub behind_entrance : Result (Unit {0}) FileFault → Result (List ℕ) FileFault → Result (List ℕ) FileFault
behind_entrance (Ok _) next = next
behind_entrance (Err fault) next = Err fault

-- from a place, component by component; what the last one names need not be there
abbrev pub walk_end : FileMap → List ℕ → List (List ℕ) → Result (List ℕ) FileFault
walk_end files place [] = Ok place
walk_end files place (name ∷ names) = behind_entrance (entrance (node_at files place)) (walk_end files (next_place place name) names)

-- an empty path names nothing
abbrev pub is_empty : List ℕ → Bool
is_empty [] = true
is_empty (b ∷ bs) = false

abbrev pub resolution : FileMap → List ℕ → List ℕ → Result (List ℕ) FileFault
resolution files directory path =
    if is_empty path || not (fits directory path) then Err NoEntry
    else walk_end files (codes "/") (components (absolute directory path))

-- ---- opening (XSH open)
-- the flags of a file allow what it is opened for
abbrev pub allows : Flags → Opening → Bool
allows flags how = (flags.read || not how.read) && (flags.write || not (how.write || how.truncate))

-- the file's node after it was opened, which may empty it
abbrev pub file_after_open : Regular → Opening → Regular
file_after_open file how = if how.truncate then record file { bytes = [] } else file

-- the node after it was opened
abbrev pub node_opened : Opening → Node → Result Node FileFault
node_opened how Directory = Err IsDirectory
node_opened how (File file) =
    if how.exclusive then Err Exists
    else if allows file.flags how then Ok (File (file_after_open file how))
    else Err NoAccess
node_opened how Null = Ok Null
node_opened how Terminal = Ok Terminal

-- another node under this number, unless that was refused
abbrev pub with_node : FileMap → ℕ → Result Node FileFault → Result FileMap FileFault
with_node files n (Ok node) = Ok (record files { nodes = set files.nodes n node })
with_node files n (Err fault) = Err fault

abbrev pub number_and_files : ℕ → Result FileMap FileFault → Result (ℕ × FileMap) FileFault
number_and_files n (Ok files) = Ok (n, files)
number_and_files n (Err fault) = Err fault

abbrev pub open_node : FileMap → Opening → ℕ → Option Node → Result FileMap FileFault
open_node files how n None = Err NoEntry
open_node files how n (Some node) = with_node files n (node_opened how node)

-- no file is made in /dev, nor one whose path has a newline or NUL
abbrev pub may_create : List ℕ → Bool
may_create place =
    not (starts_with nat_eq place (codes "/dev/")) && (not (list_any (λ b. b == 10) place) && not (list_any (λ b. b == 0) place))

-- a file that is made with these bytes may be read and written
abbrev pub new_file_of : List ℕ → Node
new_file_of bytes = File (record { flags = record { read = true; write = true; execute = false }; bytes = bytes })

abbrev pub new_file : Node
new_file = new_file_of []

-- one more node, at this path
abbrev pub with_new : FileMap → List ℕ → Node → FileMap
with_new files place node = record { paths = insert files.paths place (length files.nodes); nodes = files.nodes ++ node ∷ [] }

abbrev pub file_creation : FileMap → List ℕ → Opening → Result (ℕ × FileMap) FileFault
file_creation files place how =
    if not how.create then Err NoEntry
    else if may_create place then Ok (length files.nodes, with_new files place new_file)
    else Err NoAccess

abbrev pub open_number : FileMap → List ℕ → Opening → Option ℕ → Result (ℕ × FileMap) FileFault
open_number files place how None = file_creation files place how
open_number files place how (Some n) = number_and_files n (open_node files how n (slice_get files.nodes n))

abbrev pub open_place : FileMap → Opening → Result (List ℕ) FileFault → Result (ℕ × FileMap) FileFault
open_place files how (Err fault) = Err fault
open_place files how (Ok place) = open_number files place how (get files.paths place)

-- the number of what is opened, and the files then; lengths are tried first, then the components from the left, then
-- whether it is a directory, whether it is there already, and the flags
abbrev pub opened : FileMap → List ℕ → List ℕ → Opening → Result (ℕ × FileMap) FileFault
opened files directory path how = open_place files how (resolution files directory path)

-- ---- files that no path names, as a here-document (XCU 2.7.4)
-- one more node, at no path
abbrev pub with_nameless : FileMap → Node → FileMap
with_nameless files node = record files { nodes = files.nodes ++ node ∷ [] }

-- a new file of these bytes, with its number; a file has at most 2^30 bytes
abbrev pub nameless : FileMap → List ℕ → Result (ℕ × FileMap) FileFault
nameless files bytes =
    if nat_le (length bytes) 1073741824 then Ok (length files.nodes, with_nameless files (new_file_of bytes))
    else Err TooLarge

-- ---- reading and writing (XSH read, write)
abbrev pub content_of : Option Node → ℕ → ℕ → Result (List ℕ) FileFault
content_of None offset count = Err BadNumber
content_of (Some Directory) offset count = Err BadNumber
content_of (Some (File file)) offset count = Ok (take count (drop offset file.bytes))
content_of (Some Null) offset count = Ok []
content_of (Some Terminal) offset count = Err BadNumber

-- up to so many bytes from a place on
abbrev pub read_at : FileMap → ℕ → ℕ → ℕ → Result (List ℕ) FileFault
read_at files n offset count = content_of (slice_get files.nodes n) offset count

-- a file has at most 2^30 bytes
abbrev pub write_fits : ℕ → List ℕ → Bool
write_fits offset bytes = is_empty bytes || nat_le (offset + length bytes) 1073741824

-- the node after a write at a place
abbrev pub node_written : ℕ → List ℕ → Node → Result Node FileFault
node_written offset bytes Directory = Err BadNumber
node_written offset bytes (File file) =
    if write_fits offset bytes then Ok (File (record file { bytes = content_after_write file.bytes offset bytes }))
    else Err TooLarge
node_written offset bytes Null = Ok Null
node_written offset bytes Terminal = Err BadNumber

-- the node after its bytes from a place on were dropped
abbrev pub node_truncated : ℕ → Node → Result Node FileFault
node_truncated count Directory = Err BadNumber
node_truncated count (File file) = Ok (File (record file { bytes = take count file.bytes }))
node_truncated count Null = Ok Null
node_truncated count Terminal = Err BadNumber

abbrev pub write_node : FileMap → ℕ → ℕ → List ℕ → Option Node → Result FileMap FileFault
write_node files n offset bytes None = Err BadNumber
write_node files n offset bytes (Some node) = with_node files n (node_written offset bytes node)

-- a write of all these bytes at a place
abbrev pub write_at : FileMap → ℕ → ℕ → List ℕ → Result FileMap FileFault
write_at files n offset bytes = write_node files n offset bytes (slice_get files.nodes n)

abbrev pub truncate_node : FileMap → ℕ → ℕ → Option Node → Result FileMap FileFault
truncate_node files n count None = Err BadNumber
truncate_node files n count (Some node) = with_node files n (node_truncated count node)

-- the bytes from a place on are dropped
abbrev pub truncation : FileMap → ℕ → ℕ → Result FileMap FileFault
truncation files n count = truncate_node files n count (slice_get files.nodes n)

-- ---- what a path names
abbrev pub found_at : FileMap → Result (List ℕ) FileFault → Option Node
found_at files (Err fault) = None
found_at files (Ok place) = node_at files place

-- the node that a path names, which is followed as for opening
abbrev pub node_of_path : FileMap → List ℕ → List ℕ → Option Node
node_of_path files directory path = found_at files (resolution files directory path)

-- ---- what may be run (XCU 2.9.1.4)
abbrev pub runs : Option Node → Bool
runs None = false
runs (Some Directory) = false
runs (Some (File file)) = file.flags.execute
runs (Some Null) = false
runs (Some Terminal) = false

-- a path names a regular file that may be executed
abbrev pub is_executable : FileMap → List ℕ → List ℕ → Bool
is_executable files directory path = runs (node_of_path files directory path)

-- ---- the names in a directory (XSH readdir, without dot and dot-dot)
abbrev pub names_at : FileMap → List ℕ → Result (Unit {0}) FileFault → Result (List (List ℕ)) FileFault
names_at files place (Ok _) = Ok (names_in (prefix_of place) (entries files.paths))
names_at files place (Err fault) = Err fault

abbrev pub list_place : FileMap → Result (List ℕ) FileFault → Result (List (List ℕ)) FileFault
list_place files (Err fault) = Err fault
list_place files (Ok place) = names_at files place (entrance (node_at files place))

-- the names in the directory that a path names, in the order of their paths' bytes
abbrev pub directory_names : FileMap → List ℕ → List ℕ → Result (List (List ℕ)) FileFault
directory_names files directory path = list_place files (resolution files directory path)

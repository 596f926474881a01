-- The search for a command (XCU 2.9.1.4) and for a dot script (2.15 dot), by the variable PATH (XBD 8.3).
use Rattle.std.specs.Prelude.{ℕ, List, [], ◌∷◌, ◌++◌, ◌+◌, ◌&&◌, ◌==◌, Bool, true, false, Option, Some, None, codes, drop, find, if◌then◌else◌, length, map, nat_eq, nat_le, position, take}
use Rattle.std.specs.Option.{option_or}
use Rattle.std.specs.List.{ends_with, list_any, slice_split, starts_with}
use Rattle.sh_files.specs.declared.search.Located.{Located}
use Rattle.sh_files.specs.declared.search.Located.TheVariants.{Missing, Unfit, Stock, Script}
use Rattle.sh_files.specs.Nodes.{FileMap, is_executable, node_of_path}
use Rattle.sh_files_image.specs.Contents.{Regular}
use Rattle.sh_files_image.specs.declared.node.Node.{Node}
use Rattle.sh_files_image.specs.declared.node.Node.TheVariants.{Directory, File, Null, Terminal}

-- ---- what a file is that may be executed
-- the text of a line: what is before its newline, which is the last byte and the only newline; none for an
-- empty line
abbrev pub line_by : List ℕ → Option ℕ → Option (List ℕ)
line_by text None = None
line_by text (Some at) = if nat_le 1 at && nat_eq (at + 1) (length text) then Some (take at text) else None

abbrev pub line_of : List ℕ → Option (List ℕ)
line_of text = line_by text (position (λ b. b == 10) text)

-- the name in a file that is the one line `#!stock NAME`
abbrev pub stock_name : List ℕ → Option (List ℕ)
stock_name text = if starts_with nat_eq text (codes "#!stock ") then line_of (drop 8 text) else None

-- any other file is the text of a script, which has to be readable, and of at most 2^24 bytes
abbrev pub may_be_read : Regular → Bool
may_be_read file = file.flags.read && nat_le (length file.bytes) 16777216

abbrev pub script_of : List ℕ → Regular → Located
script_of path file = if may_be_read file then Script path file.bytes else Unfit

abbrev pub program_by : List ℕ → Regular → Option (List ℕ) → Located
program_by path file (Some name) = Stock name
program_by path file None = script_of path file

abbrev pub program_of : List ℕ → Regular → Located
program_of path file = program_by path file (stock_name file.bytes)

-- ---- a path
-- what a path leads to: only a regular file with the flag x can be executed
abbrev pub node_leads : List ℕ → Option Node → Located
node_leads path None = Missing
node_leads path (Some Directory) = Unfit
node_leads path (Some (File file)) = if file.flags.execute then program_of path file else Unfit
node_leads path (Some Null) = Unfit
node_leads path (Some Terminal) = Unfit

-- the path is one from the working directory, unless it begins with a slash
unfoldable pub path_leads : FileMap → List ℕ → List ℕ → Located
path_leads files directory path = node_leads path (node_of_path files directory path)

-- ---- the search
-- the elements of PATH, with a colon between each two
abbrev pub elements : List ℕ → List (List ℕ)
elements value = slice_split (λ b. b == 58) value

-- a slash stands between an element and a name; an element that ends with one gets no other
abbrev pub with_slash : (element : List ℕ) → List ℕ
with_slash element = if ends_with nat_eq element (codes "/") then element else element ++ 47 ∷ []

-- the path of a name in an element; an empty element is the working directory
abbrev pub path_in : List ℕ → List ℕ → List ℕ
path_in name [] = name
path_in name (b ∷ bs) = with_slash (b ∷ bs) ++ name

-- the paths that are tried, in order; none where PATH is unset
abbrev pub candidate_paths : Option (List ℕ) → List ℕ → List (List ℕ)
candidate_paths None name = []
candidate_paths (Some value) name = map (path_in name) (elements value)

abbrev pub is_regular : Option Node → Bool
is_regular None = false
is_regular (Some Directory) = false
is_regular (Some (File file)) = true
is_regular (Some Null) = false
is_regular (Some Terminal) = false

-- a path names a regular file
abbrev pub names_regular : FileMap → List ℕ → List ℕ → Bool
names_regular files directory path = is_regular (node_of_path files directory path)

-- where no path names a file that can be executed (126 and 127)
abbrev pub not_executed : Bool → Located
not_executed true = Unfit
not_executed false = Missing

abbrev pub found_by : FileMap → List ℕ → List (List ℕ) → Option (List ℕ) → Located
found_by files directory paths (Some path) = path_leads files directory path
found_by files directory paths None = not_executed (list_any (names_regular files directory) paths)

-- the first path that names a regular file with the flag x is taken
unfoldable pub program_among : FileMap → List ℕ → List (List ℕ) → Located
program_among files directory paths = found_by files directory paths (find (is_executable files directory) paths)

-- ---- a command's name
abbrev pub has_slash : List ℕ → Bool
has_slash name = list_any (λ b. b == 47) name

-- a name with a slash is a path, and isn't searched for
unfoldable pub located_of : FileMap → (directory : List ℕ) → (elements : Option (List ℕ)) → List ℕ → Located
located_of files directory elements name =
    if has_slash name then path_leads files directory name
    else program_among files directory (candidate_paths elements name)

-- where a name leads: the path of the file that may be executed
abbrev pub paths_of : Option (List ℕ) → List ℕ → List (List ℕ)
paths_of elements name = if has_slash name then name ∷ [] else candidate_paths elements name

unfoldable pub executable_path : FileMap → (directory : List ℕ) → (elements : Option (List ℕ)) → List ℕ → Option (List ℕ)
executable_path files directory elements name = find (is_executable files directory) (paths_of elements name)

-- ---- a dot script
-- the text of a file that may be read as a script; the null device is empty
abbrev pub readable_text : Option Node → Option (List ℕ)
readable_text None = None
readable_text (Some Directory) = None
readable_text (Some (File file)) = if may_be_read file then Some file.bytes else None
readable_text (Some Null) = Some []
readable_text (Some Terminal) = None

abbrev pub text_at : FileMap → List ℕ → List ℕ → Option (List ℕ)
text_at files directory path = readable_text (node_of_path files directory path)

-- of the first path that names such a file
abbrev pub first_text : FileMap → List ℕ → List (List ℕ) → Option (List ℕ)
first_text files directory [] = None
first_text files directory (path ∷ paths) = option_or (text_at files directory path) (first_text files directory paths)

-- a name with a slash is a path, and isn't searched for
unfoldable pub dot_script : FileMap → (directory : List ℕ) → (elements : Option (List ℕ)) → List ℕ → Option (List ℕ)
dot_script files directory elements name =
    if has_slash name then text_at files directory name
    else first_text files directory (candidate_paths elements name)

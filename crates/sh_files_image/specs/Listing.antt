-- The names that a directory holds.
use Rattle.std.specs.Prelude.{ℕ, ◌++◌, List, [], ◌∷◌, ◌&&◌, Bool, true, not, if◌then◌else◌, Option, Some, None, codes, nat_eq, option_to_list}
use Rattle.std.specs.List.{starts_with}
use Rattle.std.specs.Ordering.{is_lt, nat_cmp}
use Rattle.std.specs.Cmp.Lexicographic.{slice_cmp}
use Rattle.std.specs.Str.{bytes_eq}
use Rattle.sh_files_image.specs.Fields.{behind}
use Rattle.sh_files_image.specs.Paths.{has_slash}
use Rattle.sh_files_image.specs.Places.{Entries}

-- what the paths below a directory begin with
abbrev pub prefix_of : List ℕ → List ℕ
prefix_of place = if bytes_eq place (codes "/") then codes "/" else place ++ 47 ∷ []

-- a name isn't empty and has no slash
abbrev pub is_filename : List ℕ → Bool
is_filename name = not (bytes_eq name []) && not (has_slash name)

abbrev pub name_if : Option (List ℕ) → Option (List ℕ)
name_if None = None
name_if (Some name) = if is_filename name then Some name else None

-- the name that a path has in a directory: what follows, if that is a name
abbrev pub name_in : List ℕ → List ℕ → Option (List ℕ)
name_in prefix path = name_if (behind prefix path)

-- the names of these paths in a directory
abbrev pub names_in : List ℕ → Entries → List (List ℕ)
names_in prefix [] = []
names_in prefix (e ∷ es) = option_to_list (name_in prefix e.0) ++ names_in prefix es

-- ---- parts of a list in order
-- what is left from the first path on that doesn't come before this text
abbrev pub from : List ℕ → Entries → Entries
from prefix [] = []
from prefix (e ∷ es) = if is_lt (slice_cmp nat_cmp e.0 prefix) then from prefix es else e ∷ es

-- what is left after the paths at the front that begin with this text
abbrev pub past : List ℕ → Entries → Entries
past prefix [] = []
past prefix (e ∷ es) = if starts_with nat_eq e.0 prefix then past prefix es else e ∷ es

-- no path comes before this text
abbrev pub none_before : List ℕ → Entries → Bool
none_before prefix [] = true
none_before prefix (e ∷ es) = not (is_lt (slice_cmp nat_cmp e.0 prefix)) && none_before prefix es

-- ---- names in the order of their bytes, each once
abbrev pub comes_before : List ℕ → List (List ℕ) → Bool
comes_before name [] = true
comes_before name (x ∷ xs) = is_lt (slice_cmp nat_cmp name x) && comes_before name xs

abbrev pub rise : List (List ℕ) → Bool
rise [] = true
rise (x ∷ xs) = comes_before x xs && rise xs

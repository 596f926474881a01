-- Pathname expansion (XCU 2.6.6, 2.14.3): the paths in the map of files that match component by component, in
-- the order of their bytes; where none does, the field itself without its quotes.
use Rattle.std.specs.Prelude.{◌≡◌, ℕ, List, [], ◌∷◌, ◌++◌, ◌==◌, ◌&&◌, ◌||◌, ◌⊎◌, ◌↔◌, ⊤, Bool, true, false, not, codes, map, Option, Some, None, Result, Ok, Err, if◌then◌else◌}
use Rattle.std.specs.List.{join_with_byte, list_any, slice_split}
use Rattle.std.specs.List.Sorted.{IsStrictlySortedBy}
use Rattle.std.specs.Ordering.{nat_cmp}
use Rattle.std.specs.Str.{bytes_eq}
use Rattle.std.specs.Cmp.Lexicographic.{slice_cmp}
use Rattle.sh_files_image.specs.Paths.{has_slash}
use Rattle.sh_files.specs.Nodes.{FileMap, directory_names}
use Rattle.sh_files.specs.declared.fault.FileFault.{FileFault}
use Rattle.sh_pattern.specs.declared.pattern_byte.PatternByte.{PatternByte}
use Rattle.sh_pattern.specs.Items.{byte_of, is_bare}
use Rattle.sh_pattern.specs.Match.{Matches}
use Rattle.sh_expand_fields.specs.declared.item.Item.{Item}
use Rattle.sh_expand_fields.specs.Text.{marks_of, text_of}

-- this text is one of the list
abbrev pub IsOne : List ℕ → List (List ℕ) → Type 0
IsOne t [] = ⊥
IsOne t (x ∷ xs) = (t ≡ x) ⊎ IsOne t xs

-- ---- the components of a pattern
-- a slash separates components, also a quoted one
abbrev pub is_slash : PatternByte → Bool
is_slash m = m.byte == 47

abbrev pub components_of : List PatternByte → List (List PatternByte)
components_of pattern = slice_split is_slash pattern

-- an unquoted `*` or `?`
abbrev pub is_wildcard : PatternByte → Bool
is_wildcard m = is_bare 42 m || is_bare 63 m

abbrev pub is_closing : PatternByte → Bool
is_closing m = is_bare 93 m

-- an unquoted `[` with an unquoted `]` after it
abbrev pub has_bracket : List PatternByte → Bool
has_bracket [] = false
has_bracket (m ∷ ms) = if is_bare 91 m then list_any is_closing ms else has_bracket ms

-- a component is a pattern where it has an unquoted `*`, `?` or bracket
abbrev pub is_pattern : List PatternByte → Bool
is_pattern c = list_any is_wildcard c || has_bracket c

abbrev pub begins_with_dot_mark : List PatternByte → Bool
begins_with_dot_mark [] = false
begins_with_dot_mark (m ∷ ms) = m.byte == 46

abbrev pub begins_with_dot : List ℕ → Bool
begins_with_dot [] = false
begins_with_dot (b ∷ bs) = b == 46

-- a pattern matches neither dot nor dot-dot, and a leading period only where the pattern begins with a period
abbrev pub may_match : List PatternByte → List ℕ → Bool
may_match c name =
    (not (bytes_eq name []) && (not (has_slash name) && (not (bytes_eq name (codes ".")) && not (bytes_eq name (codes "..")))))
    && (not (begins_with_dot name) || begins_with_dot_mark c)

-- a component matches a name; a component that is no pattern matches just the name that it is
abbrev pub IsNamedIf : Bool → List PatternByte → List ℕ → Type 0
IsNamedIf true c name = (may_match c name ≡ true) × Matches c name
IsNamedIf false c name = name ≡ map byte_of c

abbrev pub IsNamed : List PatternByte → List ℕ → Type 0
IsNamed c name = IsNamedIf (is_pattern c) c name

-- each component matches its name
abbrev pub AreNamed : List (List PatternByte) → List (List ℕ) → Type 0
AreNamed [] [] = ⊤
AreNamed [] (n ∷ ns) = ⊥
AreNamed (c ∷ cs) [] = ⊥
AreNamed (c ∷ cs) (n ∷ ns) = IsNamed c n × AreNamed cs ns

-- ---- the paths that are there
-- what is before the last component names a directory; where nothing is, that is the working directory
abbrev pub or_here : List ℕ → List ℕ
or_here [] = codes "."
or_here (b ∷ bs) = b ∷ bs

abbrev pub if_listed : Result (List (List ℕ)) FileFault → Option (List (List ℕ))
if_listed (Ok names) = Some names
if_listed (Err fault) = None

-- the names in that directory, if there is one
abbrev pub names_behind : FileMap → List ℕ → List ℕ → Option (List (List ℕ))
names_behind files directory before = if_listed (directory_names files directory (or_here before))

-- an empty component, dot and dot-dot are in each directory
abbrev pub is_always_there : List ℕ → Bool
is_always_there name = bytes_eq name [] || (bytes_eq name (codes ".") || bytes_eq name (codes ".."))

abbrev pub IsIn : Option (List (List ℕ)) → List ℕ → Type 0
IsIn None name = ⊥
IsIn (Some names) name = (is_always_there name ≡ true) ⊎ IsOne name names

-- the path of these names, after the prefix `before`, is there: the last name is in the directory that all
-- before it names
abbrev pub IsThere : FileMap → List ℕ → List ℕ → List (List ℕ) → Type 0
IsThere files directory before [] = ⊥
IsThere files directory before (n ∷ []) = IsIn (names_behind files directory before) n
IsThere files directory before (n ∷ m ∷ ns) = IsThere files directory (before ++ (n ++ 47 ∷ [])) (m ∷ ns)

-- ---- pathname expansion
-- a path that is there, of names that the components of a pattern match
abbrev pub IsFound : FileMap → List ℕ → List PatternByte → List ℕ → Type 0
IsFound files directory pattern t =
    (names : List (List ℕ)) × AreNamed (components_of pattern) names × IsThere files directory [] names × (t ≡ join_with_byte 47 names)

-- such a path, where some component is a pattern
abbrev pub IsMatched : FileMap → List ℕ → List PatternByte → List ℕ → Type 0
IsMatched files directory pattern t = (list_any is_pattern (components_of pattern) ≡ true) × IsFound files directory pattern t

abbrev pub or_itself : List (List ℕ) → List ℕ → List (List ℕ)
or_itself [] text = text ∷ []
or_itself (p ∷ ps) text = p ∷ ps

-- all paths that match, each once, in the order of their bytes; the field itself where there is none
abbrev pub IsExpanded : FileMap → List ℕ → List Item → List (List ℕ) → Type 0
IsExpanded files directory field paths =
    (found : List (List ℕ)) × IsStrictlySortedBy (slice_cmp nat_cmp) found
    × ((t : List ℕ) → IsOne t found ↔ IsMatched files directory (marks_of field) t)
    × (paths ≡ or_itself found (text_of field))

-- Pathname expansion (XCU 2.6.6) as a function, component by component from the first. The law
-- 'pathnames_are_computed' ties it to 'IsExpanded'.
use Rattle.std.specs.Prelude.{ℕ, List, [], ◌∷◌, ◌++◌, ◌&&◌, ◌||◌, Bool, true, false, map, Option, Some, None, if◌then◌else◌}
use Rattle.std.specs.List.{filter, flat_map, list_any}
use Rattle.std.specs.Ordering.{nat_cmp}
use Rattle.std.specs.declared.cmp.Ordering.{Ordering}
use Rattle.std.specs.declared.cmp.Ordering.TheVariants.{Less, Equal, Greater}
use Rattle.std.specs.Str.{bytes_eq}
use Rattle.std.specs.Cmp.Lexicographic.{slice_cmp}
use Rattle.sh_files.specs.Nodes.{FileMap}
use Rattle.sh_pattern.specs.declared.pattern_byte.PatternByte.{PatternByte}
use Rattle.sh_pattern.specs.Deciding.{is_match}
use Rattle.sh_pattern.specs.Items.{byte_of}
use Rattle.sh_expand_fields.specs.declared.item.Item.{Item}
use Rattle.sh_expand_fields.specs.Pathnames.{components_of, is_always_there, is_pattern, may_match, names_behind, or_itself}
use Rattle.sh_expand_fields.specs.Text.{marks_of, text_of}

-- ---- what a component leads to after a prefix
abbrev pub takes : List PatternByte → List ℕ → Bool
takes c name = may_match c name && is_match c name

abbrev pub or_no_names : Option (List (List ℕ)) → List (List ℕ)
or_no_names None = []
or_no_names (Some names) = names

abbrev pub behind : List ℕ → List ℕ → List ℕ → List ℕ
behind before end name = before ++ (name ++ end)

-- the names of a directory that a pattern takes
abbrev pub matching_names : FileMap → List ℕ → List ℕ → List PatternByte → List (List ℕ)
matching_names files directory before c = filter (takes c) (or_no_names (names_behind files directory before))

abbrev pub prefixes_if : Bool → FileMap → List ℕ → List PatternByte → List ℕ → List (List ℕ)
prefixes_if true files directory c before = map (behind before (47 ∷ [])) (matching_names files directory before c)
prefixes_if false files directory c before = behind before (47 ∷ []) (map byte_of c) ∷ []

-- a component before the last, with a slash after it
abbrev pub prefixes_behind : FileMap → List ℕ → List PatternByte → List ℕ → List (List ℕ)
prefixes_behind files directory c before = prefixes_if (is_pattern c) files directory c before

abbrev pub is_one : List ℕ → List (List ℕ) → Bool
is_one t [] = false
is_one t (x ∷ xs) = bytes_eq t x || is_one t xs

abbrev pub is_in : Option (List (List ℕ)) → List ℕ → Bool
is_in None name = false
is_in (Some names) name = is_always_there name || is_one name names

abbrev pub paths_if : Bool → FileMap → List ℕ → List PatternByte → List ℕ → List (List ℕ)
paths_if true files directory c before = map (behind before []) (matching_names files directory before c)
paths_if false files directory c before =
    if is_in (names_behind files directory before) (map byte_of c) then behind before [] (map byte_of c) ∷ [] else []

-- the last component
abbrev pub paths_behind : FileMap → List ℕ → List PatternByte → List ℕ → List (List ℕ)
paths_behind files directory c before = paths_if (is_pattern c) files directory c before

-- what components lead to after some prefixes
abbrev pub paths_from : FileMap → List ℕ → List (List ℕ) → List (List PatternByte) → List (List ℕ)
paths_from files directory prefixes [] = []
paths_from files directory prefixes (c ∷ []) = flat_map (paths_behind files directory c) prefixes
paths_from files directory prefixes (c ∷ d ∷ cs) = paths_from files directory (flat_map (prefixes_behind files directory c) prefixes) (d ∷ cs)

-- ---- in the order of the bytes, each once
abbrev pub insert_by : Ordering → List ℕ → List ℕ → List (List ℕ) → List (List ℕ) → List (List ℕ)
insert_by Less t x xs inserted = t ∷ x ∷ xs
insert_by Equal t x xs inserted = x ∷ xs
insert_by Greater t x xs inserted = x ∷ inserted

abbrev pub insert : List ℕ → List (List ℕ) → List (List ℕ)
insert t [] = t ∷ []
insert t (x ∷ xs) = insert_by (slice_cmp nat_cmp t x) t x xs (insert t xs)

abbrev pub sorted_paths : List (List ℕ) → List (List ℕ)
sorted_paths [] = []
sorted_paths (t ∷ ts) = insert t (sorted_paths ts)

-- ---- the paths that match a field
abbrev pub matching_paths : FileMap → List ℕ → List PatternByte → List (List ℕ)
matching_paths files directory pattern =
    if list_any is_pattern (components_of pattern) then sorted_paths (paths_from files directory ([] ∷ []) (components_of pattern)) else []

unfoldable pub pathnames : FileMap → (directory : List ℕ) → List Item → List (List ℕ)
pathnames files directory field = or_itself (matching_paths files directory (marks_of field)) (text_of field)

-- Paths (XBD 4.16): their components, and the absolute path of what a path names, component by component.
use Rattle.std.specs.Prelude.{ℕ, List, [], ◌∷◌, ◌++◌, ◌==◌, ◌&&◌, ◌||◌, Bool, true, false, not, if◌then◌else◌, codes, length, nat_eq, nat_le, max, suc, take, drop, ◌+◌, Option, option_map, position}
use Rattle.std.specs.List.{list_any, slice_split, starts_with}
use Rattle.std.specs.Ordering.{nat_cmp}
use Rattle.std.specs.Str.{bytes_eq}
use Rattle.std.specs.Cmp.Lexicographic.{slice_cmp}
use Rattle.std.specs.FinMap.{FinMap}

-- the number of the node at each path; a path is `/`, or a slash and a name for each level
abbrev pub PathMap : Type 0
PathMap = FinMap (slice_cmp nat_cmp) ℕ

-- the parts between the slashes
abbrev pub components : List ℕ → List (List ℕ)
components path = slice_split (λ b. b == 47) path

-- what is before the first slash, and what is after it
abbrev pub path_split : List ℕ → Option (List ℕ × List ℕ)
path_split path = option_map (λ i. (take i path, drop (i + 1) path)) (position (λ b. b == 47) path)

abbrev pub begins_at_root : List ℕ → Bool
begins_at_root [] = false
begins_at_root (b ∷ bs) = b == 47

abbrev pub has_slash : List ℕ → Bool
has_slash [] = false
has_slash (b ∷ bs) = (b == 47) || has_slash bs

-- the place of the last slash, 0 where there is none
abbrev pub last_slash : List ℕ → ℕ
last_slash [] = 0
last_slash (b ∷ bs) = if has_slash bs then suc (last_slash bs) else 0

-- the directory that holds a path: what is before its last slash, and the root where nothing is before it
abbrev pub parent : List ℕ → List ℕ
parent place = take (max 1 (last_slash place)) place

-- the path of a name in a directory
abbrev pub path_in : List ℕ → List ℕ → List ℕ
path_in place name = if bytes_eq place (codes "/") then 47 ∷ name else place ++ 47 ∷ name

-- a path that doesn't begin with a slash is one from the working directory: `p` is `/p` in `/`, and `/d/p` in `/d`
abbrev pub absolute : List ℕ → List ℕ → List ℕ
absolute directory path = if begins_at_root path then path else path_in directory path

-- names of at most NAME_MAX (255) bytes
abbrev pub names_fit : List (List ℕ) → Bool
names_fit [] = true
names_fit (name ∷ names) = nat_le (length name) 255 && names_fit names

-- the path, as it was given and as an absolute one, has at most PATH_MAX (1024) bytes, its names at most NAME_MAX
abbrev pub fits : List ℕ → List ℕ → Bool
fits directory path =
    nat_le (length path) 1024 && (nat_le (length (absolute directory path)) 1024 && names_fit (components (absolute directory path)))

-- where a component leads from a directory: dot and an empty one stay, dot-dot goes up
abbrev pub next_place : List ℕ → List ℕ → List ℕ
next_place place name =
    if bytes_eq name [] then place
    else if bytes_eq name (codes ".") then place
    else if bytes_eq name (codes "..") then parent place
    else path_in place name

-- ---- the paths of an image
-- a name that an image may have: no dot, no dot-dot, not empty, at most 255 bytes
abbrev pub is_good_name : List ℕ → Bool
is_good_name name =
    not (bytes_eq name []) && (not (bytes_eq name (codes ".")) && (not (bytes_eq name (codes "..")) && nat_le (length name) 255))

abbrev pub good_names : List (List ℕ) → Bool
good_names [] = true
good_names (name ∷ names) = is_good_name name && good_names names

abbrev pub is_device : List ℕ → Bool
is_device path = bytes_eq path (codes "/dev") || starts_with nat_eq path (codes "/dev/")

-- a path that an image may name
abbrev pub is_image_path : List ℕ → Bool
is_image_path path =
    begins_at_root path && (good_names (components (drop 1 path))
    && (not (list_any (λ b. b == 0) path) && (nat_le (length path) 1024 && not (is_device path))))

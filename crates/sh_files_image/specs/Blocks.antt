-- Entries in the order of their paths, in blocks.
use Rattle.std.specs.Prelude.{◌≡◌, ℕ, suc, ◌<◌, ◌++◌, List, [], ◌∷◌, ◌&&◌, Bool, T, true, false, not, Option, Some, None, length, drop, take}
use Rattle.std.specs.List.{list_all}
use Rattle.std.specs.FinMap as map
use Rattle.std.specs.Ordering.{is_gt, is_lt, nat_cmp}
use Rattle.std.specs.Cmp.Lexicographic.{slice_cmp}
use Rattle.sh_files_image.specs.Places.{Entries}

-- the entries of all blocks
abbrev pub flat : List Entries → Entries
flat [] = []
flat (b ∷ bs) = b ++ flat bs

abbrev pub is_filled : Entries → Bool
is_filled [] = false
is_filled (e ∷ es) = true

abbrev pub all_filled : List Entries → Bool
all_filled [] = true
all_filled (b ∷ bs) = is_filled b && all_filled bs

abbrev pub head : Entries → Option (List ℕ × ℕ)
head [] = None
head (e ∷ es) = Some e

-- at least one block, none of them empty, and the entries of all in the order of their paths
pub record AreBlocks (blocks : List Entries) : Type 0 where
  pub rise : T (map.is_sorted (slice_cmp nat_cmp) (flat blocks))
  pub filled : all_filled blocks ≡ true
  pub some : 0 < length blocks

-- the first entry doesn't come after the path
abbrev pub starts_by : List ℕ → Entries → Bool
starts_by path [] = false
starts_by path (e ∷ es) = not (is_gt (slice_cmp nat_cmp e.0 path))

-- the entries in the blocks before this one come before the path, and those in the blocks after this one come
-- after it
pub record IsBlockOf (path : List ℕ) (blocks : List Entries) (i : ℕ) : Type 0 where
  pub before : list_all (λ e. is_lt (slice_cmp nat_cmp e.0 path)) (flat (take i blocks)) ≡ true
  pub behind : list_all (λ e. is_gt (slice_cmp nat_cmp e.0 path)) (flat (drop (suc i) blocks)) ≡ true

-- The names of a path, and paths of one name more.
use Rattle.std.proofs.Common.{◌≡◌, ℕ, suc, ◌+◌, List, [], ◌∷◌, ◌++◌, Bool, true, false, cond, length, refl, sym, ap, ◌∙◌, arith}
use Rattle.std.proofs.Math.Seq.{take-append_seam}
use Rattle.std.specs.Prelude.{◌==◌, ◌&&◌, ◌||◌, codes, max}
use Rattle.std.specs.List.{onto_first, slice_split}
use Rattle.sh_files_image.specs.Paths.{good_names, has_slash, is_good_name, last_slash, parent}

abbrev pub slash : ℕ → Bool
slash b = b == 47

abbrev pub NoSlash : List (List ℕ) → Type 0
NoSlash [] = Unit {0}
NoSlash (x ∷ xs) = (has_slash x ≡ false) × NoSlash xs

-- the bytes of names, each with its slash
abbrev pub total : List (List ℕ) → ℕ
total [] = 0
total (x ∷ xs) = suc (length x) + total xs

abbrev pub Good : ℕ → List (List ℕ) → Type 0
Good n [] = ⊥
Good n (y ∷ ys) = NoSlash (y ∷ ys) × (total (y ∷ ys) ≡ suc n)

cons_good : (n : ℕ) (l : List (List ℕ)) → Good n l → Good (suc n) ([] ∷ l)
cons_good n [] g = absurd g
cons_good n (y ∷ ys) g = ((refl, g.0), omega (arith, g.1))

onto_good : (x n : ℕ) (l : List (List ℕ)) → slash x ≡ false → Good n l → Good (suc n) (onto_first x l)
onto_good x n [] h g = absurd g
onto_good x n (y ∷ ys) h g = ((rw h g.0.0, g.0.1), omega (arith, g.1))

pub split_good : (xs : List ℕ) → Good (length xs) (slice_split slash xs)
split_good [] = ((refl, tt), refl)
split_good (x ∷ xs) = at (slash x) refl (split_good xs)
  where
    at : (b : Bool) → slash x ≡ b → Good (length xs) (slice_split slash xs) → Good (suc (length xs)) (cond b ([] ∷ slice_split slash xs) (onto_first x (slice_split slash xs)))
    at true h g = cons_good (length xs) (slice_split slash xs) g
    at false h g = onto_good x (length xs) (slice_split slash xs) h g

-- a name has no slash, and is the one part of itself
pub one_part : (name : List ℕ) → has_slash name ≡ false → slice_split slash name ≡ name ∷ []
one_part [] h = refl
one_part (x ∷ xs) h = at (slash x) refl (one_part xs)
  where
    at : (b : Bool) → slash x ≡ b → (has_slash xs ≡ false → slice_split slash xs ≡ xs ∷ []) → cond b ([] ∷ slice_split slash xs) (onto_first x (slice_split slash xs)) ≡ (x ∷ xs) ∷ []
    at true e i = let f : true ≡ false = ap (λ b. b || has_slash xs) (sym e) ∙ h in cc
    at false e i = ap (onto_first x) (i (ap (λ b. b || has_slash xs) (sym e) ∙ h))

onto_more : (x n : ℕ) (l : List (List ℕ)) (name : List ℕ) → Good n l → onto_first x (l ++ name ∷ []) ≡ onto_first x l ++ name ∷ []
onto_more x n [] name g = absurd g
onto_more x n (y ∷ ys) name g = refl

-- a name more behind a path
pub one_more : (xs name : List ℕ) → has_slash name ≡ false → slice_split slash (xs ++ 47 ∷ name) ≡ slice_split slash xs ++ name ∷ []
one_more [] name h = ap (λ l. [] ∷ l) (one_part name h)
one_more (x ∷ xs) name h = at (slash x) (one_more xs name h)
  where
    at : (b : Bool) → slice_split slash (xs ++ 47 ∷ name) ≡ slice_split slash xs ++ name ∷ [] → cond b ([] ∷ slice_split slash (xs ++ 47 ∷ name)) (onto_first x (slice_split slash (xs ++ 47 ∷ name))) ≡ cond b ([] ∷ slice_split slash xs) (onto_first x (slice_split slash xs)) ++ name ∷ []
    at true i = ap (λ l. [] ∷ l) i
    at false i = ap (onto_first x) i ∙ onto_more x (length xs) (slice_split slash xs) name (split_good xs)

pub good_more : (l : List (List ℕ)) (name : List ℕ) → good_names l ≡ true → is_good_name name ≡ true → good_names (l ++ name ∷ []) ≡ true
good_more [] name g h = rw h refl
good_more (x ∷ xs) name g h = at (is_good_name x) g (λ k. good_more xs name k h)
  where
    at : (b : Bool) → (b && good_names xs) ≡ true → (good_names xs ≡ true → good_names (xs ++ name ∷ []) ≡ true) → (b && good_names (xs ++ name ∷ [])) ≡ true
    at true k i = i k
    at false k i = cc

has_slash_behind : (xs name : List ℕ) → has_slash (xs ++ 47 ∷ name) ≡ true
has_slash_behind [] name = refl
has_slash_behind (x ∷ xs) name = at (slash x) (has_slash_behind xs name)
  where
    at : (b : Bool) → has_slash (xs ++ 47 ∷ name) ≡ true → (b || has_slash (xs ++ 47 ∷ name)) ≡ true
    at true i = refl
    at false i = i

last_behind : (xs name : List ℕ) → has_slash name ≡ false → last_slash (xs ++ 47 ∷ name) ≡ length xs
last_behind [] name h = rw h refl
last_behind (x ∷ xs) name h = rw (has_slash_behind xs name) (ap suc (last_behind xs name h))

max_one : (n : ℕ) → max 1 (suc n) ≡ suc n
max_one n = omega arith

-- the directory of a path of one name more
pub parent_behind : (x : ℕ) (xs name : List ℕ) → has_slash name ≡ false → parent ((x ∷ xs) ++ 47 ∷ name) ≡ x ∷ xs
parent_behind x xs name h = rw (last_behind (x ∷ xs) name h, max_one (length xs)) (take-append_seam (x ∷ xs) (47 ∷ name))

pub parent_in_root : (name : List ℕ) → has_slash name ≡ false → parent (47 ∷ name) ≡ codes "/"
parent_in_root name h = rw (last_behind [] name h) refl

-- Slashes in paths.
use Rattle.std.proofs.Common.{◌≡◌, ℕ, suc, ◌+◌, ◌-◌, ◌≤◌, List, [], ◌∷◌, ◌++◌, zero, Bool, true, false, cond, length, take, drop, Option, Some, None, refl, sym, ap, ◌∙◌, arith, ◌||◌, ◌&&◌, ◌<◌, nat_le, length-append}
use Rattle.std.specs.Prelude.{◌==◌, option_map}
use Rattle.std.specs.List.{slice_split, onto_first, position_from, position}
use Rattle.std.proofs.lemmas.Iterator.Adapters.{position_from-zero}
use Rattle.std.proofs.lemmas.Bool.Decides.{nat_tests}
use Rattle.sh_files_image.specs.Paths.{good_names, is_good_name}
use Rattle.sh_files_image.specs.Paths.{components, has_slash, last_slash, names_fit, path_split}

abbrev slash : ℕ → Bool
slash b = b == 47

abbrev Test : Type 0
Test = ℕ → Bool

low : (t : Test) (n i : ℕ) (xs : List ℕ) → position_from t n xs ≡ Some i → n ≤ i
low t n i [] h = cc
low t n i (x ∷ xs) h =
    elim (t x) as (λ b. cond b (Some n) (position_from t (n + 1) xs) ≡ Some i → n ≤ i) [
      | true ↦ λ k. let e : n ≡ i = cc in omega arith
      | false ↦ λ k. let l = low t (n + 1) i xs k in omega arith
    ] h

pub first_from : (t : Test) (n i : ℕ) (xs : List ℕ) → position_from t n xs ≡ Some i → slice_split t xs ≡ take (i - n) xs ∷ slice_split t (drop (suc (i - n)) xs)
first_from t n i [] h = cc
first_from t n i (x ∷ xs) h =
    elim (t x) as (λ b. cond b (Some n) (position_from t (n + 1) xs) ≡ Some i → cond b ([] ∷ slice_split t xs) (onto_first x (slice_split t xs)) ≡ take (i - n) (x ∷ xs) ∷ slice_split t (drop (suc (i - n)) (x ∷ xs))) [
      | true ↦ λ k. let e : n ≡ i = cc in let z : i - n ≡ 0 = omega arith in rw z refl
      | false ↦ λ k.
          let l = low t (n + 1) i xs k in
          let z : i - n ≡ suc (i - (n + 1)) = omega arith in
          rw z (ap (onto_first x) (first_from t (n + 1) i xs k))
    ] h

abbrev split_at : List ℕ → ℕ → List ℕ × List ℕ
split_at xs i = (take i xs, drop (i + 1) xs)

found_at : (o : Option ℕ) (xs : List ℕ) (p : List ℕ × List ℕ) → Some p ≡ option_map (split_at xs) o → (position_from slash 0 xs ≡ o) → components xs ≡ p.0 ∷ components p.1
found_at None xs p h e = cc
found_at (Some i) xs p h e =
    let q : p ≡ (take i xs, drop (i + 1) xs) = cc in
    let one : suc (i - 0) ≡ i + 1 = omega arith in
    let none : i - 0 ≡ i = omega arith in
    first_from slash 0 i xs e
    ∙ ap (λ k. take k xs ∷ components (drop (suc (i - 0)) xs)) none
    ∙ ap (λ k. take i xs ∷ components (drop k xs)) one
    ∙ ap (λ (r : List ℕ × List ℕ). r.0 ∷ components r.1) (sym q)

-- the first component ends at the first slash
pub first_part : (xs : List ℕ) (p : List ℕ × List ℕ) → Some p ≡ path_split xs → components xs ≡ p.0 ∷ components p.1
first_part xs p h = found_at (position slash xs) xs p h (sym (position_from-zero slash xs))

pub only_from : (t : Test) (n : ℕ) (xs : List ℕ) → position_from t n xs ≡ None → slice_split t xs ≡ xs ∷ []
only_from t n [] h = refl
only_from t n (x ∷ xs) h =
    elim (t x) as (λ b. cond b (Some n) (position_from t (n + 1) xs) ≡ None → cond b ([] ∷ slice_split t xs) (onto_first x (slice_split t xs)) ≡ (x ∷ xs) ∷ []) [
      | true ↦ λ k. cc
      | false ↦ λ k. ap (onto_first x) (only_from t (n + 1) xs k)
    ] h

nowhere : (o : Option ℕ) (xs : List ℕ) → None ≡ option_map (split_at xs) o → (position_from slash 0 xs ≡ o) → components xs ≡ xs ∷ []
nowhere None xs h e = only_from slash 0 xs e
nowhere (Some i) xs h e = cc

-- without a slash there is one component
pub only_part : (xs : List ℕ) → None ≡ path_split xs → components xs ≡ xs ∷ []
only_part xs h = nowhere (position slash xs) xs h (sym (position_from-zero slash xs))

-- ---- lengths of names
pub long_name : (xs : List ℕ) (p : List ℕ × List ℕ) → Some p ≡ path_split xs → 255 < length p.0 → false ≡ names_fit (components xs)
long_name xs p h long = rw (first_part xs p h) (ap (λ b. b && names_fit (components p.1)) (too_long (length p.0) long))
  where
    too_long : (n : ℕ) → 255 < n → false ≡ nat_le n 255
    too_long n l = grind (arith, nat_tests)

pub short_name : (xs : List ℕ) (p : List ℕ × List ℕ) → Some p ≡ path_split xs → length p.0 ≤ 255 → names_fit (components p.1) ≡ names_fit (components xs)
short_name xs p h short = rw (first_part xs p h) (ap (λ b. b && names_fit (components p.1)) (not_long (length p.0) short))
  where
    not_long : (n : ℕ) → n ≤ 255 → true ≡ nat_le n 255
    not_long n l = grind (arith, nat_tests)

pub only_name : (xs : List ℕ) → None ≡ path_split xs → nat_le (length xs) 255 ≡ names_fit (components xs)
only_name xs h = rw (only_part xs h) (and_true (nat_le (length xs) 255))
  where
    and_true : (b : Bool) → b ≡ (b && true)
    and_true true = refl
    and_true false = refl

-- ---- the last slash
has_behind : (xs : List ℕ) → has_slash (xs ++ 47 ∷ []) ≡ true
has_behind [] = refl
has_behind (x ∷ xs) = elim (x == 47) as (λ b. (b || has_slash (xs ++ 47 ∷ [])) ≡ true) [ true ↦ refl | false ↦ has_behind xs ]

has_before : (xs : List ℕ) (y : ℕ) → (y == 47) ≡ false → has_slash (xs ++ y ∷ []) ≡ has_slash xs
has_before [] y h = rw h refl
has_before (x ∷ xs) y h = ap (λ b. (x == 47) || b) (has_before xs y h)

-- a slash at the end is the last one
pub last_here : (xs : List ℕ) → last_slash (xs ++ 47 ∷ []) ≡ length xs
last_here [] = refl
last_here (x ∷ xs) = rw (has_behind xs) (ap suc (last_here xs))

-- another byte at the end changes nothing
pub last_before : (xs : List ℕ) (y : ℕ) → (y == 47) ≡ false → last_slash (xs ++ y ∷ []) ≡ last_slash xs
last_before [] y h = refl
last_before (x ∷ xs) y h = rw (has_before xs y h, last_before xs y h) refl

pub ends_here : (prefix xs : List ℕ) (y : ℕ) → xs ≡ prefix ++ y ∷ [] → y ≡ 47 → length prefix ≡ last_slash xs
ends_here prefix xs y e h = rw (e, h) (sym (last_here prefix))

differs : (y : ℕ) → (y ≡ 47 → ⊥) → (y == 47) ≡ false
differs y h = grind (arith, nat_tests)

pub ends_before : (prefix xs : List ℕ) (y : ℕ) → xs ≡ prefix ++ y ∷ [] → (y ≡ 47 → ⊥) → (last_slash prefix ≡ last_slash xs) × (length prefix ≤ length xs)
ends_before prefix xs y e h = (rw e (sym (last_before prefix y (differs y h))), rw (e, length-append) (omega arith))

-- ---- the names of an image's path
pub bad_name : (xs : List ℕ) (p : List ℕ × List ℕ) → Some p ≡ path_split xs → false ≡ is_good_name p.0 → false ≡ good_names (components xs)
bad_name xs p h bad = rw (first_part xs p h) (ap (λ b. b && good_names (components p.1)) bad)

pub good_name : (xs : List ℕ) (p : List ℕ × List ℕ) → Some p ≡ path_split xs → true ≡ is_good_name p.0 → good_names (components xs) ≡ good_names (components p.1)
good_name xs p h good = rw (first_part xs p h) (sym (ap (λ b. b && good_names (components p.1)) good))

pub only_good_name : (xs : List ℕ) → None ≡ path_split xs → is_good_name xs ≡ good_names (components xs)
only_good_name xs h = rw (only_part xs h) (and_true (is_good_name xs))
  where
    and_true : (b : Bool) → b ≡ (b && true)
    and_true true = refl
    and_true false = refl

-- ---- the first slash behind a place
slash_within : (n i : ℕ) (xs : List ℕ) → position_from slash n xs ≡ Some i → has_slash (take (suc i - n) xs) ≡ true
slash_within n i [] h = cc
slash_within n i (x ∷ xs) h =
    elim (slash x) as (λ b. slash x ≡ b → cond b (Some n) (position_from slash (n + 1) xs) ≡ Some i → has_slash (take (suc i - n) (x ∷ xs)) ≡ true) [
      | true ↦ λ e k.
          let same : n ≡ i = cc in
          let z : suc i - n ≡ suc 0 = omega arith in
          rw z (ap (λ b. b || has_slash (take 0 xs)) e)
      | false ↦ λ e k.
          let l = low slash (n + 1) i xs k in
          let z : suc i - n ≡ suc (suc i - (n + 1)) = omega arith in
          rw z (ap (λ b. b || has_slash (take (suc i - (n + 1)) xs)) e ∙ slash_within (n + 1) i xs k)
    ] refl h

no_slash : (n : ℕ) (xs : List ℕ) → position_from slash n xs ≡ None → has_slash xs ≡ false
no_slash n [] h = refl
no_slash n (x ∷ xs) h =
    elim (slash x) as (λ b. slash x ≡ b → cond b (Some n) (position_from slash (n + 1) xs) ≡ None → has_slash (x ∷ xs) ≡ false) [
      | true ↦ λ e k. cc
      | false ↦ λ e k. ap (λ b. b || has_slash xs) e ∙ no_slash (n + 1) xs k
    ] refl h

take_none : (n : ℕ) → take {A = ℕ} n [] ≡ []
take_none zero = refl
take_none (suc n) = refl

drop_take : (start k : ℕ) (xs : List ℕ) → drop start (take (start + k) xs) ≡ take k (drop start xs)
drop_take zero k xs = let z : 0 + k ≡ k = omega arith in ap (λ n. take n xs) z
drop_take (suc start) k [] = ap (drop (suc start)) (take_none (suc start + k)) ∙ sym (take_none k)
drop_take (suc start) k (x ∷ xs) = let z : suc start + k ≡ suc (start + k) = omega arith in ap (λ n. drop (suc start) (take n (x ∷ xs))) z ∙ drop_take start k xs

pub slash_behind : (start i : ℕ) (xs : List ℕ) → Some i ≡ position slash (drop start xs) → has_slash (drop start (take (start + i + 1) xs)) ≡ true
slash_behind start i xs h =
    let z : start + i + 1 ≡ start + suc i = omega arith in
    let y : suc i - 0 ≡ suc i = omega arith in
    ap (λ n. has_slash (drop start (take n xs))) z
    ∙ ap has_slash (drop_take start (suc i) xs)
    ∙ ap (λ n. has_slash (take n (drop start xs))) (sym y)
    ∙ slash_within 0 i (drop start xs) (sym (position_from-zero slash (drop start xs)) ∙ sym h)

pub no_slash_behind : (xs : List ℕ) → None ≡ position slash xs → has_slash xs ≡ false
no_slash_behind xs h = no_slash 0 xs (sym (position_from-zero slash xs) ∙ sym h)

slash_at : (n i : ℕ) (xs : List ℕ) → position_from slash n xs ≡ Some i → take (suc i - n) xs ≡ take (i - n) xs ++ 47 ∷ []
slash_at n i [] h = cc
slash_at n i (x ∷ xs) h =
    elim (slash x) as (λ b. slash x ≡ b → cond b (Some n) (position_from slash (n + 1) xs) ≡ Some i → take (suc i - n) (x ∷ xs) ≡ take (i - n) (x ∷ xs) ++ 47 ∷ []) [
      | true ↦ λ e k.
          let same : n ≡ i = cc in
          let z : suc i - n ≡ suc 0 = omega arith in
          let y : i - n ≡ 0 = omega arith in
          rw (z, y) (ap (λ (b : ℕ). b ∷ []) (is_slash x e))
      | false ↦ λ e k.
          let l = low slash (n + 1) i xs k in
          let z : suc i - n ≡ suc (suc i - (n + 1)) = omega arith in
          let y : i - n ≡ suc (i - (n + 1)) = omega arith in
          rw (z, y) (ap (λ (bs : List ℕ). x ∷ bs) (slash_at (n + 1) i xs k))
    ] refl h
  where
    is_slash : (x : ℕ) → (x == 47) ≡ true → x ≡ 47
    is_slash x e = grind (arith, nat_tests)

slash_later : (start i : ℕ) (xs : List ℕ) → Some i ≡ position slash (drop start xs) → take (start + suc i) xs ≡ take (start + i) xs ++ 47 ∷ []
slash_later zero i xs h =
    let z : 0 + suc i ≡ suc i - 0 = omega arith in
    let y : i - 0 ≡ 0 + i = omega arith in
    ap (λ n. take n xs) z ∙ slash_at 0 i xs (sym (position_from-zero slash xs) ∙ sym h) ∙ ap (λ n. take n xs ++ 47 ∷ []) y
slash_later (suc start) i [] h = cc
slash_later (suc start) i (x ∷ xs) h =
    let z : suc start + suc i ≡ suc (start + suc i) = omega arith in
    let y : suc (start + i) ≡ suc start + i = omega arith in
    ap (λ n. take n (x ∷ xs)) z ∙ ap (λ (bs : List ℕ). x ∷ bs) (slash_later start i xs h) ∙ ap (λ n. take n (x ∷ xs) ++ 47 ∷ []) y

-- what stands before the slash, and the slash
pub to_slash : (start i : ℕ) (xs : List ℕ) → Some i ≡ position slash (drop start xs) → take (start + i + 1) xs ≡ take (start + i) xs ++ 47 ∷ []
to_slash start i xs h = let z : start + i + 1 ≡ start + suc i = omega arith in ap (λ n. take n xs) z ∙ slash_later start i xs h

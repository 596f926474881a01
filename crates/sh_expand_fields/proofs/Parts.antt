-- The components of a pattern.
use Rattle.std.proofs.Common.{◌≡◌, ℕ, suc, ◌+◌, ◌-◌, ◌≤◌, List, [], ◌∷◌, Bool, true, false, cond, ◌||◌, take, drop, Option, Some, None, refl, sym, ap, ◌∙◌, arith}
use Rattle.std.specs.Prelude.{option_map}
use Rattle.std.specs.List.{slice_split, onto_first, position_from, position, list_any}
use Rattle.std.proofs.lemmas.Iterator.Adapters.{position_from-zero}
use Rattle.sh_pattern.specs.declared.pattern_byte.PatternByte.{PatternByte}
use Rattle.sh_expand_fields.specs.Pathnames.{components_of, is_pattern, is_slash}
use Rattle.sh_expand_fields.specs.Walk.{pattern_split}

abbrev Test : Type 0
Test = PatternByte → Bool

low : (t : Test) (n i : ℕ) (xs : List PatternByte) → position_from t n xs ≡ Some i → n ≤ i
low t n i [] h = cc
low t n i (x ∷ xs) h =
    elim (t x) as (λ b. cond b (Some n) (position_from t (n + 1) xs) ≡ Some i → n ≤ i) [
      | true ↦ λ k. let e : n ≡ i = cc in omega arith
      | false ↦ λ k. let l = low t (n + 1) i xs k in omega arith
    ] h

first_from : (t : Test) (n i : ℕ) (xs : List PatternByte) → position_from t n xs ≡ Some i → slice_split t xs ≡ take (i - n) xs ∷ slice_split t (drop (suc (i - n)) xs)
first_from t n i [] h = cc
first_from t n i (x ∷ xs) h =
    elim (t x) as (λ b. cond b (Some n) (position_from t (n + 1) xs) ≡ Some i → cond b ([] ∷ slice_split t xs) (onto_first x (slice_split t xs)) ≡ take (i - n) (x ∷ xs) ∷ slice_split t (drop (suc (i - n)) (x ∷ xs))) [
      | true ↦ λ k. let e : n ≡ i = cc in let z : i - n ≡ 0 = omega arith in rw z refl
      | false ↦ λ k.
          let l = low t (n + 1) i xs k in
          let z : i - n ≡ suc (i - (n + 1)) = omega arith in
          rw z (ap (onto_first x) (first_from t (n + 1) i xs k))
    ] h

abbrev split_at : List PatternByte → ℕ → List PatternByte × List PatternByte
split_at xs i = (take i xs, drop (i + 1) xs)

found_at : (o : Option ℕ) (xs : List PatternByte) (p : List PatternByte × List PatternByte) → Some p ≡ option_map (split_at xs) o → (position_from is_slash 0 xs ≡ o) → components_of xs ≡ p.0 ∷ components_of p.1
found_at None xs p h e = cc
found_at (Some i) xs p h e =
    let q : p ≡ (take i xs, drop (i + 1) xs) = cc in
    let one : suc (i - 0) ≡ i + 1 = omega arith in
    let none : i - 0 ≡ i = omega arith in
    first_from is_slash 0 i xs e
    ∙ ap (λ k. take k xs ∷ components_of (drop (suc (i - 0)) xs)) none
    ∙ ap (λ k. take i xs ∷ components_of (drop k xs)) one
    ∙ ap (λ (r : List PatternByte × List PatternByte). r.0 ∷ components_of r.1) (sym q)

-- the first component ends at the first slash
pub first_part : (xs : List PatternByte) (p : List PatternByte × List PatternByte) → Some p ≡ pattern_split xs → components_of xs ≡ p.0 ∷ components_of p.1
first_part xs p h = found_at (position is_slash xs) xs p h (sym (position_from-zero is_slash xs))

only_from : (t : Test) (n : ℕ) (xs : List PatternByte) → position_from t n xs ≡ None → slice_split t xs ≡ xs ∷ []
only_from t n [] h = refl
only_from t n (x ∷ xs) h =
    elim (t x) as (λ b. cond b (Some n) (position_from t (n + 1) xs) ≡ None → cond b ([] ∷ slice_split t xs) (onto_first x (slice_split t xs)) ≡ (x ∷ xs) ∷ []) [
      | true ↦ λ k. cc
      | false ↦ λ k. ap (onto_first x) (only_from t (n + 1) xs k)
    ] h

nowhere : (o : Option ℕ) (xs : List PatternByte) → None ≡ option_map (split_at xs) o → (position_from is_slash 0 xs ≡ o) → components_of xs ≡ xs ∷ []
nowhere None xs h e = only_from is_slash 0 xs e
nowhere (Some i) xs h e = cc

-- without a slash there is one component
pub only_part : (xs : List PatternByte) → None ≡ pattern_split xs → components_of xs ≡ xs ∷ []
only_part xs h = nowhere (position is_slash xs) xs h (sym (position_from-zero is_slash xs))

pub pattern_here : (xs : List PatternByte) (p : List PatternByte × List PatternByte) → Some p ≡ pattern_split xs → is_pattern p.0 ≡ true → true ≡ list_any is_pattern (components_of xs)
pattern_here xs p h e = rw (first_part xs p h) (rw e refl)

pub pattern_behind : (xs : List PatternByte) (p : List PatternByte × List PatternByte) → Some p ≡ pattern_split xs → is_pattern p.0 ≡ false → list_any is_pattern (components_of p.1) ≡ list_any is_pattern (components_of xs)
pattern_behind xs p h e = rw (first_part xs p h) (rw e refl)

pub only_pattern : (xs : List PatternByte) → None ≡ pattern_split xs → is_pattern xs ≡ list_any is_pattern (components_of xs)
only_pattern xs h = rw (only_part xs h) (or_false (is_pattern xs))
  where
    or_false : (b : Bool) → b ≡ (b || false)
    or_false true = refl
    or_false false = refl

-- there is always a component
pub some_part : (xs : List PatternByte) → (h : List PatternByte) × (hs : List (List PatternByte)) × (components_of xs ≡ h ∷ hs)
some_part [] = ([], [], refl)
some_part (x ∷ xs) =
    let f = some_part xs in
    elim (is_slash x) as (λ b. (h : List PatternByte) × (hs : List (List PatternByte)) × (cond b ([] ∷ components_of xs) (onto_first x (components_of xs)) ≡ h ∷ hs)) [
      | true ↦ ([], components_of xs, refl)
      | false ↦ (x ∷ f.0, f.1, ap (onto_first x) f.2)
    ]

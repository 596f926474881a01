-- Lemmas on places of lists and on tests.
use Rattle.std.proofs.Common.{◌≡◌, ◌≢◌, ℕ, zero, suc, ◌<◌, List, [], ◌∷◌, ◌++◌, length, Bool, true, false, ◌||◌, ◌==◌, Some, slice_get, slice_set, refl, ap, arith, eq-eqb}

pub or_left : (a b : Bool) → (a || b) ≡ false → a ≡ false
or_left true b h = h
or_left false b h = refl

pub or_right : (a b : Bool) → (a || b) ≡ false → b ≡ false
or_right true b h = absurd (cc)
or_right false b h = h

pub other_place : {X : Type 0} (xs : List X) (i j : ℕ) (x : X) → i ≢ j → slice_get (slice_set xs i x) j ≡ slice_get xs j
other_place [] i j x n = refl
other_place (y ∷ xs) zero zero x n = absurd (n refl)
other_place (y ∷ xs) zero (suc j) x n = refl
other_place (y ∷ xs) (suc i) zero x n = refl
other_place (y ∷ xs) (suc i) (suc j) x n = other_place xs i j x (λ e. n (ap (λ k. suc k) e))

pub same_place : {X : Type 0} (xs : List X) (i : ℕ) (x y : X) → slice_get xs i ≡ Some y → slice_get (slice_set xs i x) i ≡ Some x
same_place [] i x y h = absurd (cc)
same_place (z ∷ xs) zero x y h = refl
same_place (z ∷ xs) (suc i) x y h = same_place xs i x y h

pub front_place : {X : Type 0} (xs ys : List X) (k : ℕ) → k < length xs → slice_get (xs ++ ys) k ≡ slice_get xs k
front_place [] ys k h = absurd (omega arith)
front_place (x ∷ xs) ys zero h = refl
front_place (x ∷ xs) ys (suc k) h = front_place xs ys k (omega arith)

pub apart : (i j : ℕ) → (i == j) ≡ false → i ≢ j
apart i j h e = let t : (i == j) ≡ true = eq-eqb i j e in absurd (cc)

pub false_of : (b : Bool) → (b ≡ true → ⊥) → b ≡ false
false_of true h = absurd (h refl)
false_of false h = refl

pub length_set : {X : Type 0} (xs : List X) (i : ℕ) (x : X) → length (slice_set xs i x) ≡ length xs
length_set [] i x = refl
length_set (y ∷ xs) zero x = refl
length_set (y ∷ xs) (suc i) x = ap (λ k. suc k) (length_set xs i x)

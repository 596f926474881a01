-- Parts of a text, from the first on.
use Rattle.std.proofs.Common.{◌≡◌, ℕ, suc, ◌+◌, ◌-◌, ◌≤◌, List, [], ◌∷◌, Bool, true, false, cond, length, length-drop, take, take_all, drop, Some, None, refl, sym, ap, ◌∙◌, arith}
use Rattle.std.specs.Prelude.{◌==◌, position}
use Rattle.std.specs.List.{onto_first}
use Rattle.std.proofs.lemmas.Iterator.Adapters.{position_from-zero}
use Rattle.sh_files_image.proofs.Slashes.{first_from, only_from}
use Rattle.psh_common.specs.Lines.{parts}

-- the first part ends at the first separator
pub parts-found : (separator i : ℕ) (xs : List ℕ) → Some i ≡ position (λ b. b == separator) xs → parts separator xs ≡ take i xs ∷ parts separator (drop (i + 1) xs)
parts-found separator i xs h =
    let one : suc (i - 0) ≡ i + 1 = omega arith in
    let none : i - 0 ≡ i = omega arith in
    first_from (λ b. b == separator) 0 i xs (sym (position_from-zero (λ b. b == separator) xs) ∙ sym h)
    ∙ ap (λ k. take k xs ∷ parts separator (drop (suc (i - 0)) xs)) none
    ∙ ap (λ k. take i xs ∷ parts separator (drop k xs)) one

-- without a separator there is one part
pub parts-single : (separator : ℕ) (xs : List ℕ) → None ≡ position (λ b. b == separator) xs → parts separator xs ≡ xs ∷ []
parts-single separator xs h = only_from (λ b. b == separator) 0 xs (sym (position_from-zero (λ b. b == separator) xs) ∙ sym h)

-- all that is behind a place
pub take-rest : (i : ℕ) (xs : List ℕ) → take (length xs - i) (drop i xs) ≡ drop i xs
take-rest i xs = let e : length (drop i xs) ≤ length xs - i = rw length-drop (omega arith) in take_all _ _ e

pub record Parts (separator : ℕ) (xs : List ℕ) : Type 0 where
  pub first : List ℕ
  pub others : List (List ℕ)
  pub are : parts separator xs ≡ first ∷ others

begun : (x : ℕ) (b : Bool) (ys : List (List ℕ)) (first : List ℕ) (others : List (List ℕ)) → ys ≡ first ∷ others
    → (y : List ℕ) × ((zs : List (List ℕ)) × (cond b ([] ∷ ys) (onto_first x ys) ≡ y ∷ zs))
begun x true ys first others h = ([], (ys, refl))
begun x false ys first others h = (x ∷ first, (others, ap (onto_first x) h))

-- each text has a part
pub parts-some : (separator : ℕ) (xs : List ℕ) → Parts separator xs
parts-some separator [] = record { first = []; others = []; are = refl }
parts-some separator (x ∷ xs) =
    let r = parts-some separator xs in
    let b = begun x (x == separator) (parts separator xs) r.first r.others r.are in
    record { first = b.0; others = b.1.0; are = b.1.1 }

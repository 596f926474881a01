-- The elements of PATH: the first one ends at the first colon.
use Rattle.std.proofs.Common.{◌≡◌, ◌∙◌, ◌+◌, ◌-◌, ◌<◌, ◌≤◌, ℕ, List, [], ◌∷◌, Bool, true, false, cond, Some, None, ap, arith, drop, length, length-drop, refl, sym, take}
use Rattle.std.proofs.lemmas.Bool.Decides.{nat_tests}
use Rattle.std.proofs.lemmas.List.{take_all}
use Rattle.std.proofs.lemmas.List.Elements.{All-from_get_or}
use Rattle.std.proofs.lemmas.List.Splits.{slice_split_first, slice_split_none}
use Rattle.std.proofs.lemmas.List.Sums.{fails_before_first}
use Rattle.std.specs.List.{position_or_len}
use Rattle.std.specs.Prelude.{◌==◌, nat_lt, position}
use Rattle.sh_files.specs.Search.{elements}

abbrev is_colon : ℕ → Bool
is_colon b = b == 58

is_place : (k n i : ℕ) (b : Bool) → nat_lt k n ≡ b → Some i ≡ cond b (Some k) None → (k ≡ i) × (k < n)
is_place k n i true e h = (cc, grind (arith, nat_tests))
is_place k n i false e h = cc

no_place : (k n : ℕ) (b : Bool) → nat_lt k n ≡ b → None ≡ cond b (Some k) None → n ≤ k
no_place k n true e h = cc
no_place k n false e h = grind (arith, nat_tests)

pub first_element : (xs : List ℕ) (i : ℕ) → Some i ≡ position is_colon xs → elements xs ≡ take i xs ∷ elements (take (length xs - (i + 1)) (drop (i + 1) xs))
first_element xs i h =
    let at = is_place (position_or_len is_colon xs) (length xs) i _ refl h in
    let rest : take (length xs - (i + 1)) (drop (i + 1) xs) ≡ drop (i + 1) xs = take_all _ _ (rw length-drop (omega arith)) in
    slice_split_first is_colon xs 0 at.1
    ∙ ap (λ k. take k xs ∷ elements (drop (k + 1) xs)) at.0
    ∙ ap (λ ys. take i xs ∷ elements ys) (sym rest)

pub only_element : (xs : List ℕ) → None ≡ position is_colon xs → elements xs ≡ xs ∷ []
only_element xs h =
    let past = no_place (position_or_len is_colon xs) (length xs) _ refl h in
    slice_split_none is_colon xs (All-from_get_or (λ x. is_colon x ≡ false) xs 0 (λ i l. fails_before_first is_colon xs i 0 (omega arith)))

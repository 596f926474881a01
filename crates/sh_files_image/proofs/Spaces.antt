-- Fields of an image's lines.
use Rattle.std.proofs.Common.{◌≡◌, ℕ, ◌+◌, ◌≤◌, List, [], ◌∷◌, ◌++◌, length, length-append, Some, false, refl, sym, ap, arith}
use Rattle.std.specs.Prelude.{◌==◌}
use Rattle.std.proofs.lemmas.Bool.Decides.{nat_tests}
use Rattle.sh_files_image.specs.Fields.{further, last_space}

pub last_here : (xs : List ℕ) → last_space (xs ++ 32 ∷ []) ≡ Some (length xs)
last_here [] = refl
last_here (x ∷ xs) = ap (further x) (last_here xs)

pub last_before : (xs : List ℕ) (y : ℕ) → (y == 32) ≡ false → last_space (xs ++ y ∷ []) ≡ last_space xs
last_before [] y h = rw h refl
last_before (x ∷ xs) y h = ap (further x) (last_before xs y h)

pub ends_here : (prefix xs : List ℕ) (y : ℕ) → xs ≡ prefix ++ y ∷ [] → y ≡ 32 → Some (length prefix) ≡ last_space xs
ends_here prefix xs y e h = rw (e, h) (sym (last_here prefix))

differs : (y : ℕ) → (y ≡ 32 → ⊥) → (y == 32) ≡ false
differs y h = grind (arith, nat_tests)

pub ends_before : (prefix xs : List ℕ) (y : ℕ) → xs ≡ prefix ++ y ∷ [] → (y ≡ 32 → ⊥) → (last_space prefix ≡ last_space xs) × (length prefix ≤ length xs)
ends_before prefix xs y e h = (rw e (sym (last_before prefix y (differs y h))), rw (e, length-append) (omega arith))

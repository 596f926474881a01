-- Newlines at the end of a text.
use Rattle.std.proofs.Common.{◌≡◌, ℕ, List, [], ◌∷◌, ◌++◌, refl, ap, false}
use Rattle.std.specs.Prelude.{◌==◌, if◌then◌else◌}
use Rattle.sh_expand_parts.specs.Answers.{before_end, without_end_newlines}

-- a newline at the end goes
pub newline_goes : (bs : List ℕ) → without_end_newlines (bs ++ 10 ∷ []) ≡ without_end_newlines bs
newline_goes [] = refl
newline_goes (b ∷ bs) = ap (before_end b) (newline_goes bs)

before_some : (b : ℕ) (xs : List ℕ) (y : ℕ) (t : List ℕ) → t ≡ xs ++ y ∷ [] → before_end b t ≡ b ∷ (xs ++ y ∷ [])
before_some b [] y t e = ap (before_end b) e
before_some b (x ∷ xs) y t e = ap (before_end b) e

-- another byte stays
pub other_stays : (bs : List ℕ) (b : ℕ) → (b == 10) ≡ false → without_end_newlines (bs ++ b ∷ []) ≡ bs ++ b ∷ []
other_stays [] b e = ap (λ c. if c then [] else b ∷ []) e
other_stays (x ∷ xs) b e = before_some x xs b (without_end_newlines (xs ++ b ∷ [])) (other_stays xs b e)

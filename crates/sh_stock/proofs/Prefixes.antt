-- The first lines of a text.
use Rattle.std.proofs.Common.{◌≡◌, ℕ, List, [], ◌∷◌, ◌++◌, refl, ap, ◌∙◌, append-nil}
use Rattle.sh_stock.specs.Lines.{first_lines}

pub first_lines-none : (bytes : List ℕ) → first_lines 0 bytes ≡ []
first_lines-none [] = refl
first_lines-none (byte ∷ bytes) = refl

-- where no line is missing, nothing is added
pub nothing_missing : (prefix : List ℕ) (missing : ℕ) (rest : List ℕ) → missing ≡ 0 → prefix ++ first_lines missing rest ≡ prefix
nothing_missing prefix missing rest h =
    ap (λ (n : ℕ). prefix ++ first_lines n rest) h ∙ (ap (λ (ys : List ℕ). prefix ++ ys) (first_lines-none rest) ∙ append-nil prefix)

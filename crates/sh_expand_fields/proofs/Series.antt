-- Texts of a line, one by one.
use Rattle.std.proofs.Common.{◌≡◌, ◌<◌, ◌-◌, ◌++◌, ℕ, zero, suc, List, [], ◌∷◌, arith, refl, ap, ◌∙◌}
use Rattle.sh_expand_fields.specs.Lines.{behind, field, texts}
use Rattle.sh_pattern.specs.declared.pattern_byte.PatternByte.{PatternByte}

one_more : (ifs : List ℕ) (count : ℕ) (line : List PatternByte) → 1 < count → field ifs line ∷ texts ifs (count - 1) (behind ifs line) ≡ texts ifs count line
one_more ifs zero line h = absurd (omega (arith, h))
one_more ifs (suc zero) line h = absurd (omega (arith, h))
one_more ifs (suc (suc n)) line h =
    let less : suc (suc n) - 1 ≡ suc n = omega arith in ap (λ k. field ifs line ∷ texts ifs k (behind ifs line)) less

put_behind : (found others : List (List ℕ)) (text : List ℕ) → (found ++ text ∷ []) ++ others ≡ found ++ text ∷ others
put_behind [] others text = refl
put_behind (x ∷ xs) others text = ap (λ found. x ∷ found) (put_behind xs others text)

pub on : (ifs : List ℕ) (count : ℕ) (line : List PatternByte) (found next : List (List ℕ)) (text : List ℕ) → 1 < count → text ≡ field ifs line → next ≡ found ++ text ∷ [] → next ++ texts ifs (count - 1) (behind ifs line) ≡ found ++ texts ifs count line
on ifs count line found next text h t n =
    rw (n, t) (put_behind found (texts ifs (count - 1) (behind ifs line)) (field ifs line) ∙ ap (λ all. found ++ all) (one_more ifs count line h))

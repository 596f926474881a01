-- What stands before the last word.
use Rattle.std.proofs.Common.{◌≡◌, ◌++◌, ℕ, List, [], ◌∷◌, true, false, Some, None, codes, if◌then◌else◌, ap, sym}
use Rattle.std.specs.Str.{bytes_eq}
use Rattle.sh_builtin_regular.specs.Brackets.{behind, bracket_operands}

closed : (words : List (List ℕ)) (last : List ℕ) → bytes_eq last (codes "]") ≡ true → bracket_operands (words ++ last ∷ []) ≡ Some words
closed [] last h = ap (λ b. if b then Some [] else None) h
closed (word ∷ []) last h = ap (behind word) (closed [] last h)
closed (word ∷ next ∷ words) last h = ap (behind word) (closed (next ∷ words) last h)

left_open : (words : List (List ℕ)) (last : List ℕ) → bytes_eq last (codes "]") ≡ false → bracket_operands (words ++ last ∷ []) ≡ None
left_open [] last h = ap (λ b. if b then Some [] else None) h
left_open (word ∷ []) last h = ap (behind word) (left_open [] last h)
left_open (word ∷ next ∷ words) last h = ap (behind word) (left_open (next ∷ words) last h)

pub operands_closed : (words all : List (List ℕ)) (last : List ℕ) → all ≡ words ++ last ∷ [] → bytes_eq last (codes "]") ≡ true → Some words ≡ bracket_operands all
operands_closed words all last e h = rw e (sym (closed words last h))

pub operands_open : (words all : List (List ℕ)) (last : List ℕ) → all ≡ words ++ last ∷ [] → bytes_eq last (codes "]") ≡ false → None ≡ bracket_operands all
operands_open words all last e h = rw e (sym (left_open words last h))

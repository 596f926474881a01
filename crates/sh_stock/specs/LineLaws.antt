-- Laws of lines: what further bytes add.
use Rattle.std.specs.Prelude.{◌≡◌, ℕ, ◌+◌, ◌-◌, ◌<◌, ◌≤◌, ◌==◌, List, [], ◌∷◌, ◌++◌, Bool, true, false, if◌then◌else◌, refl}
use Rattle.std.specs.List.{filter}
use Rattle.std.proofs.Common.{ap, ◌∙◌, sym, arith, append-nil}
use Rattle.std.proofs.lemmas.Bool.Decides.{nat_tests}
use Rattle.std.proofs.lemmas.Grind.{flat_map-append}
use Rattle.std.proofs.lemmas.List.Elements.{filter-append}
use Rattle.sh_stock.specs.Lines.{contains, with_newline, first_lines, is_newline, kept_lines, newlines, unfinished_line, whole_lines}

pub newlines-append : (x y : List ℕ) → newlines (x ++ y) ≡ newlines x + newlines y
newlines-append [] y = omega arith
newlines-append (byte ∷ x) y = let rest = newlines-append x y in grind (arith, nat_tests)

pub first_lines-none : (x : List ℕ) → first_lines 0 x ≡ []
first_lines-none [] = refl
first_lines-none (byte ∷ x) = refl

pub not_zero : (n : ℕ) → 0 < n → (n == 0) ≡ false
not_zero n h = grind (arith, nat_tests)

few_step : (ends : Bool) (n byte : ℕ) (x y : List ℕ) → ((m : ℕ) → newlines x < m → first_lines m (x ++ y) ≡ x ++ first_lines (m - newlines x) y) → (if ends then newlines x + 1 else newlines x) < n → (if n == 0 then [] else byte ∷ first_lines (if ends then n - 1 else n) (x ++ y)) ≡ byte ∷ (x ++ first_lines (n - (if ends then newlines x + 1 else newlines x)) y)
few_step true n byte x y rest h =
    let one_less : (n - 1) - newlines x ≡ n - (newlines x + 1) = omega arith in
    rw (not_zero n (omega arith)) (ap (λ (zs : List ℕ). byte ∷ zs) (rest (n - 1) (omega arith) ∙ ap (λ (k : ℕ). x ++ first_lines k y) one_less))
few_step false n byte x y rest h = rw (not_zero n (omega arith)) (ap (λ (zs : List ℕ). byte ∷ zs) (rest n h))

-- where fewer lines end in the first bytes than are wanted, all of these are wanted
pub first_lines-few : (n : ℕ) (x y : List ℕ) → newlines x < n → first_lines n (x ++ y) ≡ x ++ first_lines (n - newlines x) y
first_lines-few n [] y h = let all : n ≡ n - 0 = omega arith in ap (λ (k : ℕ). first_lines k y) all
first_lines-few n (byte ∷ x) y h = few_step (is_newline byte) n byte x y (λ m l. first_lines-few m x y l) h

pub first_lines-all : (n : ℕ) (x : List ℕ) → newlines x < n → first_lines n x ≡ x
first_lines-all n x h = ap (first_lines n) (sym (append-nil x)) ∙ (first_lines-few n x [] h ∙ append-nil x)

enough_step : (ends : Bool) (n : ℕ) (x y : List ℕ) → ((m : ℕ) → m ≤ newlines x → first_lines m (x ++ y) ≡ first_lines m x) → n ≤ (if ends then newlines x + 1 else newlines x) → first_lines (if ends then n - 1 else n) (x ++ y) ≡ first_lines (if ends then n - 1 else n) x
enough_step true n x y rest h = rest (n - 1) (omega arith)
enough_step false n x y rest h = rest n h

-- where as many lines end in the first bytes as are wanted, no further byte is wanted
pub first_lines-enough : (n : ℕ) (x y : List ℕ) → n ≤ newlines x → first_lines n (x ++ y) ≡ first_lines n x
first_lines-enough n [] y h = let none : n ≡ 0 = omega arith in ap (λ (k : ℕ). first_lines k y) none ∙ first_lines-none y
first_lines-enough n (byte ∷ x) y h =
    ap (λ (zs : List ℕ). if n == 0 then [] else byte ∷ zs) (enough_step (is_newline byte) n x y (λ m l. first_lines-enough m x y l) h)

pub whole_lines-append : (line x y : List ℕ) → whole_lines line (x ++ y) ≡ whole_lines line x ++ whole_lines (unfinished_line line x) y
whole_lines-append line [] y = refl
whole_lines-append line (byte ∷ x) y =
    elim (is_newline byte) as (λ b. (if b then line ∷ whole_lines [] (x ++ y) else whole_lines (line ++ byte ∷ []) (x ++ y)) ≡ (if b then line ∷ whole_lines [] x else whole_lines (line ++ byte ∷ []) x) ++ whole_lines (if b then unfinished_line [] x else unfinished_line (line ++ byte ∷ []) x) y) [
      | true ↦ ap (λ (lines : List (List ℕ)). line ∷ lines) (whole_lines-append [] x y)
      | false ↦ whole_lines-append (line ++ byte ∷ []) x y
    ]

pub unfinished-append : (line x y : List ℕ) → unfinished_line line (x ++ y) ≡ unfinished_line (unfinished_line line x) y
unfinished-append line [] y = refl
unfinished-append line (byte ∷ x) y =
    elim (is_newline byte) as (λ b. (if b then unfinished_line [] (x ++ y) else unfinished_line (line ++ byte ∷ []) (x ++ y)) ≡ unfinished_line (if b then unfinished_line [] x else unfinished_line (line ++ byte ∷ []) x) y) [
      | true ↦ unfinished-append [] x y
      | false ↦ unfinished-append (line ++ byte ∷ []) x y
    ]

pub kept_lines-append : (text line x y : List ℕ) → kept_lines text line (x ++ y) ≡ kept_lines text line x ++ kept_lines text (unfinished_line line x) y
kept_lines-append text line x y =
    rw (whole_lines-append line x y, filter-append (contains text) (whole_lines line x) (whole_lines (unfinished_line line x) y)) (flat_map-append with_newline (filter (contains text) (whole_lines line x)) (filter (contains text) (whole_lines (unfinished_line line x) y)))

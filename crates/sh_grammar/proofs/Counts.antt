-- How often a nonterminal stands on a stack whose top gives way to other symbols.
use Rattle.std.proofs.Common.{◌≡◌, ℕ, ◌+◌, ◌-◌, ◌≤◌, cond, List, [], ◌∷◌, ◌++◌, take, drop, refl, sym, ap, ◌∙◌, arith}
use Rattle.std.specs.Prelude.{nat_eq}
use Rattle.std.specs.List.{count_by}
use Rattle.std.proofs.lemmas.List.{take-append-drop}
use Rattle.std.proofs.lemmas.Bool.{eq-eqb}
use Rattle.std.proofs.lemmas.List.Sums.{sum_by-append, sum_by-cons}
use Rattle.sh_grammar.specs.declared.Symbol.{Symbol}
use Rattle.sh_grammar.specs.declared.Symbol.TheVariants.{Nonterminal}
use Rattle.sh_grammar.specs.Awaited.{is_nonterminal}

count_append : (m : ℕ) (a b : List Symbol) → count_by (is_nonterminal m) (a ++ b) ≡ count_by (is_nonterminal m) a + count_by (is_nonterminal m) b
count_append m a b = sum_by-append (λ x. cond (is_nonterminal m x) 1 0) a b

parts : (m k n b : ℕ) (stack : List Symbol) → n ≡ count_by (is_nonterminal m) stack → b ≡ count_by (is_nonterminal m) (drop k stack) → n ≡ count_by (is_nonterminal m) (take k stack) + b
parts m k n b stack e f =
    e ∙ (ap (count_by (is_nonterminal m)) (sym (take-append-drop k stack)) ∙ (count_append m (take k stack) (drop k stack) ∙ ap (λ x. count_by (is_nonterminal m) (take k stack) + x) (sym f)))

pub counted_above : (m k n b : ℕ) (stack : List Symbol) → n ≡ count_by (is_nonterminal m) stack → b ≡ count_by (is_nonterminal m) (drop k stack) → b ≤ n
counted_above m k n b stack e f = let p = parts m k n b stack e f in omega (arith, p)

pub counted_after : (m k n b a : ℕ) (old above new : List Symbol) → n ≡ count_by (is_nonterminal m) old → b ≡ count_by (is_nonterminal m) (drop k old) → a ≡ count_by (is_nonterminal m) above → new ≡ take k old ++ above → (n - b) + a ≡ count_by (is_nonterminal m) new
counted_after m k n b a old above new e f h s =
    let p = parts m k n b old e f in
    let q : count_by (is_nonterminal m) new ≡ count_by (is_nonterminal m) (take k old) + count_by (is_nonterminal m) above = ap (count_by (is_nonterminal m)) s ∙ count_append m (take k old) above in
    omega (arith, p, q, h)

pub counted_start : (n : ℕ) (symbols : List Symbol) → symbols ≡ Nonterminal n ∷ [] → 1 ≡ count_by (is_nonterminal n) symbols
counted_start n symbols e =
    let first : count_by (is_nonterminal n) (Nonterminal n ∷ []) ≡ cond (nat_eq n n) 1 0 + 0 = sum_by-cons (λ x. cond (is_nonterminal n x) 1 0) (Nonterminal n) [] in
    sym (ap (count_by (is_nonterminal n)) e ∙ (first ∙ ap (λ b. cond b 1 0 + 0) (eq-eqb n n refl)))

-- What a test says that is computed over all classes.
use Rattle.std.proofs.Common.{◌≡◌, ⊎_elim, ℕ, zero, suc, ◌/◌, ◌%◌, ◌^◌, ◌<◌, ◌≤◌, Bool, true, false, List, length, get_or, subst, arith}
use Rattle.std.specs.Prelude.{nat_eq, nat_le}
use Rattle.std.proofs.lemmas.Bool.{and_parts, cases_lt, leb-true}
use Rattle.std.proofs.lemmas.List.{get_or_past}
use Rattle.std.proofs.Math.Nat.{zero-div}
use Rattle.sh_grammar.specs.Tabulation.{has, in_set}
use Rattle.sh_grammar.specs.Passes.{all_below, implies}

pub then_true : (a b : Bool) → implies a b ≡ true → a ≡ true → b ≡ true
then_true true b h k = h
then_true false b h k = absurd (cc)

pub below_at : (f : ℕ → Bool) (m c : ℕ) → all_below f m ≡ true → c < m → f c ≡ true
below_at f zero c h l = absurd (omega arith)
below_at f (suc m) c h l =
    let both = and_parts (f m) (all_below f m) h in
    ⊎_elim (λ (k : c < m). below_at f m c both.1 k) (λ (k : m ≤ c). let e : m ≡ c = omega arith in subst (λ x. f x ≡ true) e both.0) (cases_lt c m)

pub has_class : (ending : ℕ) (masks : List ℕ) (n c : ℕ) → has ending masks n c ≡ true → c < suc ending
has_class ending masks n c h = let l = leb-true c ending (and_parts (nat_le c ending) (in_set (get_or masks n 0) c) h).0 in omega arith

pub has_name : (ending : ℕ) (masks : List ℕ) (n c : ℕ) → has ending masks n c ≡ true → n < length masks
has_name ending masks n c h =
    let b = (and_parts (nat_le c ending) (in_set (get_or masks n 0) c) h).1 in
    ⊎_elim (λ k. k) (λ (k : length masks ≤ n). absurd (none (2 ^ c) (subst (λ x. in_set x c ≡ true) (get_or_past masks n 0 k) b))) (cases_lt n (length masks))
  where
    none : (x : ℕ) → nat_eq ((0 / x) % 2) 1 ≡ true → ⊥
    none x i = let j : false ≡ true = subst (λ y. nat_eq (y % 2) 1 ≡ true) (zero-div x) i in absurd (cc)

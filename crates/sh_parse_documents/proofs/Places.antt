-- Places one after another.
use Rattle.std.proofs.Common.{◌≡◌, ℕ, suc, ◌+◌, ◌-◌, ◌<◌, ◌≤◌, List, [], ◌∷◌, ◌++◌, sym, ap, ◌∙◌, append_assoc, arith}
use Rattle.sh_parse_documents.specs.Documents.{places_from}

pub first_place : (n m : ℕ) → n < m → places_from n (m - n) ≡ n ∷ places_from (suc n) (m - suc n)
first_place n m h =
    let e : m - n ≡ suc (m - suc n) = omega (h, arith) in
    ap (places_from n) e

pub no_place : (n m : ℕ) → m ≤ n → places_from n (m - n) ≡ []
no_place n m h =
    let e : m - n ≡ 0 = omega (h, arith) in
    ap (places_from n) e

-- a place more
pub one_more : (old new all : List ℕ) (n m : ℕ) → new ≡ old ++ n ∷ [] → n < m → old ++ places_from n (m - n) ≡ all → new ++ places_from (n + 1) (m - (n + 1)) ≡ all
one_more old new all n m g h e =
    let s : suc n ≡ n + 1 = omega arith in
    ap (λ l. l ++ places_from (n + 1) (m - (n + 1))) g
    ∙ (append_assoc old (n ∷ []) (places_from (n + 1) (m - (n + 1)))
    ∙ (ap (λ k. old ++ n ∷ places_from k (m - k)) (sym s) ∙ (ap (λ l. old ++ l) (sym (first_place n m h)) ∙ e)))

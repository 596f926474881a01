-- Sorted texts, each once.
use Rattle.std.proofs.Common.{◌≡◌, inl, inr, ⊎_elim, ℕ, zero, suc, ◌<◌, List, [], ◌∷◌, ◌++◌, Bool, true, false, length, map, refl, sym, ap, ◌∙◌, subst, arith, Vec, Global, IsPermutation, Ordering}
use Rattle.std.specs.Prelude.{slice_index_or, ◌↔◌, nat_eq, ◌&&◌}
use Rattle.std.specs.List.{AllByRecursion, Any, Contains, dedup}
use Rattle.std.specs.List.Sorted.{IsSorted, IsStrictlySortedBy}
use Rattle.std.specs.Ordering.{nat_cmp}
use Rattle.std.specs.declared.cmp.Ordering.TheVariants.{Less}
use Rattle.std.specs.Cmp.Lexicographic.{on_texts, on_texts_equal, pointwise, slice_cmp, texts_ties}
use Rattle.std.proofs.lemmas.Bool.{eqb-true}
use Rattle.std.proofs.lemmas.List.Kept.{Any-dedup, Contains-from_dedup, IsStrictlySortedBy-dedup}
use Rattle.std.proofs.lemmas.List.Sorted.{Contains-permutation, IsPermutation-sym}
use Rattle.sh_expand_fields.specs.Pathnames.{IsOne, or_itself}

abbrev Text : Type 0
Text = Vec ℕ Global

abbrev pub bytes : List Text → List (List ℕ)
bytes ys = map (λ y. y.items) ys

abbrev order : Text → Text → Ordering
order x y = slice_cmp nat_cmp x.items y.items

abbrev same : Text → Text → Bool
same x y = pointwise nat_eq x.items y.items

all_less : (x : Text) (ys : List Text) → AllByRecursion (λ y. order x y ≡ Less) ys → AllByRecursion (λ y. slice_cmp nat_cmp x.items y ≡ Less) (bytes ys)
all_less x [] h = tt
all_less x (y ∷ ys) h = (h.0, all_less x ys h.1)

rising : (ys : List Text) → IsStrictlySortedBy order ys → IsStrictlySortedBy (slice_cmp nat_cmp) (bytes ys)
unfolding IsStrictlySortedBy
rising [] h = tt
rising (y ∷ ys) h = (all_less y ys h.0, rising ys h.1)

both : (a b : Bool) → (a && b) ≡ true → (a ≡ true) × (b ≡ true)
both true b h = (refl, h)
both false b h = cc

pub same_bytes : (xs ys : List ℕ) → pointwise nat_eq xs ys ≡ true → xs ≡ ys
same_bytes [] [] h = refl
same_bytes [] (y ∷ ys) h = cc
same_bytes (x ∷ xs) [] h = cc
same_bytes (x ∷ xs) (y ∷ ys) h =
    let p = both (nat_eq x y) (pointwise nat_eq xs ys) h in
    ap (λ a. a ∷ xs) (eqb-true x y p.0) ∙ ap (λ r. y ∷ r) (same_bytes xs ys p.1)

one_at : (k : ℕ) (ys : List Text) (v : Text) (t : List ℕ) → k < length ys → v ≡ slice_index_or ys k v → t ≡ v.items → IsOne t (bytes ys)
one_at k [] v t h e s = absurd (omega arith)
one_at zero (y ∷ ys) v t h e s = inl (s ∙ ap (λ (x : Text). x.items) e)
one_at (suc k) (y ∷ ys) v t h e s = inr (one_at k ys v t (omega arith) e s)

one_from : (ys : List Text) (v : Text) → Contains ys v → IsOne v.items (bytes ys)
one_from ys v c = one_at c.0 ys v v.items c.1 (sym c.2) refl

one_to : (ys : List Text) (t : List ℕ) → IsOne t (bytes ys) → (v : Text) × Contains ys v × (t ≡ v.items)
one_to [] t h = absurd h
one_to (y ∷ ys) t h =
    ⊎_elim
    (λ (e : t ≡ y.items). (y, (0, omega arith, refl), e))
    (λ (k : IsOne t (bytes ys)). let r = one_to ys t k in let l : r.1.0 < length ys = r.1.1 in (r.0, (suc r.1.0, omega arith, r.1.2), r.2))
    h

pub sorted_once : (xs ys zs : List Text) → IsSorted order ys → zs ≡ dedup same ys → IsStrictlySortedBy (slice_cmp nat_cmp) (bytes zs)
sorted_once xs ys zs s e = subst (λ l. IsStrictlySortedBy (slice_cmp nat_cmp) (bytes l)) (sym e) (rising (dedup same ys) (IsStrictlySortedBy-dedup (on_texts (λ (x : Text). x.items)) (λ x y. texts_ties x.items y.items) ys s))

pub same_texts : (xs ys zs : List Text) → IsPermutation xs ys → zs ≡ dedup same ys → (t : List ℕ) → IsOne t (bytes zs) ↔ IsOne t (bytes xs)
same_texts xs ys zs p e t = (
  λ h.
      let r = one_to (dedup same ys) t (subst (λ l. IsOne t (bytes l)) e h) in
      subst (λ x. IsOne x (bytes xs)) (sym r.2) (one_from xs r.0 (Contains-permutation ys xs r.0 (IsPermutation-sym xs ys p) (Contains-from_dedup same ys r.0 r.1))),
  λ h.
      let r = one_to xs t h in
      let a : Any (λ y. same r.0 y ≡ true) (dedup same ys) = Any-dedup (on_texts_equal (λ (x : Text). x.items)) ys r.0 (Contains-permutation xs ys r.0 p r.1) in
      subst (λ l. IsOne t (bytes l)) (sym e) (one_at a.0 (dedup same ys) a.1 t a.2 (sym a.3) (r.2 ∙ same_bytes r.0.items a.1.items a.4)),
)

pub other_bytes : (xs ys : List ℕ) → xs ≡ ys → pointwise nat_eq xs ys ≡ false → ⊥
other_bytes xs ys e h = let r : pointwise nat_eq xs ys ≡ true = subst (λ zs. pointwise nat_eq xs zs ≡ true) e ((on_texts_equal (λ (x : List ℕ). x)).refl xs) in cc

pub only_empty : (xs base : List Text) (v : Text) → xs ≡ base ++ v ∷ [] → base ≡ [] → v.items ≡ [] → bytes xs ≡ [] ∷ []
only_empty xs base v e b i = ap bytes (e ∙ ap (λ (l : List Text). l ++ v ∷ []) b) ∙ ap (λ (l : List ℕ). l ∷ []) i

none : (c : List ℕ → List ℕ → Ordering) → IsStrictlySortedBy c []
unfolding IsStrictlySortedBy
none c = tt

pub none_rises : (xs : List Text) → xs ≡ [] → IsStrictlySortedBy (slice_cmp nat_cmp) (bytes xs)
none_rises xs e = subst (λ l. IsStrictlySortedBy (slice_cmp nat_cmp) (bytes l)) (sym e) (none (slice_cmp nat_cmp))

-- the field itself stands alone
pub itself : (xs ys : List Text) (v : Text) (text : List ℕ) → (length xs ≡ 0) → ys ≡ xs ++ v ∷ [] → v.items ≡ text → bytes ys ≡ or_itself (bytes xs) text
itself [] ys v text h e t = ap bytes e ∙ ap (λ (l : List ℕ). l ∷ []) t
itself (x ∷ xs) ys v text h e t = absurd (omega arith)

pub filled : (xs : List Text) (text : List ℕ) → (length xs ≡ 0 → ⊥) → bytes xs ≡ or_itself (bytes xs) text
filled [] text h = absurd (h refl)
filled (x ∷ xs) text h = refl

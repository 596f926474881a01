-- A descriptor more in the list.
use Rattle.std.proofs.Common.{◌≡◌, ◌⊎◌, ℕ, suc, ◌+◌, List, [], ◌∷◌, ◌++◌, Bool, true, false, ◌==◌, cond, slice_get, refl, sym, ap, ◌∙◌, inl, inr, arith, subst, append_assoc}
use Rattle.slab.specs.Slab.{Slab}
use Rattle.sh_kernel_descriptors.specs.Kept.{Among, IsCounted, Linked, count_of, description_at, listed, named}
use Rattle.sh_kernel_descriptors.specs.declared.description.Description.{Description}
use Rattle.sh_kernel_descriptors.specs.declared.descriptor.Descriptor.{Descriptor}
use Rattle.sh_kernel_descriptors.specs.declared.kept.Entry.{Entry}
use Rattle.sh_kernel_descriptors.specs.declared.kept.Held.{Held}
use Rattle.sh_kernel_descriptors.proofs.Leaving.{named_append}

pub listed_append : (xs ys : List Held) → listed (xs ++ ys) ≡ listed xs ++ listed ys
listed_append [] ys = refl
listed_append (x ∷ xs) ys = ap (λ ds. x.descriptor ∷ ds) (listed_append xs ys)

pub listed_given : (hs hs' : List Held) (h : Held) (ds : List Descriptor) → listed hs ≡ ds → hs' ≡ hs ++ h ∷ [] → listed hs' ≡ ds ++ h.descriptor ∷ []
listed_given hs hs' h ds e p = ap (λ xs. listed xs) p ∙ listed_append hs (h ∷ []) ∙ ap (λ xs. xs ++ h.descriptor ∷ []) e

-- ---- the order of descriptors doesn't matter
pub counted_same : (xs ys : List Held) (entries : Slab Entry) → ((k : ℕ) → named k xs ≡ named k ys) → IsCounted entries xs → IsCounted entries ys
counted_same xs ys entries same c k = c k ∙ ap (λ n. count_of n) (same k)

-- the same key and the same number of a description stand in the list
abbrev pub Stands : Held → List Held → Type 0
Stands h hs = (g : Held) × Among g hs × (g.key ≡ h.key) × (g.descriptor.description ≡ h.descriptor.description)

pub linked_within : (xs ys : List Held) (entries : Slab Entry) (es : List Description) → ((h : Held) → Among h ys → Stands h xs) → Linked xs entries es → Linked ys entries es
linked_within xs ys entries es within l =
    record {
      descriptions = λ h a.
          let w = within h a in
          ap (λ k. description_at entries k) (sym w.2) ∙ l.descriptions w.0 w.1 ∙ ap (λ n. slice_get es n) w.3;
      keys = λ h i a b.
          let v = within h a in
          let w = within i b in
          ap (λ k. k == i.key) (sym v.2) ∙ ap (λ k. v.0.key == k) (sym w.2) ∙ l.keys v.0 w.0 v.1 w.1
          ∙ ap (λ n. n == w.0.descriptor.description) v.3 ∙ ap (λ n. h.descriptor.description == n) w.3;
    }

pub stands : (h : Held) (hs : List Held) → Among h hs → Stands h hs
stands h hs a = (h, a, refl, refl)

pub among_append : (xs ys : List Held) (h : Held) → Among h (xs ++ ys) → Among h xs ⊎ Among h ys
among_append [] ys h a = inr a
among_append (x ∷ xs) ys h (inl e) = inl (inl e)
among_append (x ∷ xs) ys h (inr a) = of_side (among_append xs ys h a)
  where
    of_side : Among h xs ⊎ Among h ys → Among h (x ∷ xs) ⊎ Among h ys
    of_side (inl b) = inl (inr b)
    of_side (inr b) = inr b

pub in_front : (xs ys : List Held) (h : Held) → Among h xs → Among h (xs ++ ys)
in_front [] ys h a = absurd a
in_front (x ∷ xs) ys h (inl e) = inl e
in_front (x ∷ xs) ys h (inr a) = inr (in_front xs ys h a)

pub in_rest : (xs ys : List Held) (h : Held) → Among h ys → Among h (xs ++ ys)
in_rest [] ys h a = a
in_rest (x ∷ xs) ys h a = inr (in_rest xs ys h a)

-- one that stands first in the rest, or at its end
one_last : (xs : List Held) (x : Held) (k : ℕ) → named k (xs ++ x ∷ []) ≡ named k (x ∷ xs)
one_last xs x k = of_test (x.key == k) (named_append k xs (x ∷ []))
  where
    of_test : (b : Bool) → named k (xs ++ x ∷ []) ≡ named k xs + cond b 1 0 → named k (xs ++ x ∷ []) ≡ cond b (suc (named k xs)) (named k xs)
    of_test true e = omega (arith, e)
    of_test false e = omega (arith, e)

moved_last : (more hs : List Held) (x : Held) (k : ℕ) → named k (more ++ x ∷ hs) ≡ named k (more ++ (hs ++ x ∷ []))
moved_last more hs x k = named_append k more (x ∷ hs) ∙ ap (λ n. named k more + n) (sym (one_last hs x k)) ∙ sym (named_append k more (hs ++ x ∷ []))

among_last : (more hs : List Held) (x h : Held) → Among h (more ++ (hs ++ x ∷ [])) → Among h (more ++ x ∷ hs)
among_last more hs x h a = of_side (among_append more (hs ++ x ∷ []) h a)
  where
    of_end : Among h hs ⊎ Among h (x ∷ []) → Among h (more ++ x ∷ hs)
    of_end (inl b) = in_rest more (x ∷ hs) h (inr b)
    of_end (inr (inl e)) = in_rest more (x ∷ hs) h (inl e)
    of_end (inr (inr b)) = absurd b

    of_side : Among h more ⊎ Among h (hs ++ x ∷ []) → Among h (more ++ x ∷ hs)
    of_side (inl b) = in_front more (x ∷ hs) h b
    of_side (inr b) = of_end (among_append hs (x ∷ []) h b)

-- ---- a descriptor is given a number, after what the number referred to was closed: `mid` is the list between
pub counted_given : (old mid new : List Held) (h : Held) (entries entries' : Slab Entry) → new ≡ mid ++ h ∷ []
    → ((more : List Held) → IsCounted entries (more ++ old) → IsCounted entries' (more ++ mid))
    → (more : List Held) → IsCounted entries (more ++ h ∷ old) → IsCounted entries' (more ++ new)
counted_given old mid new h entries entries' e f more c =
    let c1 : IsCounted entries ((more ++ h ∷ []) ++ old) = subst (λ xs. IsCounted entries xs) (sym (append_assoc more (h ∷ []) old)) c in
    let c2 : IsCounted entries' (more ++ h ∷ mid) = subst (λ xs. IsCounted entries' xs) (append_assoc more (h ∷ []) mid) (f (more ++ h ∷ []) c1) in
    subst (λ xs. IsCounted entries' (more ++ xs)) (sym e) (counted_same (more ++ h ∷ mid) (more ++ (mid ++ h ∷ [])) entries' (moved_last more mid h) c2)

pub linked_given : (old mid new : List Held) (h : Held) (entries entries' : Slab Entry) → new ≡ mid ++ h ∷ []
    → ((more : List Held) (es : List Description) → IsCounted entries (more ++ old) → Linked (more ++ old) entries es → Linked (more ++ mid) entries' es)
    → (more : List Held) (es : List Description) → IsCounted entries (more ++ h ∷ old) → Linked (more ++ h ∷ old) entries es → Linked (more ++ new) entries' es
linked_given old mid new h entries entries' e f more es c l =
    let c1 : IsCounted entries ((more ++ h ∷ []) ++ old) = subst (λ xs. IsCounted entries xs) (sym (append_assoc more (h ∷ []) old)) c in
    let l1 : Linked ((more ++ h ∷ []) ++ old) entries es = subst (λ xs. Linked xs entries es) (sym (append_assoc more (h ∷ []) old)) l in
    let l2 : Linked (more ++ h ∷ mid) entries' es = subst (λ xs. Linked xs entries' es) (append_assoc more (h ∷ []) mid) (f (more ++ h ∷ []) es c1 l1) in
    subst (λ xs. Linked (more ++ xs) entries' es) (sym e) (linked_within (more ++ h ∷ mid) (more ++ (mid ++ h ∷ [])) entries' es (λ i a. stands i (more ++ h ∷ mid) (among_last more mid h i a)) l2)

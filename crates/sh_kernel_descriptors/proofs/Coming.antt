-- One more descriptor at an entry, and a new entry.
use Rattle.std.proofs.Common.{◌≡◌, ◌≢◌, ◌⊎◌, nat_le, ℕ, zero, suc, ◌+◌, ◌<◌, ◌≤◌, List, [], ◌∷◌, ◌++◌, length, Bool, true, false, ◌==◌, cond, min, Option, Some, None, slice_get, refl, sym, ap, ◌∙◌, inl, inr, arith, subst, eq-eqb}
use Rattle.std.proofs.lemmas.Bool.{eqb-true}
use Rattle.std.proofs.lemmas.Bool.Decides.{nat_tests}
use Rattle.std.specs.Option.{option_map}
use Rattle.slab.specs.Slab.{Slab, Updates, get}
use Rattle.sh_kernel_descriptors.specs.Counts.{fits, held_left, raised, stays}
use Rattle.sh_kernel_descriptors.specs.declared.descriptor.Closing.{Closing}
use Rattle.sh_kernel_descriptors.specs.Kept.{Among, IsCounted, Linked, count_of, description_at, named}
use Rattle.sh_kernel_descriptors.specs.declared.description.Description.{Description}
use Rattle.sh_kernel_descriptors.specs.declared.kept.Entry.{Entry}
use Rattle.sh_kernel_descriptors.specs.declared.kept.Held.{Held}
use Rattle.sh_kernel_descriptors.proofs.Giving.{Stands, among_append, counted_same, in_front, in_rest, linked_within, stands}
use Rattle.sh_kernel_descriptors.proofs.Leaving.{is_named, named_append, not_gone}
use Rattle.sh_kernel_descriptors.proofs.Places.{apart, false_of, front_place}

-- ---- one more
pub named_within : (k : ℕ) (hs : List Held) → named k hs ≤ length hs
named_within k [] = omega arith
named_within k (h ∷ hs) = of_test (h.key == k) (named_within k hs)
  where
    of_test : (b : Bool) → named k hs ≤ length hs → cond b (suc (named k hs)) (named k hs) ≤ suc (length hs)
    of_test true e = omega (arith, e)
    of_test false e = omega (arith, e)

pub raises : (o : Option Entry) → option_map (λ e. e.description) (raised o) ≡ option_map (λ e. e.description) o
raises None = refl
raises (Some e) = refl

pub raised_counts : (o : Option Entry) (n : ℕ) → n < 18446744073709551615 → n ≢ 0 → option_map (λ e. e.count) o ≡ count_of n → option_map (λ e. e.count) (raised o) ≡ count_of (suc n)
raised_counts o zero small some c = absurd (some refl)
raised_counts None (suc n) small some c = absurd (cc)
raised_counts (Some e) (suc n) small some c =
    let t : e.count ≡ suc n = cc in
    let u : min (e.count + 1) 18446744073709551615 ≡ suc (suc n) = omega (arith, t, small) in
    ap (λ m. Some m) u

named_some : (h : Held) (hs : List Held) → Among h hs → named h.key hs ≢ 0
named_some h hs a e = let n = is_named h hs a in absurd (omega (arith, e, n.1))

-- what is at the other keys is the same, so that all descriptions are
pub counted_shared : (hs : List Held) (entries entries' : Slab Entry) (to h : Held) → named to.key hs < 18446744073709551615 → h.key ≡ to.key → get entries' to.key ≡ raised (get entries to.key) → ((k : ℕ) → k ≢ to.key → get entries' k ≡ get entries k) → Among to hs → IsCounted entries hs → IsCounted entries' (h ∷ hs)
counted_shared hs entries entries' to h small same at others a c k = of_test (to.key == k) refl
  where
    at_key : to.key ≡ k → option_map (λ e. e.count) (get entries' k) ≡ count_of (suc (named k hs))
    at_key e = subst (λ j. option_map (λ x. x.count) (get entries' j) ≡ count_of (suc (named j hs))) e
        (ap (λ o. option_map (λ x. x.count) o) at ∙ raised_counts (get entries to.key) (named to.key hs) small (named_some to hs a) (c to.key))

    of_test : (b : Bool) → (to.key == k) ≡ b → option_map (λ e. e.count) (get entries' k) ≡ count_of (cond (h.key == k) (suc (named k hs)) (named k hs))
    of_test true e =
        let f : true ≡ (h.key == k) = sym (ap (λ j. j == k) same ∙ e) in
        at_key (eqb-true to.key k e) ∙ ap (λ b. count_of (cond b (suc (named k hs)) (named k hs))) f
    of_test false e =
        let f : false ≡ (h.key == k) = sym (ap (λ j. j == k) same ∙ e) in
        ap (λ o. option_map (λ x. x.count) o) (others k (λ t. apart to.key k e (sym t))) ∙ c k ∙ ap (λ b. count_of (cond b (suc (named k hs)) (named k hs))) f

pub alike_shared : (entries entries' : Slab Entry) (key : ℕ) → get entries' key ≡ raised (get entries key) → ((k : ℕ) → k ≢ key → get entries' k ≡ get entries k) → (k : ℕ) → description_at entries' k ≡ description_at entries k
alike_shared entries entries' key at others k = of_test (key == k) refl
  where
    of_test : (b : Bool) → (key == k) ≡ b → description_at entries' k ≡ description_at entries k
    of_test true e = subst (λ j. description_at entries' j ≡ description_at entries j) (eqb-true key k e) (ap (λ o. option_map (λ x. x.description) o) at ∙ raises (get entries key))
    of_test false e = ap (λ o. option_map (λ x. x.description) o) (others k (λ t. apart key k e (sym t)))

pub linked_alike : (hs : List Held) (entries entries' : Slab Entry) (es : List Description) → ((k : ℕ) → description_at entries' k ≡ description_at entries k) → Linked hs entries es → Linked hs entries' es
linked_alike hs entries entries' es same l = record { descriptions = λ h a. same h.key ∙ l.descriptions h a; keys = l.keys }

pub linked_shared : (hs : List Held) (entries entries' : Slab Entry) (es : List Description) (to h : Held) → ((k : ℕ) → description_at entries' k ≡ description_at entries k) → h.key ≡ to.key → h.descriptor.description ≡ to.descriptor.description → Among to hs → Linked hs entries es → Linked (h ∷ hs) entries' es
linked_shared hs entries entries' es to h same key number a l = linked_within hs (h ∷ hs) entries' es within (linked_alike hs entries entries' es same l)
  where
    within : (g : Held) → Among g (h ∷ hs) → Stands g hs
    within g (inl e) = (to, a, sym key ∙ ap (λ (x : Held). x.key) e, sym number ∙ ap (λ (x : Held). x.descriptor.description) e)
    within g (inr b) = stands g hs b

-- ---- a new entry
-- no descriptor names a key that is free
unnamed : (hs : List Held) (entries : Slab Entry) (key : ℕ) (h : Held) → IsCounted entries hs → get entries key ≡ None → Among h hs → h.key ≡ key → ⊥
unnamed hs entries key h c free a e =
    let n = is_named h hs a in
    not_gone (get entries h.key) (named h.key hs) n.0 n.1 (c h.key) (ap (λ k. get entries k) e ∙ free)

not_named : (n : ℕ) → None ≡ count_of n → n ≡ 0
not_named zero e = refl
not_named (suc n) e = absurd (cc)

pub counted_new : (hs : List Held) (entries entries' : Slab Entry) (e : Entry) (h : Held) → e.count ≡ 1 → get entries h.key ≡ None → Updates entries entries' h.key (Some e) → IsCounted entries hs → IsCounted entries' (h ∷ hs)
counted_new hs entries entries' e h one free u c k = of_test (h.key == k) refl
  where
    none : named h.key hs ≡ 0
    none = not_named (named h.key hs) (sym (ap (λ o. option_map (λ x. x.count) o) free) ∙ c h.key)

    of_test : (b : Bool) → (h.key == k) ≡ b → option_map (λ x. x.count) (get entries' k) ≡ count_of (cond b (suc (named k hs)) (named k hs))
    of_test true t =
        let s : h.key ≡ k = eqb-true h.key k t in
        let n : named k hs ≡ 0 = sym (ap (λ j. named j hs) s) ∙ none in
        ap (λ j. option_map (λ x. x.count) (get entries' j)) (sym s) ∙ ap (λ o. option_map (λ x. x.count) o) u.changed ∙ ap (λ m. Some m) one ∙ ap (λ m. count_of (suc m)) (sym n)
    of_test false t = ap (λ o. option_map (λ x. x.count) o) (u.others k (λ s. apart h.key k t (sym s))) ∙ c k

last_place : (es : List Description) (d : Description) → slice_get (es ++ d ∷ []) (length es) ≡ Some d
last_place [] d = refl
last_place (e ∷ es) d = last_place es d

in_place : (es : List Description) (n : ℕ) → slice_get es n ≢ None → n < length es
in_place [] n some = absurd (some refl)
in_place (e ∷ es) zero some = omega arith
in_place (e ∷ es) (suc n) some = omega (arith, in_place es n some)

no_description : (o : Option Entry) → option_map (λ e. e.description) o ≡ None → o ≡ None
no_description None e = refl
no_description (Some x) e = absurd (cc)

pub below : (hs : List Held) (entries : Slab Entry) (es : List Description) (h : Held) → IsCounted entries hs → Linked hs entries es → Among h hs → h.descriptor.description < length es
below hs entries es h c l a =
    let n = is_named h hs a in
    in_place es h.descriptor.description (λ e. not_gone (get entries h.key) (named h.key hs) n.0 n.1 (c h.key) (no_description (get entries h.key) (l.descriptions h a ∙ e)))

pub linked_new : (hs : List Held) (entries entries' : Slab Entry) (es : List Description) (e : Entry) (h : Held) → h.descriptor.description ≡ length es → get entries h.key ≡ None → Updates entries entries' h.key (Some e) → IsCounted entries hs → Linked hs entries es → Linked (h ∷ hs) entries' (es ++ e.description ∷ [])
linked_new hs entries entries' es e h number free u c l = record { descriptions = seen; keys = told }
  where
    more : List Description
    more = es ++ e.description ∷ []

    seen : (g : Held) → Among g (h ∷ hs) → description_at entries' g.key ≡ slice_get more g.descriptor.description
    seen g (inl s) =
        ap (λ (x : Held). description_at entries' x.key) (sym s) ∙ ap (λ o. option_map (λ x. x.description) o) u.changed ∙ sym (last_place es e.description)
        ∙ ap (λ n. slice_get more n) (sym number) ∙ ap (λ (x : Held). slice_get more x.descriptor.description) s
    seen g (inr a) =
        ap (λ o. option_map (λ x. x.description) o) (u.others g.key (λ s. unnamed hs entries h.key g c free a s)) ∙ l.descriptions g a
        ∙ sym (front_place es (e.description ∷ []) g.descriptor.description (below hs entries es g c l a))

    differ : (a b : ℕ) → (a ≡ b → ⊥) → (a == b) ≡ false
    differ a b n = false_of (a == b) (λ t. n (eqb-true a b t))

    new_old : (g : Held) → Among g hs → (h.key == g.key) ≡ (h.descriptor.description == g.descriptor.description)
    new_old g a =
        let lt = below hs entries es g c l a in
        differ h.key g.key (λ s. unnamed hs entries h.key g c free a (sym s))
        ∙ sym (differ h.descriptor.description g.descriptor.description (λ s. absurd (omega (arith, lt, number, s))))

    old_new : (g : Held) → Among g hs → (g.key == h.key) ≡ (g.descriptor.description == h.descriptor.description)
    old_new g a =
        let lt = below hs entries es g c l a in
        differ g.key h.key (λ s. unnamed hs entries h.key g c free a s)
        ∙ sym (differ g.descriptor.description h.descriptor.description (λ s. absurd (omega (arith, lt, number, s))))

    told : (g i : Held) → Among g (h ∷ hs) → Among i (h ∷ hs) → (g.key == i.key) ≡ (g.descriptor.description == i.descriptor.description)
    told g i (inl s) (inl t) =
        let same : g ≡ i = sym s ∙ t in
        eq-eqb g.key i.key (ap (λ (x : Held). x.key) same) ∙ sym (eq-eqb g.descriptor.description i.descriptor.description (ap (λ (x : Held). x.descriptor.description) same))
    told g i (inl s) (inr b) = subst (λ (x : Held). (x.key == i.key) ≡ (x.descriptor.description == i.descriptor.description)) s (new_old i b)
    told g i (inr a) (inl t) = subst (λ (x : Held). (g.key == x.key) ≡ (g.descriptor.description == x.descriptor.description)) t (old_new g a)
    told g i (inr a) (inr b) = l.keys g i a b

-- the rest of a list that is linked is linked
pub linked_behind : (hs : List Held) (entries : Slab Entry) (es : List Description) (h : Held) → Linked (h ∷ hs) entries es → Linked hs entries es
linked_behind hs entries es h l = record { descriptions = λ g a. l.descriptions g (inr a); keys = λ g i a b. l.keys g i (inr a) (inr b) }

pub length_more : (es : List Description) (d : Description) → length (es ++ d ∷ []) ≡ length es + 1
length_more [] d = omega arith
length_more (e ∷ es) d = omega (arith, length_more es d)

-- more descriptions were made since
pub linked_longer : (hs : List Held) (entries : Slab Entry) (es more : List Description) → IsCounted entries hs → Linked hs entries es → Linked hs entries (es ++ more)
linked_longer hs entries es more c l = record {
  descriptions = λ h a. l.descriptions h a ∙ sym (front_place es more h.descriptor.description (below hs entries es h c l a));
  keys = l.keys;
}

-- ---- the new descriptor stands at the end of its table
last_first : (more left : List Held) (h : Held) (k : ℕ) → named k (h ∷ (more ++ left)) ≡ named k (more ++ (left ++ h ∷ []))
last_first more left h k = of_test (h.key == k) (named_append k more (left ++ h ∷ [])) (named_append k left (h ∷ [])) (named_append k more left)
  where
    of_test : (b : Bool) → named k (more ++ (left ++ h ∷ [])) ≡ named k more + named k (left ++ h ∷ []) → named k (left ++ h ∷ []) ≡ named k left + cond b 1 0 → named k (more ++ left) ≡ named k more + named k left
        → cond b (suc (named k (more ++ left))) (named k (more ++ left)) ≡ named k (more ++ (left ++ h ∷ []))
    of_test true e f g = omega (arith, e, f, g)
    of_test false e f g = omega (arith, e, f, g)

among_first : (more left : List Held) (h g : Held) → Among g (more ++ (left ++ h ∷ [])) → Among g (h ∷ (more ++ left))
among_first more left h g a = of_side (among_append more (left ++ h ∷ []) g a)
  where
    of_end : Among g left ⊎ Among g (h ∷ []) → Among g (h ∷ (more ++ left))
    of_end (inl b) = inr (in_rest more left g b)
    of_end (inr (inl e)) = inl e
    of_end (inr (inr b)) = absurd b

    of_side : Among g more ⊎ Among g (left ++ h ∷ []) → Among g (h ∷ (more ++ left))
    of_side (inl b) = inr (in_front more left g b)
    of_side (inr b) = of_end (among_append left (h ∷ []) g b)

pub counted_last : (more left new : List Held) (h : Held) (entries : Slab Entry) → new ≡ left ++ h ∷ [] → IsCounted entries (h ∷ (more ++ left)) → IsCounted entries (more ++ new)
counted_last more left new h entries e c = subst (λ xs. IsCounted entries (more ++ xs)) (sym e) (counted_same (h ∷ (more ++ left)) (more ++ (left ++ h ∷ [])) entries (λ k. last_first more left h k) c)

pub linked_last : (more left new : List Held) (h : Held) (entries : Slab Entry) (es : List Description) → new ≡ left ++ h ∷ [] → Linked (h ∷ (more ++ left)) entries es → Linked (more ++ new) entries es
linked_last more left new h entries es e l =
    subst (λ xs. Linked (more ++ xs) entries es) (sym e) (linked_within (h ∷ (more ++ left)) (more ++ (left ++ h ∷ [])) entries es (λ i a. stands i (h ∷ (more ++ left)) (among_first more left h i a)) l)

-- ---- so few are counted that one more can be
left_fewer : (pid : ℕ) (closing : Closing) (k : ℕ) (hs : List Held) → named k (held_left pid closing hs) ≤ named k hs
left_fewer pid closing k [] = omega arith
left_fewer pid closing k (h ∷ hs) = of_tests (stays pid closing h) (h.key == k) refl (left_fewer pid closing k hs)
  where
    of_tests : (b t : Bool) → (h.key == k) ≡ t → named k (held_left pid closing hs) ≤ named k hs → named k (cond b (h ∷ held_left pid closing hs) (held_left pid closing hs)) ≤ cond t (suc (named k hs)) (named k hs)
    of_tests true true e le = let s = ap (λ x. cond x (suc (named k (held_left pid closing hs))) (named k (held_left pid closing hs))) e in omega (arith, s, le)
    of_tests true false e le = let s = ap (λ x. cond x (suc (named k (held_left pid closing hs))) (named k (held_left pid closing hs))) e in omega (arith, s, le)
    of_tests false true e le = omega (arith, le)
    of_tests false false e le = le

few : (o : Option Entry) (n : ℕ) → fits 1 o ≡ true → option_map (λ e. e.count) o ≡ count_of n → n < 18446744073709551615
few o zero f c = omega arith
few None (suc n) f c = absurd (cc)
few (Some e) (suc n) f c = let t : e.count ≡ suc n = cc in within (nat_le (e.count + 1) 18446744073709551615) refl f t
  where
    within : (b : Bool) → nat_le (e.count + 1) 18446744073709551615 ≡ b → b ≡ true → e.count ≡ suc n → suc n < 18446744073709551615
    within b g h t = let u : nat_le (e.count + 1) 18446744073709551615 ≡ true = g ∙ h in grind (arith, nat_tests)

pub few_left : (pid : ℕ) (closing : Closing) (more hs hs' : List Held) (entries : Slab Entry) (key : ℕ) → hs' ≡ held_left pid closing hs → fits 1 (get entries key) ≡ true → IsCounted entries (more ++ hs) → named key (more ++ hs') < 18446744073709551615
few_left pid closing more hs hs' entries key e f c =
    let all = few (get entries key) (named key (more ++ hs)) f (c key) in
    let same : named key hs' ≡ named key (held_left pid closing hs) = ap (λ xs. named key xs) e in
    omega (arith, all, same, named_append key more hs, named_append key more hs', left_fewer pid closing key hs)

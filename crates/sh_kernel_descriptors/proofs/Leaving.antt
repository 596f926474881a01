-- What closing leaves: the descriptors that stay, and the entries and pipes that these name.
use Rattle.std.proofs.Common.{◌≡◌, ◌⊎◌, ℕ, zero, suc, ◌+◌, ◌-◌, List, [], ◌∷◌, ◌++◌, Bool, true, false, ◌&&◌, ◌==◌, cond, Option, Some, None, not, nat_le, refl, sym, ap, ◌∙◌, inl, inr, arith, subst, eq-eqb}
use Rattle.std.specs.Option.{option_map}
use Rattle.slab.specs.Slab.{Slab, get}
use Rattle.sh_kernel_descriptors.specs.Closings as closings
use Rattle.sh_kernel_descriptors.specs.Counts.{closes, held_left, lowered, released, stays}
use Rattle.sh_kernel_descriptors.specs.Kept.{Among, IsCounted, Linked, count_of, description_at, listed, named}
use Rattle.sh_kernel_descriptors.specs.declared.descriptor.Closing.{Closing}
use Rattle.sh_kernel_descriptors.specs.declared.description.Description.{Description}
use Rattle.sh_kernel_descriptors.specs.declared.kept.Entry.{Entry}
use Rattle.sh_kernel_descriptors.specs.declared.kept.Held.{Held}

-- ---- lists
pub listed_of : (pid : ℕ) (closing : Closing) (hs : List Held) → listed (held_left pid closing hs) ≡ closings.descriptors_left pid closing (listed hs)
listed_of pid closing [] = refl
listed_of pid closing (h ∷ hs) = of_test (stays pid closing h) (listed_of pid closing hs)
  where
    of_test : (b : Bool) → listed (held_left pid closing hs) ≡ closings.descriptors_left pid closing (listed hs) → listed (cond b (h ∷ held_left pid closing hs) (held_left pid closing hs)) ≡ cond b (h.descriptor ∷ closings.descriptors_left pid closing (listed hs)) (closings.descriptors_left pid closing (listed hs))
    of_test true e = ap (λ ds. h.descriptor ∷ ds) e
    of_test false e = e

pub listed_left : (pid : ℕ) (closing : Closing) (hs hs' : List Held) → hs' ≡ held_left pid closing hs → listed hs' ≡ closings.descriptors_left pid closing (listed hs)
listed_left pid closing hs hs' e = ap (λ xs. listed xs) e ∙ listed_of pid closing hs

pub left_among : (pid : ℕ) (closing : Closing) (hs : List Held) (h : Held) → Among h (held_left pid closing hs) → Among h hs
left_among pid closing [] h a = a
left_among pid closing (g ∷ hs) h a = of_test (stays pid closing g) (left_among pid closing hs h) a
  where
    of_test : (b : Bool) → (Among h (held_left pid closing hs) → Among h hs) → Among h (cond b (g ∷ held_left pid closing hs) (held_left pid closing hs)) → Among h (g ∷ hs)
    of_test true f (inl e) = inl e
    of_test true f (inr r) = inr (f r)
    of_test false f r = inr (f r)

pub behind : (more hs hs' : List Held) (h : Held) → (Among h hs' → Among h hs) → Among h (more ++ hs') → Among h (more ++ hs)
behind [] hs hs' h f a = f a
behind (g ∷ more) hs hs' h f (inl e) = inl e
behind (g ∷ more) hs hs' h f (inr r) = inr (behind more hs hs' h f r)

-- ---- counts
pub named_append : (k : ℕ) (xs ys : List Held) → named k (xs ++ ys) ≡ named k xs + named k ys
named_append k [] ys = omega arith
named_append k (x ∷ xs) ys = of_test (x.key == k) (named_append k xs ys)
  where
    of_test : (b : Bool) → named k (xs ++ ys) ≡ named k xs + named k ys → cond b (suc (named k (xs ++ ys))) (named k (xs ++ ys)) ≡ cond b (suc (named k xs)) (named k xs) + named k ys
    of_test true e = omega (arith, e)
    of_test false e = e

one_less : (o : Option Entry) (m : ℕ) → option_map (λ e. e.count) o ≡ Some (suc m) → option_map (λ e. e.count) (lowered o) ≡ count_of m
one_less None m e = absurd (cc)
one_less (Some x) zero e = let c : x.count ≡ 1 = cc in rw c refl
one_less (Some x) (suc m) e =
    let c : x.count ≡ suc (suc m) = cc in
    let t : nat_le x.count 1 ≡ false = grind arith in
    let d : x.count - 1 ≡ suc m = omega arith in
    ap (λ b. option_map (λ (y : Entry). y.count) (cond b None (Some (record x { count = x.count - 1 })))) t ∙ ap (λ n. Some n) d

released_counts : (pid : ℕ) (closing : Closing) (k : ℕ) (hs : List Held) (o : Option Entry) (n : ℕ) → option_map (λ e. e.count) o ≡ count_of (named k hs + n) → option_map (λ e. e.count) (released pid closing k hs o) ≡ count_of (named k (held_left pid closing hs) + n)
released_counts pid closing k [] o n e = e
released_counts pid closing k (h ∷ hs) o n e = of_tests (closings.goes pid closing h.descriptor) (h.key == k) refl (released_counts pid closing k hs) e
  where
    of_tests : (g b : Bool) → (h.key == k) ≡ b
        → ((p : Option Entry) (m : ℕ) → option_map (λ x. x.count) p ≡ count_of (named k hs + m) → option_map (λ x. x.count) (released pid closing k hs p) ≡ count_of (named k (held_left pid closing hs) + m))
        → option_map (λ x. x.count) o ≡ count_of (cond b (suc (named k hs)) (named k hs) + n)
        → option_map (λ x. x.count) (released pid closing k hs (cond (g && b) (lowered o) o)) ≡ count_of (named k (cond (not g) (h ∷ held_left pid closing hs) (held_left pid closing hs)) + n)
    of_tests true true t f c =
        let one : suc (named k hs) + n ≡ suc (named k hs + n) = omega arith in
        f (lowered o) n (one_less o (named k hs + n) (c ∙ ap (λ m. count_of m) one))
    of_tests true false t f c = f o n c
    of_tests false true t f c =
        let more : suc (named k hs) + n ≡ named k hs + suc n = omega arith in
        let less : named k (held_left pid closing hs) + suc n ≡ suc (named k (held_left pid closing hs)) + n = omega arith in
        let back : suc (named k (held_left pid closing hs)) + n ≡ cond (h.key == k) (suc (named k (held_left pid closing hs))) (named k (held_left pid closing hs)) + n = ap (λ b. cond b (suc (named k (held_left pid closing hs))) (named k (held_left pid closing hs)) + n) (sym t) in
        f o (suc n) (c ∙ ap (λ m. count_of m) more) ∙ ap (λ m. count_of m) (less ∙ back)
    of_tests false false t f c =
        let back : named k (held_left pid closing hs) + n ≡ cond (h.key == k) (suc (named k (held_left pid closing hs))) (named k (held_left pid closing hs)) + n = ap (λ b. cond b (suc (named k (held_left pid closing hs))) (named k (held_left pid closing hs)) + n) (sym t) in
        f o n c ∙ ap (λ m. count_of m) back

pub counted_left : (pid : ℕ) (closing : Closing) (hs hs' : List Held) (entries entries' : Slab Entry) → hs' ≡ held_left pid closing hs → ((k : ℕ) → get entries' k ≡ released pid closing k hs (get entries k)) → (more : List Held) → IsCounted entries (more ++ hs) → IsCounted entries' (more ++ hs')
counted_left pid closing hs hs' entries entries' e r more c k =
    let before : named k (more ++ hs) ≡ named k hs + named k more = omega (arith, named_append k more hs) in
    let after : named k (held_left pid closing hs) + named k more ≡ named k (more ++ held_left pid closing hs) = omega (arith, named_append k more (held_left pid closing hs)) in
    ap (λ o. option_map (λ x. x.count) o) (r k)
    ∙ released_counts pid closing k hs (get entries k) (named k more) (c k ∙ ap (λ m. count_of m) before)
    ∙ ap (λ m. count_of m) after
    ∙ ap (λ xs. count_of (named k (more ++ xs))) (sym e)

-- ---- descriptions
-- there is nothing any more, or still the same description
abbrev pub Thins : Option Entry → Option Entry → Type 0
Thins o o' = (o' ≡ None) ⊎ (option_map (λ e. e.description) o' ≡ option_map (λ e. e.description) o)

lowers : (o : Option Entry) → Thins o (lowered o)
lowers None = inl refl
lowers (Some e) = of_test (nat_le e.count 1)
  where
    of_test : (b : Bool) → Thins (Some e) (cond b None (Some (record e { count = e.count - 1 })))
    of_test true = inl refl
    of_test false = inr refl

none_left : (pid : ℕ) (closing : Closing) (k : ℕ) (hs : List Held) → released pid closing k hs None ≡ None
none_left pid closing k [] = refl
none_left pid closing k (h ∷ hs) = of_test (closes pid closing k h) (none_left pid closing k hs)
  where
    of_test : (b : Bool) → released pid closing k hs None ≡ None → released pid closing k hs (cond b None None) ≡ None
    of_test true e = e
    of_test false e = e

pub released_thins : (pid : ℕ) (closing : Closing) (k : ℕ) (hs : List Held) (o : Option Entry) → Thins o (released pid closing k hs o)
released_thins pid closing k [] o = inr refl
released_thins pid closing k (h ∷ hs) o = of_test (closes pid closing k h) (released_thins pid closing k hs)
  where
    joined : (a : Option Entry) → Thins o a → Thins a (released pid closing k hs a) → Thins o (released pid closing k hs a)
    joined a (inl e) t = inl (ap (λ x. released pid closing k hs x) e ∙ none_left pid closing k hs)
    joined a (inr e) (inl n) = inl n
    joined a (inr e) (inr d) = inr (d ∙ e)

    of_test : (b : Bool) → ((a : Option Entry) → Thins a (released pid closing k hs a)) → Thins o (released pid closing k hs (cond b (lowered o) o))
    of_test true f = joined (lowered o) (lowers o) (f (lowered o))
    of_test false f = f o

pub is_named : (h : Held) (hs : List Held) → Among h hs → (m : ℕ) × (named h.key hs ≡ suc m)
is_named h [] a = absurd a
is_named h (g ∷ hs) (inl e) =
    let t : (g.key == h.key) ≡ true = eq-eqb g.key h.key (ap (λ (x : Held). x.key) e) in
    (named h.key hs, ap (λ b. cond b (suc (named h.key hs)) (named h.key hs)) t)
is_named h (g ∷ hs) (inr a) = of_test (g.key == h.key) (is_named h hs a)
  where
    of_test : (b : Bool) → (m : ℕ) × (named h.key hs ≡ suc m) → (m : ℕ) × (cond b (suc (named h.key hs)) (named h.key hs) ≡ suc m)
    of_test true r = (named h.key hs, refl)
    of_test false r = r

pub not_gone : (o : Option Entry) (m n : ℕ) → m ≡ suc n → option_map (λ e. e.count) o ≡ count_of m → o ≡ None → ⊥
not_gone None m n s c e = let t : count_of m ≡ Some (suc n) = rw s refl in absurd (cc)
not_gone (Some x) m n s c e = absurd (cc)

-- what a descriptor that is counted names is still there
pub still : (hs : List Held) (entries entries' : Slab Entry) (h : Held) → IsCounted entries' hs → Among h hs → Thins (get entries h.key) (get entries' h.key) → description_at entries' h.key ≡ description_at entries h.key
still hs entries entries' h c a (inl e) = let n = is_named h hs a in absurd (not_gone (get entries' h.key) (named h.key hs) n.0 n.1 (c h.key) e)
still hs entries entries' h c a (inr e) = e

pub linked_left : (pid : ℕ) (closing : Closing) (hs hs' : List Held) (entries entries' : Slab Entry) → hs' ≡ held_left pid closing hs → ((k : ℕ) → get entries' k ≡ released pid closing k hs (get entries k)) → (more : List Held) (es : List Description) → IsCounted entries (more ++ hs) → Linked (more ++ hs) entries es → Linked (more ++ hs') entries' es
linked_left pid closing hs hs' entries entries' e r more es c l =
    let c' : IsCounted entries' (more ++ hs') = counted_left pid closing hs hs' entries entries' e r more c in
    let within : (h : Held) → Among h (more ++ hs') → Among h (more ++ hs) = λ h a. behind more hs hs' h (λ b. left_among pid closing hs h (subst (λ xs. Among h xs) e b)) a in
    record {
      descriptions = λ h a. still (more ++ hs') entries entries' h c' a (subst (λ o. Thins (get entries h.key) o) (sym (r h.key)) (released_thins pid closing h.key hs (get entries h.key))) ∙ l.descriptions h (within h a);
      keys = λ h i a b. l.keys h i (within h a) (within i b);
    }

pub map_same : (o : Option Held) → option_map (λ (h : Held). h) o ≡ o
map_same None = refl
map_same (Some h) = refl

-- What a fork copies.
use Rattle.std.proofs.Common.{◌≡◌, ◌⊎◌, ◌&&◌, ℕ, zero, suc, ◌+◌, ◌<◌, ◌≤◌, List, [], ◌∷◌, ◌++◌, length, map, filter, Bool, true, false, ◌==◌, cond, Option, Some, None, refl, sym, ap, ◌∙◌, inl, inr, arith, subst}
use Rattle.std.specs.List.{list_all}
use Rattle.std.specs.Option.{option_map}
use Rattle.std.proofs.lemmas.Bool.Decides.{nat_tests}
use Rattle.slab.specs.Slab.{Slab, get}
use Rattle.sh_kernel_descriptors.specs.Counts as counts
use Rattle.sh_kernel_descriptors.specs.Counts.{fits, may_come, raised, shared}
use Rattle.sh_kernel_descriptors.specs.Kept.{Among, IsCounted, Linked, Within, count_of, description_at, listed, named}
use Rattle.sh_kernel_descriptors.specs.Copies as fork_copies
use Rattle.sh_kernel_descriptors.specs.declared.description.Description.{Description}
use Rattle.sh_kernel_descriptors.specs.declared.kept.Entry.{Entry}
use Rattle.sh_kernel_descriptors.specs.declared.kept.Held.{Held}
use Rattle.sh_kernel_descriptors.proofs.Coming.{linked_alike, named_within, raised_counts, raises}
use Rattle.sh_kernel_descriptors.proofs.Giving.{Stands, among_append, linked_within, stands}
use Rattle.sh_kernel_descriptors.proofs.Leaving.{is_named, named_append}
use Rattle.sh_kernel_descriptors.proofs.Pairs.{named_among}

pub copies_listed : (hs : List Held) (pid child : ℕ) → listed (counts.copies hs pid child) ≡ fork_copies.copies (listed hs) pid child
copies_listed [] pid child = refl
copies_listed (h ∷ hs) pid child = of_test (counts.is_copied pid h) (copies_listed hs pid child)
  where
    of_test : (b : Bool) → listed (counts.copies hs pid child) ≡ fork_copies.copies (listed hs) pid child
        → listed (map (counts.of_process child) (cond b (h ∷ filter (counts.is_copied pid) hs) (filter (counts.is_copied pid) hs))) ≡ map (fork_copies.of_process child) (cond b (h.descriptor ∷ filter (fork_copies.is_copied pid) (listed hs)) (filter (fork_copies.is_copied pid) (listed hs)))
    of_test true e = ap (λ ds. fork_copies.of_process child h.descriptor ∷ ds) e
    of_test false e = e

copies_among : (hs : List Held) (pid child : ℕ) (g : Held) → Among g (counts.copies hs pid child) → Stands g hs
copies_among [] pid child g a = absurd a
copies_among (h ∷ hs) pid child g a = of_test (counts.is_copied pid h) (copies_among hs pid child g) a
  where
    later : Stands g hs → Stands g (h ∷ hs)
    later s = (s.0, inr s.1, s.2, s.3)

    of_test : (b : Bool) → (Among g (counts.copies hs pid child) → Stands g hs) → Among g (map (counts.of_process child) (cond b (h ∷ filter (counts.is_copied pid) hs) (filter (counts.is_copied pid) hs))) → Stands g (h ∷ hs)
    of_test true f (inl e) = (h, inl refl, ap (λ (x : Held). x.key) e, ap (λ (x : Held). x.descriptor.description) e)
    of_test true f (inr b) = later (f b)
    of_test false f b = later (f b)

shared_counts : (k : ℕ) (cs : List Held) (o : Option Entry) (n : ℕ) → n + named k cs < 18446744073709551616 → (n ≡ 0 → named k cs ≡ 0) → option_map (λ e. e.count) o ≡ count_of n → option_map (λ e. e.count) (shared k cs o) ≡ count_of (n + named k cs)
shared_counts k [] o n small some c = let t : n ≡ n + 0 = omega arith in c ∙ ap (λ m. count_of m) t
shared_counts k (x ∷ cs) o n small some c = of_test (x.key == k) (shared_counts k cs) small some
  where
    of_test : (b : Bool)
        → ((p : Option Entry) (m : ℕ) → m + named k cs < 18446744073709551616 → (m ≡ 0 → named k cs ≡ 0) → option_map (λ e. e.count) p ≡ count_of m → option_map (λ e. e.count) (shared k cs p) ≡ count_of (m + named k cs))
        → n + cond b (suc (named k cs)) (named k cs) < 18446744073709551616 → (n ≡ 0 → cond b (suc (named k cs)) (named k cs) ≡ 0)
        → option_map (λ e. e.count) (shared k cs (cond b (raised o) o)) ≡ count_of (n + cond b (suc (named k cs)) (named k cs))
    of_test true f lt one =
        let t : suc n + named k cs ≡ n + suc (named k cs) = omega arith in
        f (raised o) (suc n) (omega (arith, lt)) (λ e. absurd (omega (arith, e))) (raised_counts o n (omega (arith, lt)) (λ e. absurd (omega (arith, one e))) c) ∙ ap (λ m. count_of m) t
    of_test false f lt one = f o n lt one c

shared_alike : (k : ℕ) (cs : List Held) (o : Option Entry) → option_map (λ e. e.description) (shared k cs o) ≡ option_map (λ e. e.description) o
shared_alike k [] o = refl
shared_alike k (x ∷ cs) o = of_test (x.key == k) (shared_alike k cs)
  where
    of_test : (b : Bool) → ((p : Option Entry) → option_map (λ e. e.description) (shared k cs p) ≡ option_map (λ e. e.description) p) → option_map (λ e. e.description) (shared k cs (cond b (raised o) o)) ≡ option_map (λ e. e.description) o
    of_test true f = f (raised o) ∙ raises o
    of_test false f = f o

shared_none : (k : ℕ) (cs : List Held) (o : Option Entry) → named k cs ≡ 0 → shared k cs o ≡ o
shared_none k [] o e = refl
shared_none k (x ∷ cs) o e = of_test (x.key == k) (shared_none k cs) e
  where
    of_test : (b : Bool) → ((p : Option Entry) → named k cs ≡ 0 → shared k cs p ≡ p) → cond b (suc (named k cs)) (named k cs) ≡ 0 → shared k cs (cond b (raised o) o) ≡ o
    of_test true f z = absurd (omega (arith, z))
    of_test false f z = f o z

all_true : (f : Held → Bool) (hs : List Held) (h : Held) → list_all f hs ≡ true → Among h hs → f h ≡ true
all_true f [] h e a = absurd a
all_true f (g ∷ hs) h e a = of_test (f g) refl (all_true f hs h) e a
  where
    of_test : (b : Bool) → f g ≡ b → (list_all f hs ≡ true → Among h hs → f h ≡ true) → (b && list_all f hs) ≡ true → Among h (g ∷ hs) → f h ≡ true
    of_test true t r s (inl i) = ap (λ x. f x) (sym i) ∙ t
    of_test true t r s (inr i) = r s i
    of_test false t r s i = absurd (cc)

-- so many can be counted
enough : (o : Option Entry) (n m l : ℕ) → fits l o ≡ true → m ≤ l → option_map (λ e. e.count) o ≡ count_of (suc n) → suc n + m < 18446744073709551616
enough None n m l f le c = absurd (cc)
enough (Some e) n m l f le c =
    let t : e.count ≡ suc n = cc in
    let u : e.count + l ≤ 18446744073709551615 = grind (arith, nat_tests) in
    omega (arith, t, u, le)

pub counted_copied : (all hs cs : List Held) (pid child : ℕ) (entries entries' : Slab Entry) → cs ≡ counts.copies hs pid child → may_come entries cs ≡ true → Within hs all → ((k : ℕ) → get entries' k ≡ shared k cs (get entries k)) → IsCounted entries all → IsCounted entries' (all ++ cs)
counted_copied all hs cs pid child entries entries' e room within r c k =
    ap (λ o. option_map (λ x. x.count) o) (r k) ∙ of_count (named k cs) refl ∙ ap (λ m. count_of m) (sym (named_append k all cs))
  where
    copied : (g : Held) → Among g cs → Stands g hs
    copied g a = copies_among hs pid child g (subst (λ xs. Among g xs) e a)

    some : (n : ℕ) → named k cs ≡ suc n → (h : Held) × Among h cs × (h.key ≡ k) → option_map (λ x. x.count) (shared k cs (get entries k)) ≡ count_of (named k all + named k cs)
    some n t h =
        let s = copied h.0 h.1 in
        let a = within s.0 s.1 in
        let m = is_named s.0 all a in
        let here : named k all ≡ suc m.0 = ap (λ j. named j all) (sym h.2 ∙ sym s.2) ∙ m.1 in
        let f : fits (length cs) (get entries k) ≡ true = ap (λ j. fits (length cs) (get entries j)) (sym h.2) ∙ all_true (λ g. fits (length cs) (get entries g.key)) cs h.0 room h.1 in
        shared_counts k cs (get entries k) (named k all) (omega (arith, here, enough (get entries k) m.0 (named k cs) (length cs) f (named_within k cs) (c k ∙ ap (λ j. count_of j) here))) (λ z. absurd (omega (arith, z, here))) (c k)

    of_count : (n : ℕ) → named k cs ≡ n → option_map (λ x. x.count) (shared k cs (get entries k)) ≡ count_of (named k all + named k cs)
    of_count zero t =
        let sum : named k all ≡ named k all + named k cs = omega (arith, t) in
        ap (λ o. option_map (λ x. x.count) o) (shared_none k cs (get entries k) t) ∙ c k ∙ ap (λ j. count_of j) sum
    of_count (suc n) t = some n t (named_among k cs n t)

pub linked_copied : (all hs cs : List Held) (pid child : ℕ) (entries entries' : Slab Entry) (es : List Description) → cs ≡ counts.copies hs pid child → Within hs all → ((k : ℕ) → get entries' k ≡ shared k cs (get entries k)) → Linked all entries es → Linked (all ++ cs) entries' es
linked_copied all hs cs pid child entries entries' es e within r l =
    linked_within all (all ++ cs) entries' es (λ g a. of_side g (among_append all cs g a)) (linked_alike all entries entries' es same l)
  where
    same : (k : ℕ) → description_at entries' k ≡ description_at entries k
    same k = ap (λ o. option_map (λ x. x.description) o) (r k) ∙ shared_alike k cs (get entries k)

    of_side : (g : Held) → Among g all ⊎ Among g cs → Stands g all
    of_side g (inl a) = stands g all a
    of_side g (inr a) = let s = copies_among hs pid child g (subst (λ xs. Among g xs) e a) in (s.0, within s.0 s.1, s.2, s.3)

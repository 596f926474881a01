-- A descriptor gets another number: its description and its entry stay.
use Rattle.std.proofs.Common.{◌≡◌, ◌⊎◌, ℕ, zero, suc, List, [], ◌∷◌, ◌++◌, ◌==◌, ◌+◌, length, nat_lt, not, cond, Option, Some, None, position, slice_get, slice_set, refl, sym, ap, ◌∙◌, inl, inr, subst}
use Rattle.std.specs.List.{position_or_len}
use Rattle.std.specs.Option.{option_map}
use Rattle.slab.specs.Slab.{Slab}
use Rattle.sh_kernel_descriptors.specs.Counts.{is_of_name, renamed, renamed_at, renumbered}
use Rattle.sh_kernel_descriptors.specs.Descriptors as names
use Rattle.sh_kernel_descriptors.specs.Kept.{Among, IsCounted, Linked, listed, named}
use Rattle.sh_kernel_descriptors.specs.Naming as naming
use Rattle.sh_kernel_descriptors.specs.declared.descriptor.Descriptor.{Descriptor}
use Rattle.sh_kernel_descriptors.specs.declared.descriptor.DescriptorRef.{DescriptorRef}
use Rattle.sh_kernel_descriptors.specs.declared.description.Description.{Description}
use Rattle.sh_kernel_descriptors.specs.declared.kept.Entry.{Entry}
use Rattle.sh_kernel_descriptors.specs.declared.kept.Held.{Held}
use Rattle.sh_kernel_descriptors.proofs.Giving.{Stands, among_append, counted_same, in_front, in_rest, linked_within, stands}
use Rattle.sh_kernel_descriptors.proofs.Leaving.{named_append}

place_of : (pid : ℕ) (name : DescriptorRef) (hs : List Held) → position_or_len (is_of_name pid name) hs ≡ position_or_len (names.is_named pid name) (listed hs)
place_of pid name [] = refl
place_of pid name (h ∷ hs) = ap (λ n. cond (not (is_of_name pid name h)) (1 + n) 0) (place_of pid name hs)

listed_length : (hs : List Held) → length hs ≡ length (listed hs)
listed_length [] = refl
listed_length (h ∷ hs) = ap (λ n. suc n) (listed_length hs)

position_of : (pid : ℕ) (name : DescriptorRef) (hs : List Held) → position (is_of_name pid name) hs ≡ position (names.is_named pid name) (listed hs)
position_of pid name hs =
    ap (λ n. cond (nat_lt n (length hs)) (Some n) None) (place_of pid name hs)
    ∙ ap (λ n. cond (nat_lt (position_or_len (names.is_named pid name) (listed hs)) n) (Some (position_or_len (names.is_named pid name) (listed hs))) None) (listed_length hs)

get_listed : (hs : List Held) (i : ℕ) → option_map (λ h. h.descriptor) (slice_get hs i) ≡ slice_get (listed hs) i
get_listed [] i = refl
get_listed (h ∷ hs) zero = refl
get_listed (h ∷ hs) (suc i) = get_listed hs i

set_listed : (hs : List Held) (i : ℕ) (h : Held) → listed (slice_set hs i h) ≡ slice_set (listed hs) i h.descriptor
set_listed [] i h = refl
set_listed (g ∷ hs) zero h = refl
set_listed (g ∷ hs) (suc i) h = ap (λ ds. g.descriptor ∷ ds) (set_listed hs i h)

listed_renamed : (pid : ℕ) (name : DescriptorRef) (number : Option ℕ) (hs : List Held) → listed (renamed hs pid name number) ≡ naming.after_renaming (listed hs) pid name number
listed_renamed pid name number hs = of_place (position (is_of_name pid name) hs) (position (names.is_named pid name) (listed hs)) (position_of pid name hs)
  where
    of_found : (i : ℕ) (o : Option Held) (d : Option Descriptor) → option_map (λ h. h.descriptor) o ≡ d → listed (renumbered hs number i o) ≡ naming.after_renumbering (listed hs) number i d
    of_found i None None e = refl
    of_found i None (Some d) e = absurd (cc)
    of_found i (Some h) None e = absurd (cc)
    of_found i (Some h) (Some d) e =
        let t : h.descriptor ≡ d = cc in
        set_listed hs i (record h { descriptor = record h.descriptor { number = number } }) ∙ ap (λ (x : Descriptor). slice_set (listed hs) i (record x { number = number })) t

    of_place : (x y : Option ℕ) → x ≡ y → listed (renamed_at hs number x) ≡ naming.renamed_at (listed hs) number y
    of_place None None e = refl
    of_place None (Some j) e = absurd (cc)
    of_place (Some i) None e = absurd (cc)
    of_place (Some i) (Some j) e =
        let t : i ≡ j = cc in
        of_found i (slice_get hs i) (slice_get (listed hs) i) (get_listed hs i) ∙ ap (λ k. naming.after_renumbering (listed hs) number k (slice_get (listed hs) k)) t

named_set : (k : ℕ) (hs : List Held) (i : ℕ) (h : Held) (d : Descriptor) → slice_get hs i ≡ Some h → named k hs ≡ named k (slice_set hs i (record h { descriptor = d }))
named_set k [] i h d e = refl
named_set k (g ∷ hs) zero h d e =
    let t : g ≡ h = cc in
    ap (λ (x : Held). cond (x.key == k) (suc (named k hs)) (named k hs)) t
named_set k (g ∷ hs) (suc i) h d e = ap (λ n. cond (g.key == k) (suc n) n) (named_set k hs i h d e)

among_set : (hs : List Held) (i : ℕ) (h : Held) (number : Option ℕ) (g : Held) → slice_get hs i ≡ Some h → Among g (slice_set hs i (record h { descriptor = record h.descriptor { number = number } })) → Stands g hs
among_set [] i h number g e a = absurd a
among_set (x ∷ hs) zero h number g e (inl s) =
    let t : x ≡ h = cc in
    (h, inl t, ap (λ (y : Held). y.key) s, ap (λ (y : Held). y.descriptor.description) s)
among_set (x ∷ hs) zero h number g e (inr a) = (g, inr a, refl, refl)
among_set (x ∷ hs) (suc i) h number g e (inl s) = (g, inl s, refl, refl)
among_set (x ∷ hs) (suc i) h number g e (inr a) = let r = among_set hs i h number g e a in (r.0, inr r.1, r.2, r.3)

named_renamed : (k : ℕ) (pid : ℕ) (name : DescriptorRef) (number : Option ℕ) (hs : List Held) → named k hs ≡ named k (renamed hs pid name number)
named_renamed k pid name number hs = of_place (position (is_of_name pid name) hs)
  where
    of_found : (i : ℕ) (o : Option Held) → slice_get hs i ≡ o → named k hs ≡ named k (renumbered hs number i o)
    of_found i None e = refl
    of_found i (Some h) e = named_set k hs i h (record h.descriptor { number = number }) e

    of_place : (x : Option ℕ) → named k hs ≡ named k (renamed_at hs number x)
    of_place None = refl
    of_place (Some i) = of_found i (slice_get hs i) refl

among_renamed : (pid : ℕ) (name : DescriptorRef) (number : Option ℕ) (hs : List Held) (g : Held) → Among g (renamed hs pid name number) → Stands g hs
among_renamed pid name number hs g a = of_place (position (is_of_name pid name) hs) a
  where
    of_found : (i : ℕ) (o : Option Held) → slice_get hs i ≡ o → Among g (renumbered hs number i o) → Stands g hs
    of_found i None e b = stands g hs b
    of_found i (Some h) e b = among_set hs i h number g e b

    of_place : (x : Option ℕ) → Among g (renamed_at hs number x) → Stands g hs
    of_place None b = stands g hs b
    of_place (Some i) b = of_found i (slice_get hs i) refl b

pub listed_rename : (pid : ℕ) (name : DescriptorRef) (number : Option ℕ) (hs hs' : List Held) → hs' ≡ renamed hs pid name number → listed hs' ≡ naming.after_renaming (listed hs) pid name number
listed_rename pid name number hs hs' e = ap (λ xs. listed xs) e ∙ listed_renamed pid name number hs

pub counted_rename : (pid : ℕ) (name : DescriptorRef) (number : Option ℕ) (hs hs' : List Held) → hs' ≡ renamed hs pid name number → (more : List Held) (entries : Slab Entry) → IsCounted entries (more ++ hs) → IsCounted entries (more ++ hs')
counted_rename pid name number hs hs' e more entries c =
    let same : (k : ℕ) → named k (more ++ hs) ≡ named k (more ++ renamed hs pid name number) = λ k.
    named_append k more hs ∙ ap (λ n. named k more + n) (named_renamed k pid name number hs) ∙ sym (named_append k more (renamed hs pid name number)) in
    subst (λ xs. IsCounted entries (more ++ xs)) (sym e) (counted_same (more ++ hs) (more ++ renamed hs pid name number) entries same c)

pub linked_rename : (pid : ℕ) (name : DescriptorRef) (number : Option ℕ) (hs hs' : List Held) → hs' ≡ renamed hs pid name number → (more : List Held) (entries : Slab Entry) (es : List Description) → Linked (more ++ hs) entries es → Linked (more ++ hs') entries es
linked_rename pid name number hs hs' e more entries es l =
    subst (λ xs. Linked (more ++ xs) entries es) (sym e) (linked_within (more ++ hs) (more ++ renamed hs pid name number) entries es within l)
  where
    behind : (g : Held) → Stands g hs → Stands g (more ++ hs)
    behind g s = (s.0, in_rest more hs s.0 s.1, s.2, s.3)

    of_side : (g : Held) → Among g more ⊎ Among g (renamed hs pid name number) → Stands g (more ++ hs)
    of_side g (inl a) = stands g (more ++ hs) (in_front more hs g a)
    of_side g (inr a) = behind g (among_renamed pid name number hs g a)

    within : (g : Held) → Among g (more ++ renamed hs pid name number) → Stands g (more ++ hs)
    within g a = of_side g (among_append more (renamed hs pid name number) g a)

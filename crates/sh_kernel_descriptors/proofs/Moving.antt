-- An offset moves.
use Rattle.std.proofs.Common.{◌≡◌, ◌≢◌, ℕ, List, Bool, true, false, ◌==◌, Option, Some, None, slice_get, Result, Ok, Err, refl, sym, ap, ◌∙◌, subst}
use Rattle.std.proofs.lemmas.Bool.{eqb-true}
use Rattle.std.specs.Option.{option_map}
use Rattle.slab.specs.Slab.{Slab, get}
use Rattle.sh_kernel_descriptors.specs.Counts.{moved}
use Rattle.sh_kernel_descriptors.specs.Kept.{Among, IsCounted, Linked, count_of, description_at, named}
use Rattle.sh_kernel_descriptors.specs.Outcomes.{Done, GivesRead, GivesReadTo}
use Rattle.sh_kernel_descriptors.specs.Reading.{moved_of, on_offset, with_offset}
use Rattle.sh_kernel_descriptors.specs.declared.fault.KernelFault.{KernelFault}
use Rattle.sh_kernel_descriptors.specs.declared.description.Description.{Description}
use Rattle.sh_kernel_descriptors.specs.declared.kept.Entry.{Entry}
use Rattle.sh_kernel_descriptors.specs.declared.kept.Held.{Held}
use Rattle.sh_kernel_descriptors.proofs.Places.{apart, other_place, same_place}

counts_same : (offset : ℕ) (o : Option Entry) → option_map (λ e. e.count) (moved offset o) ≡ option_map (λ e. e.count) o
counts_same offset None = refl
counts_same offset (Some e) = refl

pub counted_moved : (entries entries' : Slab Entry) (key offset : ℕ) → get entries' key ≡ moved offset (get entries key) → ((k : ℕ) → k ≢ key → get entries' k ≡ get entries k) → (hs : List Held) → IsCounted entries hs → IsCounted entries' hs
counted_moved entries entries' key offset at others hs c k = of_test (key == k) refl
  where
    of_test : (b : Bool) → (key == k) ≡ b → option_map (λ e. e.count) (get entries' k) ≡ count_of (named k hs)
    of_test true t = subst (λ j. option_map (λ e. e.count) (get entries' j) ≡ count_of (named j hs)) (eqb-true key k t) (ap (λ o. option_map (λ e. e.count) o) at ∙ counts_same offset (get entries key) ∙ c key)
    of_test false t = ap (λ o. option_map (λ e. e.count) o) (others k (λ s. apart key k t (sym s))) ∙ c k

-- the description of the number has the offset where that of the key has it
moves : (es : List Description) (n offset : ℕ) (o : Option Entry) → option_map (λ e. e.description) o ≡ slice_get es n → option_map (λ e. e.description) (moved offset o) ≡ slice_get (with_offset es n offset) n
moves es n offset o e = of_both o (slice_get es n) e refl
  where
    of_both : (o' : Option Entry) (d : Option Description) → option_map (λ x. x.description) o' ≡ d → slice_get es n ≡ d → option_map (λ x. x.description) (moved offset o') ≡ slice_get (moved_of es n offset d) n
    of_both None None f g = sym g
    of_both None (Some d) f g = absurd (cc)
    of_both (Some x) None f g = absurd (cc)
    of_both (Some x) (Some d) f g =
        let t : x.description ≡ d = cc in
        ap (λ (y : Description). Some (record y { offset = offset })) t ∙ sym (same_place es n (record d { offset = offset }) d g)

others_stay : (es : List Description) (n m offset : ℕ) → n ≢ m → slice_get (with_offset es n offset) m ≡ slice_get es m
others_stay es n m offset differ = of_found (slice_get es n)
  where
    of_found : (d : Option Description) → slice_get (moved_of es n offset d) m ≡ slice_get es m
    of_found None = refl
    of_found (Some d) = other_place es n m (record d { offset = offset }) differ

pub linked_moved : (entries entries' : Slab Entry) (h : Held) (offset : ℕ) → get entries' h.key ≡ moved offset (get entries h.key) → ((k : ℕ) → k ≢ h.key → get entries' k ≡ get entries k) → (hs : List Held) (es : List Description) → Among h hs → Linked hs entries es → Linked hs entries' (with_offset es h.descriptor.description offset)
linked_moved entries entries' h offset at others hs es a l = record { descriptions = seen; keys = l.keys }
  where
    of_test : (g : Held) → Among g hs → (b : Bool) → (h.key == g.key) ≡ b → description_at entries' g.key ≡ slice_get (with_offset es h.descriptor.description offset) g.descriptor.description
    of_test g b true t =
        let same : h.descriptor.description ≡ g.descriptor.description = eqb-true h.descriptor.description g.descriptor.description (sym (l.keys h g a b) ∙ t) in
        ap (λ k. description_at entries' k) (sym (eqb-true h.key g.key t)) ∙ ap (λ o. option_map (λ e. e.description) o) at
        ∙ moves es h.descriptor.description offset (get entries h.key) (l.descriptions h a) ∙ ap (λ n. slice_get (with_offset es h.descriptor.description offset) n) same
    of_test g b false t =
        ap (λ o. option_map (λ e. e.description) o) (others g.key (λ s. apart h.key g.key t (sym s))) ∙ l.descriptions g b
        ∙ sym (others_stay es h.descriptor.description g.descriptor.description offset (apart h.descriptor.description g.descriptor.description (sym (l.keys h g a b) ∙ t)))

    seen : (g : Held) → Among g hs → description_at entries' g.key ≡ slice_get (with_offset es h.descriptor.description offset) g.descriptor.description
    seen g b = of_test g b (h.key == g.key) refl

-- ---- a read of a file
pub gives_file : (hs : List Held) (entries entries' : Slab Entry) (es : List Description) (h : Held) (buf buf' : List ℕ) (place : ℕ) (result : Result ℕ KernelFault) (d : Done ℕ (List ℕ)) → GivesRead result buf buf' place d
    → Linked hs entries' (with_offset es h.descriptor.description place) → GivesReadTo (Linked hs entries') result buf buf' (on_offset es h.descriptor.description d)
gives_file hs entries entries' es h buf buf' place (Ok k) d g l = (ap (λ (x : Done ℕ (List ℕ)). x.answer) g.0, g.1, subst (λ n. Linked hs entries' (with_offset es h.descriptor.description n)) (sym (ap (λ (x : Done ℕ (List ℕ)). x.after) g.0)) l)
gives_file hs entries entries' es h buf buf' place (Err fault) d g l = (ap (λ (x : Done ℕ (List ℕ)). x.answer) g.0, g.1, subst (λ n. Linked hs entries' (with_offset es h.descriptor.description n)) (sym (ap (λ (x : Done ℕ (List ℕ)). x.after) g.0)) l)

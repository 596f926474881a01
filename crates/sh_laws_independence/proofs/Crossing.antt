-- Two steps that have nothing in common come to the same in both orders.
use Rattle.std.proofs.Common.{◌≡◌, ◌≢◌, ℕ, zero, suc, List, [], ◌∷◌, Bool, true, false, Option, Some, None, slice_get, slice_set, refl, sym, ap, ◌∙◌}
use Rattle.sh_files_image.specs.declared.node.Node.{Node}
use Rattle.sh_pipe.specs.Pipe.{PipeState}
use Rattle.sh_tty.specs.Happenings.{Happening}
use Rattle.sh_kernel_descriptors.specs.Reading.{moved_of, with_offset}
use Rattle.sh_kernel_descriptors.specs.declared.description.Description.{Description}
use Rattle.sh_kernel.specs.State.{KernelState}
use Rattle.sh_laws_independence.specs.Parts.{Parts}
use Rattle.sh_laws_independence.specs.Independence.{AreApart}
use Rattle.sh_laws_independence.proofs.Steps.{At, IsIn, IsSeen, IsWithin, Step, after, moved, put, shown, with_lists}
use Rattle.sh_laws_independence.proofs.Keeping.{differ, moved_other}

set_both : {X : Type 0} (xs : List X) (i j : ℕ) (x y : X) → i ≢ j → slice_set (slice_set xs i x) j y ≡ slice_set (slice_set xs j y) i x
set_both [] i j x y n = refl
set_both (z ∷ xs) zero zero x y n = absurd (n refl)
set_both (z ∷ xs) zero (suc j) x y n = refl
set_both (z ∷ xs) (suc i) zero x y n = refl
set_both (z ∷ xs) (suc i) (suc j) x y n = ap (λ (zs : List _). z ∷ zs) (set_both xs i j x y (λ e. n (ap (λ k. suc k) e)))

-- where each of two places was found before both moved
moved_found : (es : List Description) (i j a b : ℕ) → i ≢ j → (o o' : Option Description) → slice_get es i ≡ o → slice_get es j ≡ o'
    → moved_of (moved_of es i a o) j b o' ≡ moved_of (moved_of es j b o') i a o
moved_found es i j a b n None None h h' = refl
moved_found es i j a b n None (Some e) h h' = refl
moved_found es i j a b n (Some d) None h h' = refl
moved_found es i j a b n (Some d) (Some e) h h' = set_both es i j (record d { offset = a }) (record e { offset = b }) n

moved_both : (es : List Description) (i j a b : ℕ) → i ≢ j → with_offset (with_offset es i a) j b ≡ with_offset (with_offset es j b) i a
moved_both es i j a b n =
    ap (λ (o : Option Description). moved_of (with_offset es i a) j b o) (moved_other es i a j n)
    ∙ moved_found es i j a b n (slice_get es i) (slice_get es j) refl refl
    ∙ sym (ap (λ (o : Option Description). moved_of (with_offset es j b) i a o) (moved_other es j b i (λ e. n (sym e))))

moves_cross : (changed used : ℕ → Bool) (es : List Description) (o o' : Option (At ℕ)) → ((k : ℕ) → changed k ≡ true → used k ≡ false) → IsIn changed o → IsIn used o' → moved (moved es o) o' ≡ moved (moved es o') o
moves_cross changed used es None None apart c u = refl
moves_cross changed used es None (Some b) apart c u = refl
moves_cross changed used es (Some a) None apart c u = refl
moves_cross changed used es (Some a) (Some b) apart c u = moved_both es a.place b.place a.value b.value (differ changed used a.place b.place apart c u)

puts_cross : {X : Type 0} (changed used : ℕ → Bool) (xs : List X) (o o' : Option (At X)) → ((k : ℕ) → changed k ≡ true → used k ≡ false) → IsIn changed o → IsIn used o' → put (put xs o) o' ≡ put (put xs o') o
puts_cross changed used xs None None apart c u = refl
puts_cross changed used xs None (Some b) apart c u = refl
puts_cross changed used xs (Some a) None apart c u = refl
puts_cross changed used xs (Some a) (Some b) apart c u = set_both xs a.place b.place a.value b.value (differ changed used a.place b.place apart c u)

shows_cross : (changed used : Bool) (hs : List Happening) (o o' : Option (List Happening)) → (changed ≡ true → used ≡ false) → IsSeen changed o → IsSeen used o' → shown (shown hs o) o' ≡ shown (shown hs o') o
shows_cross changed used hs None None apart c u = refl
shows_cross changed used hs None (Some b) apart c u = refl
shows_cross changed used hs (Some a) None apart c u = refl
shows_cross changed used hs (Some a) (Some b) apart c u = let no : used ≡ false = apart c in absurd (cc)

lists_same : (s : KernelState) (es es' : List Description) (ps ps' : List (Option PipeState)) (ns ns' : List Node) (hs hs' : List Happening) → es ≡ es' → ps ≡ ps' → ns ≡ ns' → hs ≡ hs' → with_lists s es ps ns hs ≡ with_lists s es' ps' ns' hs'
lists_same s es es' ps ps' ns ns' hs hs' a b c d =
    ap (λ (x : List Description). with_lists s x ps ns hs) a
    ∙ ap (λ (x : List (Option PipeState)). with_lists s es' x ns hs) b
    ∙ ap (λ (x : List Node). with_lists s es' ps' x hs) c
    ∙ ap (λ (x : List Happening). with_lists s es' ps' ns' x) d

pub steps_cross : (s : KernelState) (c c' : Step) (changed used : Parts) → IsWithin c changed → IsWithin c' used → AreApart changed used → after (after s c) c' ≡ after (after s c') c
steps_cross s c c' changed used w w' a =
    lists_same s _ _ _ _ _ _ _ _
    (moves_cross changed.descriptions used.descriptions s.machine.descriptions c.offset c'.offset a.descriptions w.offset w'.offset)
    (puts_cross changed.pipes used.pipes s.machine.pipes c.pipe c'.pipe a.pipes w.pipe w'.pipe)
    (puts_cross changed.files used.files s.machine.files.nodes c.node c'.node a.files w.node w'.node)
    (shows_cross changed.terminal used.terminal s.terminal c.terminal c'.terminal a.terminal w.terminal w'.terminal)

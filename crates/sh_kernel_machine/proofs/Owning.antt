-- Descriptors by process: what is asked of one process depends on its own alone.
use Rattle.std.proofs.Common.{◌≡◌, ◌≢◌, ◌⊎◌, ℕ, suc, ◌+◌, List, [], ◌∷◌, ◌++◌, length, filter, map, Bool, true, false, not, cond, ◌&&◌, ◌||◌, ◌==◌, Option, Some, None, nat_lt, position, slice_get, refl, sym, ap, ◌∙◌, inl, inr, arith, subst, eq-eqb, is_some}
use Rattle.std.proofs.lemmas.Bool.{eqb-true}
use Rattle.std.specs.Prelude.{find}
use Rattle.std.specs.List.{list_any, position_or_len}
use Rattle.std.specs.Option.{option_map}
use Rattle.sh_kernel_descriptors.specs.Closings as closings
use Rattle.sh_kernel_descriptors.specs.Closings.{Pipes, descriptors_left, pipes_left}
use Rattle.sh_kernel_descriptors.specs.Descriptors as names
use Rattle.sh_kernel_descriptors.specs.Kept.{listed, pipe_made}
use Rattle.sh_kernel_descriptors.specs.Naming as naming
use Rattle.sh_kernel_descriptors.specs.Copies as fork_copies
use Rattle.sh_kernel_descriptors.specs.Counts.{ends_listed}
use Rattle.sh_kernel_descriptors.specs.declared.descriptor.Closing.{Closing}
use Rattle.sh_kernel_descriptors.specs.declared.descriptor.Closing.TheVariants.{Named}
use Rattle.sh_kernel_descriptors.specs.declared.descriptor.DescriptorRef.TheVariants.{Number}
use Rattle.sh_kernel_descriptors.specs.declared.kept.Held.{Held}
use Rattle.sh_kernel_descriptors.specs.declared.descriptor.Descriptor.{Descriptor}
use Rattle.sh_kernel_descriptors.specs.declared.descriptor.DescriptorRef.{DescriptorRef}
use Rattle.sh_kernel_descriptors.specs.declared.description.Description.{Description}
use Rattle.sh_kernel_descriptors.proofs.Going.{closed_end, made_left}
use Rattle.sh_kernel_machine.specs.Tables.{Changes, SameTables, is_of, own}
use Rattle.sh_kernel_machine.proofs.Closing.{others_left}
use Rattle.sh_kernel_machine.proofs.Lists.{apart, false_of}

-- ---- lists
pub own_append : (q : ℕ) (xs ys : List Descriptor) → own q (xs ++ ys) ≡ own q xs ++ own q ys
own_append q [] ys = refl
own_append q (x ∷ xs) ys = of_test (is_of q x) (own_append q xs ys)
  where
    of_test : (b : Bool) → own q (xs ++ ys) ≡ own q xs ++ own q ys → cond b (x ∷ own q (xs ++ ys)) (own q (xs ++ ys)) ≡ cond b (x ∷ own q xs) (own q xs) ++ own q ys
    of_test true e = ap (λ ds. x ∷ ds) e
    of_test false e = e

pub own_twice : (pid : ℕ) (ds : List Descriptor) → own pid (own pid ds) ≡ own pid ds
own_twice pid [] = refl
own_twice pid (d ∷ ds) = of_test (is_of pid d) refl (own_twice pid ds)
  where
    of_test : (b : Bool) → is_of pid d ≡ b → own pid (own pid ds) ≡ own pid ds → own pid (cond b (d ∷ own pid ds) (own pid ds)) ≡ cond b (d ∷ own pid ds) (own pid ds)
    of_test true t e = ap (λ x. cond x (d ∷ own pid (own pid ds)) (own pid (own pid ds))) t ∙ ap (λ xs. d ∷ xs) e
    of_test false t e = e

-- ---- closing
pub own_left : (pid : ℕ) (closing : Closing) (ds : List Descriptor) → own pid (descriptors_left pid closing ds) ≡ descriptors_left pid closing (own pid ds)
own_left pid closing [] = refl
own_left pid closing (d ∷ ds) = of_tests (closings.stays pid closing d) (is_of pid d) refl refl (own_left pid closing ds)
  where
    of_tests : (s b : Bool) → closings.stays pid closing d ≡ s → is_of pid d ≡ b → own pid (descriptors_left pid closing ds) ≡ descriptors_left pid closing (own pid ds)
        → own pid (cond s (d ∷ descriptors_left pid closing ds) (descriptors_left pid closing ds)) ≡ descriptors_left pid closing (cond b (d ∷ own pid ds) (own pid ds))
    of_tests true true t u e =
        ap (λ x. cond x (d ∷ own pid (descriptors_left pid closing ds)) (own pid (descriptors_left pid closing ds))) u ∙ ap (λ xs. d ∷ xs) e
        ∙ sym (ap (λ x. cond x (d ∷ descriptors_left pid closing (own pid ds)) (descriptors_left pid closing (own pid ds))) t)
    of_tests true false t u e = ap (λ x. cond x (d ∷ own pid (descriptors_left pid closing ds)) (own pid (descriptors_left pid closing ds))) u ∙ e
    of_tests false true t u e = e ∙ sym (ap (λ x. cond x (d ∷ descriptors_left pid closing (own pid ds)) (descriptors_left pid closing (own pid ds))) t)
    of_tests false false t u e = e

-- ---- one more descriptor
pub own_given : (pid : ℕ) (d : Descriptor) → d.pid ≡ pid → own pid (d ∷ []) ≡ d ∷ []
own_given pid d e = let t : (d.pid == pid) ≡ true = eq-eqb d.pid pid e in ap (λ b. cond b (d ∷ []) []) t

pub own_other : (pid q : ℕ) (d : Descriptor) → d.pid ≡ pid → q ≢ pid → own q (d ∷ []) ≡ []
own_other pid q d e n = let t : (d.pid == q) ≡ false = false_of (d.pid == q) (λ s. n (sym (eqb-true d.pid q s) ∙ e)) in ap (λ b. cond b (d ∷ []) []) t

-- ---- some descriptor
abbrev pub In : Descriptor → List Descriptor → Type 0
In d [] = ⊥
In d (x ∷ xs) = (x ≡ d) ⊎ In d xs

in_own : (q : ℕ) (ds : List Descriptor) (d : Descriptor) → In d ds → d.pid ≡ q → In d (own q ds)
in_own q [] d a e = absurd a
in_own q (x ∷ ds) d a e = of_test (is_of q x) refl (in_own q ds d) a
  where
    of_test : (b : Bool) → is_of q x ≡ b → (In d ds → d.pid ≡ q → In d (own q ds)) → In d (x ∷ ds) → In d (cond b (x ∷ own q ds) (own q ds))
    of_test true t f (inl s) = inl s
    of_test true t f (inr s) = inr (f s e)
    of_test false t f (inl s) = let u : (x.pid == q) ≡ true = eq-eqb x.pid q (ap (λ (y : Descriptor). y.pid) s ∙ e) in absurd (cc)
    of_test false t f (inr s) = f s e

from_own : (q : ℕ) (ds : List Descriptor) (d : Descriptor) → In d (own q ds) → In d ds
from_own q [] d a = a
from_own q (x ∷ ds) d a = of_test (is_of q x) (from_own q ds d) a
  where
    of_test : (b : Bool) → (In d (own q ds) → In d ds) → In d (cond b (x ∷ own q ds) (own q ds)) → In d (x ∷ ds)
    of_test true f (inl s) = inl s
    of_test true f (inr s) = inr (f s)
    of_test false f s = inr (f s)

there : (ds ds' : List Descriptor) → SameTables ds ds' → (d : Descriptor) → In d ds → In d ds'
there ds ds' same d a = from_own d.pid ds' d (subst (λ xs. In d xs) (same d.pid) (in_own d.pid ds d a refl))

any_in : (f : Descriptor → Bool) (ds : List Descriptor) → list_any f ds ≡ true → (d : Descriptor) × In d ds × (f d ≡ true)
any_in f [] e = absurd (cc)
any_in f (x ∷ ds) e = of_test (f x) refl (any_in f ds) e
  where
    of_test : (b : Bool) → f x ≡ b → (list_any f ds ≡ true → (d : Descriptor) × In d ds × (f d ≡ true)) → (b || list_any f ds) ≡ true → (d : Descriptor) × In d (x ∷ ds) × (f d ≡ true)
    of_test true t r s = (x, inl refl, t)
    of_test false t r s = let w = r s in (w.0, inr w.1, w.2)

in_any : (f : Descriptor → Bool) (ds : List Descriptor) (d : Descriptor) → In d ds → f d ≡ true → list_any f ds ≡ true
in_any f [] d a e = absurd a
in_any f (x ∷ ds) d (inl s) e = ap (λ b. b || list_any f ds) (ap (λ y. f y) s ∙ e)
in_any f (x ∷ ds) d (inr a) e = ap (λ b. f x || b) (in_any f ds d a e) ∙ either (f x)
  where
    either : (b : Bool) → (b || true) ≡ true
    either true = refl
    either false = refl

pub any_same : (f : Descriptor → Bool) (ds ds' : List Descriptor) → SameTables ds ds' → list_any f ds ≡ list_any f ds'
any_same f ds ds' same = of_tests (list_any f ds) (list_any f ds') refl refl
  where
    of_tests : (a b : Bool) → list_any f ds ≡ a → list_any f ds' ≡ b → a ≡ b
    of_tests true true e g = refl
    of_tests false false e g = refl
    of_tests true false e g = let w = any_in f ds e in let t = in_any f ds' w.0 (there ds ds' same w.0 w.1) w.2 in absurd (cc)
    of_tests false true e g = let w = any_in f ds' g in let t = in_any f ds w.0 (there ds' ds (λ q. sym (same q)) w.0 w.1) w.2 in absurd (cc)

-- ---- pipes
pub pipes_same : (pid : ℕ) (closing : Closing) (ds ds' : List Descriptor) (es : List Description) (ps ps' : Pipes) (p : ℕ) → SameTables ds ds' → pipe_made ps p ≡ pipe_made ps' p → pipe_made (pipes_left pid closing ds es ps) p ≡ pipe_made (pipes_left pid closing ds' es ps') p
pipes_same pid closing ds ds' es ps ps' p same at =
    made_left pid closing ds ds es ps p
    ∙ ap (λ b. cond (b && not (closings.is_held pid closing ds es p)) None (pipe_made ps p)) (any_same (closed_end pid closing es p) ds ds' same)
    ∙ ap (λ b. cond (list_any (closed_end pid closing es p) ds' && not b) None (pipe_made ps p)) (any_same (closings.holds pid closing es p) ds ds' same)
    ∙ ap (λ o. cond (list_any (closed_end pid closing es p) ds' && not (closings.is_held pid closing ds' es p)) None o) at
    ∙ sym (made_left pid closing ds' ds' es ps' p)

-- ---- what is found
find_own : (pid : ℕ) (name : DescriptorRef) (ds : List Descriptor) → find (names.is_named pid name) ds ≡ find (names.is_named pid name) (own pid ds)
find_own pid name [] = refl
find_own pid name (d ∷ ds) = of_test (d.pid == pid) refl (find_own pid name ds)
  where
    of_test : (b : Bool) → (d.pid == pid) ≡ b → find (names.is_named pid name) ds ≡ find (names.is_named pid name) (own pid ds)
        → cond (b && names.is_called name d) (Some d) (find (names.is_named pid name) ds) ≡ find (names.is_named pid name) (cond b (d ∷ own pid ds) (own pid ds))
    of_test true t e =
        ap (λ o. cond (names.is_called name d) (Some d) o) e ∙ ap (λ b. cond (b && names.is_called name d) (Some d) (find (names.is_named pid name) (own pid ds))) (sym t)
    of_test false t e = e

pub number_same : (pid : ℕ) (name : DescriptorRef) (ds ds' : List Descriptor) → own pid ds ≡ own pid ds' → names.description_number ds pid name ≡ names.description_number ds' pid name
number_same pid name ds ds' same =
    ap (λ o. option_map (λ (d : Descriptor). d.description) o) (find_own pid name ds ∙ ap (λ xs. find (names.is_named pid name) xs) same ∙ sym (find_own pid name ds'))

-- ---- a descriptor gets another number
abbrev numbered : Option ℕ → Descriptor → Descriptor
numbered number d = record d { number = number }

-- the first of the name
abbrev first_numbered : (Descriptor → Bool) → Option ℕ → List Descriptor → List Descriptor
first_numbered test number [] = []
first_numbered test number (d ∷ ds) = cond (test d) (numbered number d ∷ ds) (d ∷ first_numbered test number ds)

placed : (test : Descriptor → Bool) (number : Option ℕ) (ds : List Descriptor) → naming.renamed_at ds number (position test ds) ≡ first_numbered test number ds
placed test number [] = refl
placed test number (d ∷ ds) = of_test (test d) (placed test number ds)
  where
    after : (n : ℕ) (b : Bool) → naming.renamed_at (d ∷ ds) number (cond b (Some (suc n)) None) ≡ d ∷ naming.renamed_at ds number (cond b (Some n) None)
    after n true = of_found (slice_get ds n)
      where
        of_found : (o : Option Descriptor) → naming.after_renumbering (d ∷ ds) number (suc n) o ≡ d ∷ naming.after_renumbering ds number n o
        of_found None = refl
        of_found (Some x) = refl
    after n false = refl

    of_test : (b : Bool) → naming.renamed_at ds number (position test ds) ≡ first_numbered test number ds
        → naming.renamed_at (d ∷ ds) number (cond (nat_lt (cond (not b) (1 + position_or_len test ds) 0) (suc (length ds))) (Some (cond (not b) (1 + position_or_len test ds) 0)) None) ≡ cond b (numbered number d ∷ ds) (d ∷ first_numbered test number ds)
    of_test true e = ap (λ b. naming.renamed_at (d ∷ ds) number (cond b (Some 0) None)) (let t : nat_lt 0 (suc (length ds)) ≡ true = grind arith in t)
    of_test false e =
        let n : 1 + position_or_len test ds ≡ suc (position_or_len test ds) = omega arith in
        let t : nat_lt (suc (position_or_len test ds)) (suc (length ds)) ≡ nat_lt (position_or_len test ds) (length ds) = grind arith in
        ap (λ m. naming.renamed_at (d ∷ ds) number (cond (nat_lt m (suc (length ds))) (Some m) None)) n
        ∙ ap (λ b. naming.renamed_at (d ∷ ds) number (cond b (Some (suc (position_or_len test ds))) None)) t
        ∙ after (position_or_len test ds) (nat_lt (position_or_len test ds) (length ds)) ∙ ap (λ xs. d ∷ xs) e

own_first : (pid : ℕ) (name : DescriptorRef) (number : Option ℕ) (ds : List Descriptor) → own pid (first_numbered (names.is_named pid name) number ds) ≡ first_numbered (names.is_named pid name) number (own pid ds)
own_first pid name number [] = refl
own_first pid name number (d ∷ ds) = of_tests (d.pid == pid) (names.is_called name d) refl refl (own_first pid name number ds)
  where
    of_tests : (b c : Bool) → (d.pid == pid) ≡ b → names.is_called name d ≡ c → own pid (first_numbered (names.is_named pid name) number ds) ≡ first_numbered (names.is_named pid name) number (own pid ds)
        → own pid (cond (b && c) (numbered number d ∷ ds) (d ∷ first_numbered (names.is_named pid name) number ds)) ≡ first_numbered (names.is_named pid name) number (cond b (d ∷ own pid ds) (own pid ds))
    of_tests true true t u e =
        ap (λ x. cond x (numbered number d ∷ own pid ds) (own pid ds)) t
        ∙ sym (ap (λ x. cond (x && names.is_called name d) (numbered number d ∷ own pid ds) (d ∷ first_numbered (names.is_named pid name) number (own pid ds))) t
        ∙ ap (λ x. cond x (numbered number d ∷ own pid ds) (d ∷ first_numbered (names.is_named pid name) number (own pid ds))) u)
    of_tests true false t u e =
        ap (λ x. cond x (d ∷ own pid (first_numbered (names.is_named pid name) number ds)) (own pid (first_numbered (names.is_named pid name) number ds))) t ∙ ap (λ xs. d ∷ xs) e
        ∙ sym (ap (λ x. cond (x && names.is_called name d) (numbered number d ∷ own pid ds) (d ∷ first_numbered (names.is_named pid name) number (own pid ds))) t
        ∙ ap (λ x. cond x (numbered number d ∷ own pid ds) (d ∷ first_numbered (names.is_named pid name) number (own pid ds))) u)
    of_tests false true t u e = ap (λ x. cond x (d ∷ own pid (first_numbered (names.is_named pid name) number ds)) (own pid (first_numbered (names.is_named pid name) number ds))) t ∙ e
    of_tests false false t u e = ap (λ x. cond x (d ∷ own pid (first_numbered (names.is_named pid name) number ds)) (own pid (first_numbered (names.is_named pid name) number ds))) t ∙ e

first_other : (pid q : ℕ) (name : DescriptorRef) (number : Option ℕ) (ds : List Descriptor) → q ≢ pid → own q (first_numbered (names.is_named pid name) number ds) ≡ own q ds
first_other pid q name number [] n = refl
first_other pid q name number (d ∷ ds) n = of_test (d.pid == pid) refl (names.is_called name d) (first_other pid q name number ds n)
  where
    of_test : (b : Bool) → (d.pid == pid) ≡ b → (c : Bool) → own q (first_numbered (names.is_named pid name) number ds) ≡ own q ds
        → own q (cond (b && c) (numbered number d ∷ ds) (d ∷ first_numbered (names.is_named pid name) number ds)) ≡ cond (d.pid == q) (d ∷ own q ds) (own q ds)
    of_test true t true e =
        let s : (d.pid == q) ≡ false = false_of (d.pid == q) (λ u. n (sym (eqb-true d.pid q u) ∙ eqb-true d.pid pid t)) in
        ap (λ x. cond x (numbered number d ∷ own q ds) (own q ds)) s ∙ sym (ap (λ x. cond x (d ∷ own q ds) (own q ds)) s)
    of_test true t false e = ap (λ xs. cond (d.pid == q) (d ∷ xs) xs) e
    of_test false t c e = ap (λ xs. cond (d.pid == q) (d ∷ xs) xs) e

pub own_renamed : (pid : ℕ) (name : DescriptorRef) (number : Option ℕ) (ds : List Descriptor) → own pid (naming.after_renaming ds pid name number) ≡ naming.after_renaming (own pid ds) pid name number
own_renamed pid name number ds =
    ap (λ xs. own pid xs) (placed (names.is_named pid name) number ds) ∙ own_first pid name number ds ∙ sym (placed (names.is_named pid name) number (own pid ds))

pub other_renamed : (pid q : ℕ) (name : DescriptorRef) (number : Option ℕ) (ds : List Descriptor) → q ≢ pid → own q (naming.after_renaming ds pid name number) ≡ own q ds
other_renamed pid q name number ds n = ap (λ xs. own q xs) (placed (names.is_named pid name) number ds) ∙ first_other pid q name number ds n

-- ---- a fork
pub copies_own : (pid child : ℕ) (ds : List Descriptor) → fork_copies.copies ds pid child ≡ fork_copies.copies (own pid ds) pid child
copies_own pid child [] = refl
copies_own pid child (d ∷ ds) = of_test (d.pid == pid) refl (copies_own pid child ds)
  where
    of_test : (b : Bool) → (d.pid == pid) ≡ b → fork_copies.copies ds pid child ≡ fork_copies.copies (own pid ds) pid child
        → map (fork_copies.of_process child) (cond (b && is_some d.number) (d ∷ filter (fork_copies.is_copied pid) ds) (filter (fork_copies.is_copied pid) ds)) ≡ fork_copies.copies (cond b (d ∷ own pid ds) (own pid ds)) pid child
    of_test true t e =
        of_number (is_some d.number) ∙ sym (ap (λ x. map (fork_copies.of_process child) (cond (x && is_some d.number) (d ∷ filter (fork_copies.is_copied pid) (own pid ds)) (filter (fork_copies.is_copied pid) (own pid ds)))) t)
      where
        of_number : (c : Bool) → map (fork_copies.of_process child) (cond c (d ∷ filter (fork_copies.is_copied pid) ds) (filter (fork_copies.is_copied pid) ds)) ≡ map (fork_copies.of_process child) (cond c (d ∷ filter (fork_copies.is_copied pid) (own pid ds)) (filter (fork_copies.is_copied pid) (own pid ds)))
        of_number true = ap (λ xs. fork_copies.of_process child d ∷ xs) e
        of_number false = e
    of_test false t e = e

own_copied : (child : ℕ) (xs : List Descriptor) → own child (map (fork_copies.of_process child) xs) ≡ map (fork_copies.of_process child) xs
own_copied child [] = refl
own_copied child (x ∷ xs) = let t : (child == child) ≡ true = grind arith in ap (λ b. cond b (fork_copies.of_process child x ∷ own child (map (fork_copies.of_process child) xs)) (own child (map (fork_copies.of_process child) xs))) t ∙ ap (λ ys. fork_copies.of_process child x ∷ ys) (own_copied child xs)

pub copies_of_child : (pid child : ℕ) (ds : List Descriptor) → own child (fork_copies.copies ds pid child) ≡ fork_copies.copies ds pid child
copies_of_child pid child ds = own_copied child (filter (fork_copies.is_copied pid) ds)

pub own_apart : (q k : ℕ) (ds : List Descriptor) → q ≢ k → own q (own k ds) ≡ []
own_apart q k [] n = refl
own_apart q k (d ∷ ds) n = of_test (d.pid == k) refl (own_apart q k ds n)
  where
    of_test : (b : Bool) → (d.pid == k) ≡ b → own q (own k ds) ≡ [] → own q (cond b (d ∷ own k ds) (own k ds)) ≡ []
    of_test true t e =
        let s : (d.pid == q) ≡ false = false_of (d.pid == q) (λ u. n (sym (eqb-true d.pid q u) ∙ eqb-true d.pid k t)) in ap (λ b. cond b (d ∷ own q (own k ds)) (own q (own k ds))) s ∙ e
    of_test false t e = e

pub copies_of_other : (pid child q : ℕ) (ds : List Descriptor) → q ≢ child → own q (fork_copies.copies ds pid child) ≡ []
copies_of_other pid child q ds n = ap (λ xs. own q xs) (sym (copies_of_child pid child ds)) ∙ own_apart q child (fork_copies.copies ds pid child) n

-- ---- one process's descriptors have changed
pub changed : (pid : ℕ) (old new : List Held) (table ds ds' : List Descriptor) → Changes pid old new table → own pid ds' ≡ table → ((q : ℕ) → q ≢ pid → own q ds' ≡ own q ds) → SameTables (listed old) ds → SameTables (listed new) ds'
changed pid old new table ds ds' c its others same q = of_test (q == pid) refl
  where
    of_test : (b : Bool) → (q == pid) ≡ b → own q (listed new) ≡ own q ds'
    of_test true e = subst (λ k. own k (listed new) ≡ own k ds') (sym (eqb-true q pid e)) (c.its ∙ sym its)
    of_test false e = let n : q ≢ pid = apart q pid e in c.others q n ∙ same q ∙ sym (others q n)

pub left_changed : (pid : ℕ) (closing : Closing) (old new : List Held) (ds : List Descriptor) → Changes pid old new (descriptors_left pid closing (own pid (listed old))) → SameTables (listed old) ds → SameTables (listed new) (descriptors_left pid closing ds)
left_changed pid closing old new ds c same =
    changed pid old new (descriptors_left pid closing (own pid (listed old))) ds (descriptors_left pid closing ds) c (own_left pid closing ds ∙ ap (λ xs. descriptors_left pid closing xs) (sym (same pid))) (λ q n. others_left pid closing ds q n) same

-- a number that was given to a description
abbrev pub with_given : ℕ → ℕ → ℕ → List Descriptor → List Descriptor
with_given pid number k ds = descriptors_left pid (Named (Number number)) ds ++ record { pid = pid; number = Some number; description = k } ∷ []

pub own_with : (pid number k : ℕ) (ds : List Descriptor) → own pid (with_given pid number k ds) ≡ with_given pid number k (own pid ds)
own_with pid number k ds =
    let d : Descriptor = record { pid = pid; number = Some number; description = k } in
    own_append pid (descriptors_left pid (Named (Number number)) ds) (d ∷ []) ∙ ap (λ xs. xs ++ own pid (d ∷ [])) (own_left pid (Named (Number number)) ds)
    ∙ ap (λ xs. descriptors_left pid (Named (Number number)) (own pid ds) ++ xs) (own_given pid d refl)

nil_right : (ds : List Descriptor) → ds ++ [] ≡ ds
nil_right [] = refl
nil_right (d ∷ ds) = ap (λ xs. d ∷ xs) (nil_right ds)

pub other_with : (pid number k q : ℕ) (ds : List Descriptor) → q ≢ pid → own q (with_given pid number k ds) ≡ own q ds
other_with pid number k q ds n =
    let d : Descriptor = record { pid = pid; number = Some number; description = k } in
    own_append q (descriptors_left pid (Named (Number number)) ds) (d ∷ []) ∙ ap (λ xs. own q (descriptors_left pid (Named (Number number)) ds) ++ xs) (own_other pid q d refl n)
    ∙ nil_right (own q (descriptors_left pid (Named (Number number)) ds)) ∙ others_left pid (Named (Number number)) ds q n

pub with_changed : (pid number k : ℕ) (old new : List Held) (ds : List Descriptor) → Changes pid old new (with_given pid number k (own pid (listed old))) → SameTables (listed old) ds → SameTables (listed new) (with_given pid number k ds)
with_changed pid number k old new ds c same =
    changed pid old new (with_given pid number k (own pid (listed old))) ds (with_given pid number k ds) c (own_with pid number k ds ∙ ap (λ xs. with_given pid number k xs) (sym (same pid))) (λ q n. other_with pid number k q ds n) same

pub with_same : (pid number k : ℕ) (ds ds' : List Descriptor) → SameTables ds ds' → SameTables (with_given pid number k ds) (with_given pid number k ds')
with_same pid number k ds ds' same q = of_test (q == pid) refl
  where
    of_test : (b : Bool) → (q == pid) ≡ b → own q (with_given pid number k ds) ≡ own q (with_given pid number k ds')
    of_test true e =
        subst (λ j. own j (with_given pid number k ds) ≡ own j (with_given pid number k ds')) (sym (eqb-true q pid e))
        (own_with pid number k ds ∙ ap (λ xs. with_given pid number k xs) (same pid) ∙ sym (own_with pid number k ds'))
    of_test false e = let n : q ≢ pid = apart q pid e in other_with pid number k q ds n ∙ same q ∙ sym (other_with pid number k q ds' n)

pub ends_changed : (pid from to k : ℕ) (old new : List Held) (ds : List Descriptor) → Changes pid old new (ends_listed pid from to k (own pid (listed old))) → SameTables (listed old) ds → SameTables (listed new) (ends_listed pid from to k ds)
ends_changed pid from to k old new ds c same =
    changed pid old new (ends_listed pid from to k (own pid (listed old))) ds (ends_listed pid from to k ds) c
    (own_with pid to (k + 1) (with_given pid from k ds) ∙ ap (λ xs. with_given pid to (k + 1) xs) (own_with pid from k ds) ∙ ap (λ xs. ends_listed pid from to k xs) (sym (same pid)))
    (λ q n. other_with pid to (k + 1) q (with_given pid from k ds) n ∙ other_with pid from k q ds n) same

pub renamed_changed : (pid : ℕ) (name : DescriptorRef) (number : Option ℕ) (old new : List Held) (ds : List Descriptor) → Changes pid old new (naming.after_renaming (own pid (listed old)) pid name number) → SameTables (listed old) ds → SameTables (listed new) (naming.after_renaming ds pid name number)
renamed_changed pid name number old new ds c same =
    changed pid old new (naming.after_renaming (own pid (listed old)) pid name number) ds (naming.after_renaming ds pid name number) c
    (own_renamed pid name number ds ∙ ap (λ xs. naming.after_renaming xs pid name number) (sym (same pid))) (λ q n. other_renamed pid q name number ds n) same

pub forked_changed : (pid child : ℕ) (old new : List Held) (ds : List Descriptor) → Changes child old new (own child (listed old) ++ fork_copies.copies (own pid (listed old)) pid child) → SameTables (listed old) ds → SameTables (listed new) (ds ++ fork_copies.copies ds pid child)
forked_changed pid child old new ds c same =
    changed child old new (own child (listed old) ++ fork_copies.copies (own pid (listed old)) pid child) ds (ds ++ fork_copies.copies ds pid child) c
    (own_append child ds (fork_copies.copies ds pid child) ∙ ap (λ xs. xs ++ own child (fork_copies.copies ds pid child)) (sym (same child))
    ∙ ap (λ xs. own child (listed old) ++ xs) (copies_of_child pid child ds ∙ copies_own pid child ds ∙ ap (λ xs. fork_copies.copies xs pid child) (sym (same pid))))
    (λ q n. own_append q ds (fork_copies.copies ds pid child) ∙ ap (λ xs. own q ds ++ xs) (copies_of_other pid child q ds n) ∙ nil_right (own q ds)) same

pub own_ends : (pid from to k : ℕ) (ds : List Descriptor) → own pid (ends_listed pid from to k ds) ≡ ends_listed pid from to k (own pid ds)
own_ends pid from to k ds = own_with pid to (k + 1) (with_given pid from k ds) ∙ ap (λ xs. with_given pid to (k + 1) xs) (own_with pid from k ds)

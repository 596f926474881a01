-- What is closed: nothing that another process has, and pipes keep their places.
use Rattle.std.proofs.Common.{◌≡◌, ◌≢◌, ℕ, List, [], ◌∷◌, length, filter, Bool, true, false, not, cond, ◌&&◌, ◌==◌, Option, Some, None, slice_set, refl, sym, ap, ◌∙◌, is_none}
use Rattle.std.proofs.lemmas.Bool.{eqb-true}
use Rattle.sh_kernel_descriptors.specs.Closings.{Pipes, goes, is_held, descriptors_left, let_go, let_go_each, let_go_of, pipe_at, pipes_left}
use Rattle.sh_kernel_descriptors.specs.Descriptors.{is_called}
use Rattle.sh_kernel_descriptors.specs.declared.descriptor.Closing.{Closing}
use Rattle.sh_kernel_descriptors.specs.declared.descriptor.Closing.TheVariants.{Named, Asides, All}
use Rattle.sh_kernel_descriptors.specs.declared.descriptor.Descriptor.{Descriptor}
use Rattle.sh_kernel_descriptors.specs.declared.description.Description.{Description}
use Rattle.sh_kernel_machine.proofs.Lists.{false_of, length_set}

pub true≢false : (b : Bool) → b ≡ true → b ≡ false → ⊥
true≢false b h k = absurd (cc)

-- ---- descriptors of others
-- a descriptor that goes is the process's own
pub goes_own : (pid : ℕ) (closing : Closing) (d : Descriptor) → goes pid closing d ≡ true → (d.pid == pid) ≡ true
goes_own pid (Named name) d h = of_test (d.pid == pid) h
  where
    of_test : (b : Bool) → (b && is_called name d) ≡ true → b ≡ true
    of_test true h = refl
    of_test false h = absurd (cc)
goes_own pid Asides d h = of_test (d.pid == pid) h
  where
    of_test : (b : Bool) → (b && is_none d.number) ≡ true → b ≡ true
    of_test true h = refl
    of_test false h = absurd (cc)
goes_own pid All d h = h

pub others_left : (pid : ℕ) (closing : Closing) (ds : List Descriptor) (q : ℕ) → q ≢ pid → filter (λ d. d.pid == q) (descriptors_left pid closing ds) ≡ filter (λ d. d.pid == q) ds
others_left pid closing [] q n = refl
others_left pid closing (d ∷ ds) q n = of_test (others_left pid closing ds q n) (goes pid closing d) refl
  where
    of_test : filter (λ (x : Descriptor). x.pid == q) (descriptors_left pid closing ds) ≡ filter (λ (x : Descriptor). x.pid == q) ds → (b : Bool) → goes pid closing d ≡ b → filter (λ (x : Descriptor). x.pid == q) (cond (not b) (d ∷ descriptors_left pid closing ds) (descriptors_left pid closing ds)) ≡ cond (d.pid == q) (d ∷ filter (λ (x : Descriptor). x.pid == q) ds) (filter (λ (x : Descriptor). x.pid == q) ds)
    of_test rest false is = ap (λ (xs : List Descriptor). cond (d.pid == q) (d ∷ xs) xs) rest
    of_test rest true is =
        let own : d.pid ≡ pid = eqb-true d.pid pid (goes_own pid closing d is) in
        let other : (d.pid == q) ≡ false = false_of (d.pid == q) (λ t. n (sym (eqb-true d.pid q t) ∙ own)) in
        rest ∙ sym (ap (λ (b : Bool). cond b (d ∷ filter (λ (x : Descriptor). x.pid == q) ds) (filter (λ (x : Descriptor). x.pid == q) ds)) other)

-- ---- places
-- pipes that go keep their places
let_go_length : (pid : ℕ) (closing : Closing) (ds : List Descriptor) (es : List Description) (ps : Pipes) (o : Option ℕ) → length (let_go pid closing ds es ps o) ≡ length ps
let_go_length pid closing ds es ps None = refl
let_go_length pid closing ds es ps (Some pipe) =
    elim (is_held pid closing ds es pipe) as (λ b. length (cond b ps (slice_set ps pipe None)) ≡ length ps) [ true ↦ refl | false ↦ length_set ps pipe None ]

let_go_of_length : (pid : ℕ) (closing : Closing) (ds : List Descriptor) (es : List Description) (ps : Pipes) (d : Descriptor) → length (let_go_of pid closing ds es ps d) ≡ length ps
let_go_of_length pid closing ds es ps d =
    elim (goes pid closing d) as (λ b. length (cond b (let_go pid closing ds es ps (pipe_at es d.description)) ps) ≡ length ps) [ true ↦ let_go_length pid closing ds es ps (pipe_at es d.description) | false ↦ refl ]

let_go_each_length : (pid : ℕ) (closing : Closing) (ds : List Descriptor) (es : List Description) (ps : Pipes) (gone : List Descriptor) → length (let_go_each pid closing ds es ps gone) ≡ length ps
let_go_each_length pid closing ds es ps [] = refl
let_go_each_length pid closing ds es ps (d ∷ gone) = let_go_each_length pid closing ds es (let_go_of pid closing ds es ps d) gone ∙ let_go_of_length pid closing ds es ps d

pub pipes_left_length : (pid : ℕ) (closing : Closing) (ds : List Descriptor) (es : List Description) (ps : Pipes) → length (pipes_left pid closing ds es ps) ≡ length ps
pipes_left_length pid closing ds es ps = let_go_each_length pid closing ds es ps ds

-- What is closed: its pipes go, and what a process reaches stays or goes.
use Rattle.std.proofs.Common.{◌≡◌, ◌≢◌, ℕ, List, [], ◌∷◌, filter, Bool, true, false, cond, ◌&&◌, ◌||◌, ◌==◌, Option, Some, None, slice_get, slice_set, refl, ap, ◌∙◌, option_and_then}
use Rattle.std.specs.Option.{option_map_or}
use Rattle.sh_kernel_descriptors.specs.Closings.{Pipes, goes, is_held, descriptors_left, let_go, let_go_each, let_go_of, pipe_at, pipe_of, pipes_left, stays}
use Rattle.sh_kernel_descriptors.specs.Descriptors.{reads_from, writes_to}
use Rattle.sh_kernel_descriptors.specs.declared.descriptor.Closing.{Closing}
use Rattle.sh_kernel_descriptors.specs.declared.descriptor.Descriptor.{Descriptor}
use Rattle.sh_kernel_descriptors.specs.declared.description.Description.{Description}
use Rattle.sh_kernel_descriptors.specs.declared.description.Target.{Target}
use Rattle.sh_kernel_descriptors.specs.declared.description.Target.TheVariants.{File, Terminal, Null, ReadEnd, WriteEnd}
use Rattle.sh_kernel.specs.Laws.{IsOwned}
use Rattle.sh_kernel.specs.Reaching.{is_end, reaches}
use Rattle.sh_kernel_machine.proofs.Closing.{goes_own}
use Rattle.sh_kernel_machine.proofs.Lists.{apart, or_left, or_right, other_place}

-- ---- pipes that go
-- a description that is no end of a pipe is of another pipe, if of any
other_pipe : (es : List Description) (k q : ℕ) (o : Option Description) → option_map_or (λ (e : Description). reads_from q e.target || writes_to q e.target) o false ≡ false → (p : ℕ) → option_and_then (λ (e : Description). pipe_of e.target) o ≡ Some p → p ≢ q
other_pipe es k q None h p is = absurd (cc)
other_pipe es k q (Some e) h p is = of_target e.target h is
  where
    of_target : (t : Target) → (reads_from q t || writes_to q t) ≡ false → pipe_of t ≡ Some p → p ≢ q
    of_target (File n) h is = absurd (cc)
    of_target Terminal h is = absurd (cc)
    of_target Null h is = absurd (cc)
    of_target (ReadEnd r) h is = let same : r ≡ p = cc in λ e. apart r q (or_left (r == q) false h) (same ∙ e)
    of_target (WriteEnd r) h is = let same : r ≡ p = cc in λ e. apart r q h (same ∙ e)

let_go_other : (pid : ℕ) (closing : Closing) (ds : List Descriptor) (es : List Description) (ps : Pipes) (q : ℕ) (o : Option ℕ) → ((p : ℕ) → o ≡ Some p → p ≢ q) → slice_get (let_go pid closing ds es ps o) q ≡ slice_get ps q
let_go_other pid closing ds es ps q None n = refl
let_go_other pid closing ds es ps q (Some p) n =
    elim (is_held pid closing ds es p) as (λ b. slice_get (cond b ps (slice_set ps p None)) q ≡ slice_get ps q) [ true ↦ refl | false ↦ other_place ps p q None (n p refl) ]

let_go_of_other : (pid : ℕ) (closing : Closing) (ds : List Descriptor) (es : List Description) (ps : Pipes) (d : Descriptor) (q : ℕ) → ((d.pid == pid) && is_end es q d.description) ≡ false → slice_get (let_go_of pid closing ds es ps d) q ≡ slice_get ps q
let_go_of_other pid closing ds es ps d q h = of_test (goes pid closing d) refl
  where
    not_end : (b : Bool) → b ≡ true → (b && is_end es q d.description) ≡ false → is_end es q d.description ≡ false
    not_end true own h = h
    not_end false own h = absurd (cc)

    of_test : (b : Bool) → goes pid closing d ≡ b → slice_get (cond b (let_go pid closing ds es ps (pipe_at es d.description)) ps) q ≡ slice_get ps q
    of_test false is = refl
    of_test true is =
        let_go_other pid closing ds es ps q (pipe_at es d.description) (other_pipe es d.description q (slice_get es d.description) (not_end (d.pid == pid) (goes_own pid closing d is) h))

let_go_each_other : (pid : ℕ) (closing : Closing) (ds : List Descriptor) (es : List Description) (ps : Pipes) (gone : List Descriptor) (q : ℕ) → reaches gone pid (is_end es q) ≡ false → slice_get (let_go_each pid closing ds es ps gone) q ≡ slice_get ps q
let_go_each_other pid closing ds es ps [] q h = refl
let_go_each_other pid closing ds es ps (d ∷ gone) q h =
    let_go_each_other pid closing ds es (let_go_of pid closing ds es ps d) gone q (or_right ((d.pid == pid) && is_end es q d.description) (reaches gone pid (is_end es q)) h)
    ∙ let_go_of_other pid closing ds es ps d q (or_left ((d.pid == pid) && is_end es q d.description) (reaches gone pid (is_end es q)) h)

pub pipes_left_other : (pid : ℕ) (closing : Closing) (ds : List Descriptor) (es : List Description) (ps : Pipes) (q : ℕ) → reaches ds pid (is_end es q) ≡ false → slice_get (pipes_left pid closing ds es ps) q ≡ slice_get ps q
pipes_left_other pid closing ds es ps q h = let_go_each_other pid closing ds es ps ds q h

-- ---- what a process reaches
pub reaches_left : (pid : ℕ) (closing : Closing) (ds : List Descriptor) (q : ℕ) (test : ℕ → Bool) → reaches ds q test ≡ false → reaches (descriptors_left pid closing ds) q test ≡ false
reaches_left pid closing [] q test h = refl
reaches_left pid closing (d ∷ ds) q test h =
    of_test (stays pid closing d) (reaches_left pid closing ds q test (or_right ((d.pid == q) && test d.description) (reaches ds q test) h)) (or_left ((d.pid == q) && test d.description) (reaches ds q test) h)
  where
    of_test : (b : Bool) → reaches (descriptors_left pid closing ds) q test ≡ false → ((d.pid == q) && test d.description) ≡ false → reaches (cond b (d ∷ descriptors_left pid closing ds) (descriptors_left pid closing ds)) q test ≡ false
    of_test true rest h = ap (λ (c : Bool). c || reaches (descriptors_left pid closing ds) q test) h ∙ rest
    of_test false rest h = rest

-- ---- what one process alone has
pub filter_owned : (pid : ℕ) (test : ℕ → Bool) (p : Descriptor → Bool) (ds : List Descriptor) → IsOwned pid test ds → IsOwned pid test (filter p ds)
filter_owned pid test p [] h = tt
filter_owned pid test p (d ∷ ds) h =
    let rest = filter_owned pid test p ds h.1 in
    elim (p d) as (λ b. IsOwned pid test (cond b (d ∷ filter p ds) (filter p ds))) [ true ↦ (h.0, rest) | false ↦ rest ]

-- What a step leaves as it is.
use Rattle.std.proofs.Common.{◌≡◌, ◌≢◌, ℕ, zero, suc, List, [], ◌∷◌, Bool, true, false, ◌||◌, Option, Some, None, slice_get, refl, sym, ap, ◌∙◌}
use Rattle.std.specs.Option.{option_map_or}
use Rattle.std.specs.List.{list_any}
use Rattle.sh_tty.specs.Happenings.{Happening}
use Rattle.sh_kernel_descriptors.specs.Descriptors.{description_number, has_reader, has_writer, is_reader, is_writer, reads_from, writes_to}
use Rattle.sh_kernel_descriptors.specs.Reading.{moved_of, with_offset}
use Rattle.sh_kernel_descriptors.specs.declared.descriptor.Descriptor.{Descriptor}
use Rattle.sh_kernel_descriptors.specs.declared.descriptor.DescriptorRef.{DescriptorRef}
use Rattle.sh_kernel_descriptors.specs.declared.description.Description.{Description}
use Rattle.sh_kernel_descriptors.specs.declared.description.Target.{Target}
use Rattle.sh_kernel.specs.State.{KernelState}
use Rattle.sh_kernel_machine.proofs.Lists.{other_place}
use Rattle.sh_laws_independence.specs.Parts.{Parts}
use Rattle.sh_laws_independence.specs.Independence.{AreApart}
use Rattle.sh_laws_independence.proofs.Steps.{At, IsIn, IsSeen, IsWithin, Step, after, moved, put, shown}

-- these parts are the same in another state, and what no request changes that doesn't change everything
pub record Keeps (s t : KernelState) (u : Parts) : Type 0 where
  pub names : (pid : ℕ) (name : DescriptorRef) → u.descriptors pid ≡ true → description_number t.machine.descriptors pid name ≡ description_number s.machine.descriptors pid name
  pub descriptions : (k : ℕ) → u.descriptions k ≡ true → slice_get t.machine.descriptions k ≡ slice_get s.machine.descriptions k
  pub readers : (pipe : ℕ) → u.pipes pipe ≡ true → has_reader t.machine.descriptors t.machine.descriptions pipe ≡ has_reader s.machine.descriptors s.machine.descriptions pipe
  pub writers : (pipe : ℕ) → u.pipes pipe ≡ true → has_writer t.machine.descriptors t.machine.descriptions pipe ≡ has_writer s.machine.descriptors s.machine.descriptions pipe
  pub pipes : (pipe : ℕ) → u.pipes pipe ≡ true → slice_get t.machine.pipes pipe ≡ slice_get s.machine.pipes pipe
  pub files : (node : ℕ) → u.files node ≡ true → slice_get t.machine.files.nodes node ≡ slice_get s.machine.files.nodes node
  pub terminal : u.terminal ≡ true → t.terminal ≡ s.terminal
  pub processes : t.machine.processes ≡ s.machine.processes
  pub members : t.members ≡ s.members
  pub foreground : t.foreground ≡ s.foreground

pub keeps_same : (s : KernelState) (u : Parts) → Keeps s s u
keeps_same s u = record {
  names = λ _ _ _. refl;
  descriptions = λ _ _. refl;
  readers = λ _ _. refl;
  writers = λ _ _. refl;
  pipes = λ _ _. refl;
  files = λ _ _. refl;
  terminal = λ _. refl;
  processes = refl;
  members = refl;
  foreground = refl;
}

-- ---- targets stay

pub moved_test : (test : Target → Bool) (es : List Description) (k offset j : ℕ) → option_map_or (λ e. test e.target) (slice_get (with_offset es k offset) j) false ≡ option_map_or (λ e. test e.target) (slice_get es j) false
moved_test test [] k offset j = refl
moved_test test (e ∷ es) zero offset zero = refl
moved_test test (e ∷ es) zero offset (suc j) = refl
moved_test test (e ∷ es) (suc k) offset zero = of_tail (slice_get es k)
  where
    of_tail : (o : Option Description) → option_map_or (λ e. test e.target) (slice_get (moved_of (e ∷ es) (suc k) offset o) zero) false ≡ test e.target
    of_tail None = refl
    of_tail (Some x) = refl
moved_test test (e ∷ es) (suc k) offset (suc j) = of_tail (slice_get es k) ∙ moved_test test es k offset j
  where
    of_tail : (o : Option Description) → option_map_or (λ e. test e.target) (slice_get (moved_of (e ∷ es) (suc k) offset o) (suc j)) false ≡ option_map_or (λ e. test e.target) (slice_get (moved_of es k offset o) j) false
    of_tail None = refl
    of_tail (Some x) = refl

any_same : (f g : Descriptor → Bool) → ((d : Descriptor) → f d ≡ g d) → (ds : List Descriptor) → list_any f ds ≡ list_any g ds
any_same f g h [] = refl
any_same f g h (d ∷ ds) = ap (λ (b : Bool). b || list_any f ds) (h d) ∙ ap (λ (b : Bool). g d || b) (any_same f g h ds)

pub readers_stay : (ds : List Descriptor) (es : List Description) (o : Option (At ℕ)) (pipe : ℕ) → has_reader ds (moved es o) pipe ≡ has_reader ds es pipe
readers_stay ds es None pipe = refl
readers_stay ds es (Some a) pipe =
    any_same (is_reader (with_offset es a.place a.value) pipe) (is_reader es pipe) (λ d. moved_test (λ t. reads_from pipe t) es a.place a.value d.description) ds

pub writers_stay : (ds : List Descriptor) (es : List Description) (o : Option (At ℕ)) (pipe : ℕ) → has_writer ds (moved es o) pipe ≡ has_writer ds es pipe
writers_stay ds es None pipe = refl
writers_stay ds es (Some a) pipe =
    any_same (is_writer (with_offset es a.place a.value) pipe) (is_writer es pipe) (λ d. moved_test (λ t. writes_to pipe t) es a.place a.value d.description) ds

-- ---- places
-- a place that is used is none that is changed
pub differ : (changed used : ℕ → Bool) (i j : ℕ) → ((k : ℕ) → changed k ≡ true → used k ≡ false) → changed i ≡ true → used j ≡ true → i ≢ j
differ changed used i j apart c u e = let no : used j ≡ false = ap used (sym e) ∙ apart i c in absurd (cc)

pub moved_other : (es : List Description) (k offset j : ℕ) → k ≢ j → slice_get (with_offset es k offset) j ≡ slice_get es j
moved_other es k offset j n = of_place (slice_get es k)
  where
    of_place : (o : Option Description) → slice_get (moved_of es k offset o) j ≡ slice_get es j
    of_place None = refl
    of_place (Some e) = other_place es k j (record e { offset = offset }) n

pub moved_elsewhere : (changed used : ℕ → Bool) (es : List Description) (o : Option (At ℕ)) (j : ℕ) → ((k : ℕ) → changed k ≡ true → used k ≡ false) → IsIn changed o → used j ≡ true → slice_get (moved es o) j ≡ slice_get es j
moved_elsewhere changed used es None j apart c u = refl
moved_elsewhere changed used es (Some a) j apart c u = moved_other es a.place a.value j (differ changed used a.place j apart c u)

pub put_elsewhere : {X : Type 0} (changed used : ℕ → Bool) (xs : List X) (o : Option (At X)) (j : ℕ) → ((k : ℕ) → changed k ≡ true → used k ≡ false) → IsIn changed o → used j ≡ true → slice_get (put xs o) j ≡ slice_get xs j
put_elsewhere changed used xs None j apart c u = refl
put_elsewhere changed used xs (Some a) j apart c u = other_place xs a.place j a.value (differ changed used a.place j apart c u)

pub shown_elsewhere : (changed used : Bool) (hs : List Happening) (o : Option (List Happening)) → (changed ≡ true → used ≡ false) → IsSeen changed o → used ≡ true → shown hs o ≡ hs
shown_elsewhere changed used hs None apart c u = refl
shown_elsewhere changed used hs (Some h) apart c u = let no : used ≡ false = apart c in absurd (cc)

-- a step keeps what is apart from it
pub keeps : (s : KernelState) (c : Step) (changed used : Parts) → IsWithin c changed → AreApart changed used → Keeps s (after s c) used
keeps s c changed used w a = record {
  names = λ _ _ _. refl;
  descriptions = λ k u. moved_elsewhere changed.descriptions used.descriptions s.machine.descriptions c.offset k a.descriptions w.offset u;
  readers = λ pipe _. readers_stay s.machine.descriptors s.machine.descriptions c.offset pipe;
  writers = λ pipe _. writers_stay s.machine.descriptors s.machine.descriptions c.offset pipe;
  pipes = λ pipe u. put_elsewhere changed.pipes used.pipes s.machine.pipes c.pipe pipe a.pipes w.pipe u;
  files = λ node u. put_elsewhere changed.files used.files s.machine.files.nodes c.node node a.files w.node u;
  terminal = λ u. shown_elsewhere changed.terminal used.terminal s.terminal c.terminal a.terminal w.terminal u;
  processes = refl;
  members = refl;
  foreground = refl;
}

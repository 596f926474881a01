-- A process that ends leaves the pipe from which the next one reads.
use Rattle.std.proofs.Common.{◌≡◌, ◌≢◌, ℕ, ◌==◌, ◌&&◌, ◌||◌, List, [], ◌∷◌, Bool, true, false, cond, not, Option, Some, None, slice_get, slice_set, find, refl, sym, ap, ◌∙◌, eq-eqb, eqb-true}
use Rattle.std.specs.List.{list_any}
use Rattle.std.specs.Option.{option_map, option_map_or}
use Rattle.sh_kernel.proofs.Endings.{endings}
use Rattle.sh_kernel.specs.Calls.{end_call}
use Rattle.sh_kernel.specs.Reaching.{is_end, reaches}
use Rattle.sh_kernel.specs.Signals.{after_exit, table_of}
use Rattle.sh_kernel.specs.State.{KernelState}
use Rattle.sh_kernel_descriptors.specs.Closings as closings
use Rattle.sh_kernel_descriptors.specs.Closings.{Pipes, goes, holds, is_held, let_go, let_go_each, let_go_of, pipe_at, pipes_left, stays}
use Rattle.sh_kernel_descriptors.specs.Descriptors.{description_number, is_called, is_named, reads_from, writes_to}
use Rattle.sh_kernel_descriptors.specs.Machine.{MachineState, after_close}
use Rattle.sh_kernel_descriptors.specs.declared.descriptor.Closing.TheVariants.{All}
use Rattle.sh_kernel_descriptors.specs.declared.descriptor.Descriptor.{Descriptor}
use Rattle.sh_kernel_descriptors.specs.declared.descriptor.DescriptorRef.{DescriptorRef}
use Rattle.sh_kernel_descriptors.specs.declared.descriptor.DescriptorRef.TheVariants.{Number}
use Rattle.sh_kernel_descriptors.specs.declared.description.Target.{Target}
use Rattle.sh_kernel_descriptors.specs.declared.fault.KernelFault.TheVariants.{NoProcess}
use Rattle.sh_kernel_descriptors.specs.Outcomes.{refusal, success}
use Rattle.sh_kernel_descriptors.specs.declared.description.Description.{Description}
use Rattle.sh_kernel_machine.proofs.Closing.{others_left}
use Rattle.sh_kernel_machine.proofs.Lists.{false_of, other_place}
use Rattle.sh_kernel_machine.specs.Signals.{after_endings, with_processes}
use Rattle.sh_kernel_processes.specs.Processes.{has_ended, lives}
use Rattle.sh_kernel_processes.specs.declared.process.Process.{Process}
use Rattle.sh_kernel_processes.specs.Sending.{after_end, pids_of}
use Rattle.sh_laws.proofs.Others.{same_own}
use Rattle.sh_laws_pipelines.proofs.Beside.{and_both, leads_at, or_back, or_front, same_number}
use Rattle.sh_laws_pipelines.specs.Joined.{ReadsPipe}
use Rattle.sh_laws_pipelines.specs.Others.{OnlyReach, StillReads}

-- ---- a pipe of which another process has an end is held
same_end : (es : List Description) (pipe : ℕ) (d : Descriptor) → is_end es pipe d.description ≡ closings.is_end es pipe d
same_end es pipe d = of_option (slice_get es d.description)
  where
    of_option : (o : Option Description) → option_map_or (λ (e : Description). reads_from pipe e.target || writes_to pipe e.target) o false
        ≡ (option_map_or (λ (e : Description). reads_from pipe e.target) o false || option_map_or (λ (e : Description). writes_to pipe e.target) o false)
    of_option None = refl
    of_option (Some e) = refl

held : (pid next : ℕ) (es : List Description) (pipe : ℕ) (ds : List Descriptor) → next ≢ pid → reaches ds next (is_end es pipe) ≡ true → list_any (holds pid All es pipe) ds ≡ true
held pid next es pipe [] n h = absurd (cc)
held pid next es pipe (d ∷ ds) n h = of_first (d.pid == next) refl (is_end es pipe d.description) refl h (λ rest. held pid next es pipe ds n rest)
  where
    of_first : (own : Bool) → (d.pid == next) ≡ own → (end : Bool) → is_end es pipe d.description ≡ end → ((own && end) || reaches ds next (is_end es pipe)) ≡ true
        → (reaches ds next (is_end es pipe) ≡ true → list_any (holds pid All es pipe) ds ≡ true) → (holds pid All es pipe d || list_any (holds pid All es pipe) ds) ≡ true
    of_first true own true end h others =
        let other : (d.pid == pid) ≡ false = false_of (d.pid == pid) (λ e. n (sym (eqb-true d.pid next own) ∙ eqb-true d.pid pid e)) in
        or_front (holds pid All es pipe d) (list_any (holds pid All es pipe) ds)
        (ap (λ (b : Bool). not b && closings.is_end es pipe d) other ∙ sym (same_end es pipe d) ∙ end)
    of_first true own false end h others = or_back (holds pid All es pipe d) (list_any (holds pid All es pipe) ds) (others h)
    of_first false own e end h others = or_back (holds pid All es pipe d) (list_any (holds pid All es pipe) ds) (others h)

module _ (pid : ℕ) (ds : List Descriptor) (es : List Description) (pipe : ℕ) (kept : is_held pid All ds es pipe ≡ true) where
  let_go_held : (ps : Pipes) (o : Option ℕ) → slice_get (let_go pid All ds es ps o) pipe ≡ slice_get ps pipe
  let_go_held ps None = refl
  let_go_held ps (Some p) = of_test (p == pipe) refl
    where
      of_held : (b : Bool) → p ≢ pipe → slice_get (cond b ps (slice_set ps p None)) pipe ≡ slice_get ps pipe
      of_held true n = refl
      of_held false n = other_place ps p pipe None n

      of_test : (b : Bool) → (p == pipe) ≡ b → slice_get (cond (is_held pid All ds es p) ps (slice_set ps p None)) pipe ≡ slice_get ps pipe
      of_test true is = ap (λ (b : Bool). slice_get (cond b ps (slice_set ps p None)) pipe) (ap (λ (n : ℕ). is_held pid All ds es n) (eqb-true p pipe is) ∙ kept)
      of_test false is = of_held (is_held pid All ds es p) (λ e. let both : true ≡ false = sym (eq-eqb p pipe e) ∙ is in cc)

  let_go_of_held : (ps : Pipes) (d : Descriptor) → slice_get (let_go_of pid All ds es ps d) pipe ≡ slice_get ps pipe
  let_go_of_held ps d = of_test (goes pid All d)
    where
      of_test : (b : Bool) → slice_get (cond b (let_go pid All ds es ps (pipe_at es d.description)) ps) pipe ≡ slice_get ps pipe
      of_test true = let_go_held ps (pipe_at es d.description)
      of_test false = refl

  let_go_each_held : (ps : Pipes) (gone : List Descriptor) → slice_get (let_go_each pid All ds es ps gone) pipe ≡ slice_get ps pipe
  let_go_each_held ps [] = refl
  let_go_each_held ps (d ∷ gone) = let_go_each_held (let_go_of pid All ds es ps d) gone ∙ let_go_of_held ps d

-- ---- processes that have ended close what they have open
still_has : (m : MachineState) (pid next pipe : ℕ) → next ≢ pid → reaches m.descriptors next (is_end m.descriptions pipe) ≡ true → reaches (after_close m pid All).descriptors next (is_end m.descriptions pipe) ≡ true
still_has m pid next pipe n has = same_own m.descriptors (after_close m pid All).descriptors next (is_end m.descriptions pipe) (others_left pid All m.descriptors next n) ∙ has

pub slot_kept : (m : MachineState) (next pipe : ℕ) (pids : List ℕ) → has_ended m.processes next ≡ false → reaches m.descriptors next (is_end m.descriptions pipe) ≡ true → slice_get (after_endings m pids).pipes pipe ≡ slice_get m.pipes pipe
slot_kept m next pipe [] alive has = refl
slot_kept m next pipe (pid ∷ pids) alive has = of_test (has_ended m.processes pid) refl (λ n a h. slot_kept n next pipe pids a h)
  where
    of_test : (b : Bool) → has_ended m.processes pid ≡ b
        → ((n : MachineState) → has_ended n.processes next ≡ false → reaches n.descriptors next (is_end n.descriptions pipe) ≡ true → slice_get (after_endings n pids).pipes pipe ≡ slice_get n.pipes pipe)
        → slice_get (after_endings (cond b (after_close m pid All) m) pids).pipes pipe ≡ slice_get m.pipes pipe
    of_test true ended others =
        let n : next ≢ pid = λ e. let both : true ≡ false = sym ended ∙ (ap (λ (q : ℕ). has_ended m.processes q) (sym e) ∙ alive) in cc in
        others (after_close m pid All) alive (still_has m pid next pipe n has)
        ∙ let_go_each_held pid m.descriptors m.descriptions pipe (held pid next m.descriptions pipe m.descriptors n has) m.pipes m.descriptors
    of_test false ended others = others m alive has

-- ---- the next stage
pub found_reaches : (ds : List Descriptor) (pid : ℕ) (name : DescriptorRef) (k : ℕ) (test : ℕ → Bool) → description_number ds pid name ≡ Some k → test k ≡ true → reaches ds pid test ≡ true
found_reaches [] pid name k test found h = absurd (cc)
found_reaches (d ∷ ds) pid name k test found h = of_first (is_named pid name d) refl found (λ rest. found_reaches ds pid name k test rest h)
  where
    of_first : (b : Bool) → is_named pid name d ≡ b → option_map (λ x. x.description) (cond b (Some d) (find (is_named pid name) ds)) ≡ Some k → (description_number ds pid name ≡ Some k → reaches ds pid test ≡ true)
        → (((d.pid == pid) && test d.description) || reaches ds pid test) ≡ true
    of_first true named found others =
        let own = and_both (d.pid == pid) (is_called name d) named in
        let there : d.description ≡ k = cc in
        or_front ((d.pid == pid) && test d.description) (reaches ds pid test) (ap (λ (b : Bool). b && test d.description) own.0 ∙ (ap test there ∙ h))
    of_first false named found others = or_back ((d.pid == pid) && test d.description) (reaches ds pid test) (others found)

pub reader_has : (m : MachineState) (next : ℕ) (given : List ℕ) (all : Bool) (read : List ℕ) (r : ReadsPipe m next given all read) → reaches m.descriptors next (is_end m.descriptions r.pipe) ≡ true
reader_has m next given all read r =
    let own : (reads_from r.pipe r.opened.description.target || writes_to r.pipe r.opened.description.target) ≡ true =
    ap (λ (t : Target). reads_from r.pipe t || writes_to r.pipe t) r.opened.leads ∙ or_front (r.pipe == r.pipe) false (eq-eqb r.pipe r.pipe refl) in
    found_reaches m.descriptors next (Number 0) r.opened.place (is_end m.descriptions r.pipe) r.opened.refers
    (leads_at (λ t. reads_from r.pipe t || writes_to r.pipe t) m.descriptions r.opened.place r.opened.description r.opened.described own)

module _ (owners : ℕ → Bool) (m : MachineState) (next : ℕ) (given : List ℕ) (all : Bool) (read : List ℕ) (r : ReadsPipe m next given all read) (alone : OnlyReach owners m r.pipe) where
  after_endings_reads : (ps : List Process) (pids : List ℕ) → has_ended ps next ≡ false → StillReads owners (with_processes m ps pids) next given true read r.pipe r.state
  after_endings_reads ps pids alive =
      let e = endings m ps pids in
      record {
        reads = record {
          pipe = r.pipe;
          opened = record {
            place = r.opened.place;
            description = r.opened.description;
            refers = same_number m.descriptors (with_processes m ps pids).descriptors next (Number 0) (e.descriptors next alive) ∙ r.opened.refers;
            described = ap (λ (es : List Description). slice_get es r.opened.place) e.descriptions ∙ r.opened.described;
            leads = r.opened.leads;
          };
          readable = r.readable;
          state = r.state;
          slot = slot_kept (record m { processes = ps }) next r.pipe pids alive (reader_has m next given all read r) ∙ r.slot;
          bytes = r.bytes;
          end = λ none. refl;
        };
        same_pipe = refl;
        same_state = refl;
        alone = λ q h. ap (λ (es : List Description). reaches (with_processes m ps pids).descriptors q (is_end es r.pipe)) e.descriptions ∙ e.reaches_less q (is_end m.descriptions r.pipe) (alone q h);
      }

  as_it_was : StillReads owners m next given true read r.pipe r.state
  as_it_was = record {
    reads = record { pipe = r.pipe; opened = r.opened; readable = r.readable; state = r.state; slot = r.slot; bytes = r.bytes; end = λ none. refl };
    same_pipe = refl;
    same_state = refl;
    alone = alone;
  }

pub ends_leave : (s : KernelState) (pid status : ℕ) (owners : ℕ → Bool) (next : ℕ) (given : List ℕ) (all : Bool) (read : List ℕ) (r : ReadsPipe s.machine next given all read) → OnlyReach owners s.machine r.pipe
    → has_ended (end_call s pid status).after.machine.processes next ≡ false → StillReads owners (end_call s pid status).after.machine next given true read r.pipe r.state
ends_leave s pid status owners next given all read r alone alive = of_test (lives s.machine.processes pid) alive
  where
    of_test : (b : Bool) → let t = (cond b (success {A = Unit {0}} tt (after_exit s pid status)) (refusal s NoProcess)).after in
        has_ended t.machine.processes next ≡ false → StillReads owners t.machine next given true read r.pipe r.state
    of_test true alive =
        let ps = (after_end (table_of s) pid status).processes in
        let pids = pids_of s.members in
        after_endings_reads owners s.machine next given all read r alone ps pids (ap (λ (xs : List Process). has_ended xs next) (sym (endings s.machine ps pids).processes) ∙ alive)
    of_test false alive = as_it_was owners s.machine next given all read r alone

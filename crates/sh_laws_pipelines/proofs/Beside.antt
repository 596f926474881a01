-- Requests of other processes leave the pipes of a pipeline, and what its processes have open.
use Rattle.std.proofs.Common.{◌≡◌, ◌≢◌, ℕ, ◌<◌, ◌==◌, ◌&&◌, ◌||◌, List, [], ◌∷◌, length, find, Bool, true, false, cond, Option, Some, None, slice_get, refl, sym, ap, ◌∙◌, eq-eqb, eqb-true}
use Rattle.std.proofs.lemmas.Option.{slice_get_within}
use Rattle.std.specs.List.{filter, list_any}
use Rattle.std.specs.Option.{option_map, option_map_or}
use Rattle.sh_kernel.proofs.Endings.{Endings, endings}
use Rattle.sh_kernel.specs.Calls.{after_key, after_raising}
use Rattle.sh_kernel.specs.Laws.{OnlyGrows}
use Rattle.sh_kernel.specs.Reaching.{is_end, reaches}
use Rattle.sh_kernel.specs.Signals.{after_signal, table_of}
use Rattle.sh_kernel.specs.State.{KernelState}
use Rattle.sh_kernel_descriptors.specs.Descriptors.{description_number, has_writer, is_called, is_named, reads_from, writes_to}
use Rattle.sh_kernel_descriptors.specs.Machine.{MachineState}
use Rattle.sh_kernel_descriptors.specs.declared.descriptor.Descriptor.{Descriptor}
use Rattle.sh_kernel_descriptors.specs.declared.descriptor.DescriptorRef.{DescriptorRef}
use Rattle.sh_kernel_descriptors.specs.declared.descriptor.DescriptorRef.TheVariants.{Number}
use Rattle.sh_kernel_descriptors.specs.declared.description.Description.{Description}
use Rattle.sh_kernel_descriptors.specs.declared.description.Target.{Target}
use Rattle.sh_kernel_descriptors.specs.declared.description.Target.TheVariants.{ReadEnd, WriteEnd}
use Rattle.sh_kernel_processes.specs.Processes.{has_ended}
use Rattle.sh_kernel_processes.specs.declared.process.Process.{Process}
use Rattle.sh_kernel_processes.specs.Sending.{after_send, pids_of}
use Rattle.sh_kernel_processes.specs.declared.target.SignalTarget.{SignalTarget}
use Rattle.sh_kernel_processes.specs.declared.target.SignalTarget.TheVariants.{Group}
use Rattle.sh_laws.proofs.Others.{same_own}
use Rattle.sh_laws.specs.Requests.{ChangesByRequests}
use Rattle.sh_pipe.specs.Pipe.{PipeState}
use Rattle.sh_laws_pipelines.specs.Joined.{Opened, ReadsPipe, WritesPipe}
use Rattle.sh_laws_pipelines.specs.Others.{AllGoOn, IsBeside, OnlyReach, StillReads, StillWrites}
use Rattle.sh_signal.specs.declared.signal.Signal.{Signal}
use Rattle.sh_tty.specs.Happenings as tty
use Rattle.sh_tty.specs.Keys.{key_of, signal_of}

-- ---- tests
pub or_back : (a b : Bool) → b ≡ true → (a || b) ≡ true
or_back true b h = refl
or_back false b h = h

pub or_front : (a b : Bool) → a ≡ true → (a || b) ≡ true
or_front true b h = refl
or_front false b h = absurd (cc)

pub and_both : (a b : Bool) → (a && b) ≡ true → (a ≡ true) × (b ≡ true)
and_both true b h = (refl, h)
and_both false b h = absurd (cc)

-- a test that is true where another is
abbrev pub Follows : (ℕ → Bool) → (ℕ → Bool) → Type 0
Follows f g = (k : ℕ) → f k ≡ true → g k ≡ true

-- ---- what processes reach
reaches_more : (ds : List Descriptor) (pid : ℕ) (f g : ℕ → Bool) → Follows f g → reaches ds pid f ≡ true → reaches ds pid g ≡ true
reaches_more [] pid f g follows h = absurd (cc)
reaches_more (d ∷ ds) pid f g follows h = of_first (d.pid == pid) (f d.description) (g d.description) (follows d.description) h (λ rest. reaches_more ds pid f g follows rest)
  where
    of_first : (own a b : Bool) → (a ≡ true → b ≡ true) → ((own && a) || reaches ds pid f) ≡ true → (reaches ds pid f ≡ true → reaches ds pid g ≡ true) → ((own && b) || reaches ds pid g) ≡ true
    of_first true true b more h others = ap (λ (c : Bool). c || reaches ds pid g) (more refl)
    of_first true false b more h others = or_back b (reaches ds pid g) (others h)
    of_first false a b more h others = others h

false_where : (a b : Bool) → (a ≡ true → b ≡ true) → b ≡ false → a ≡ false
false_where true b more none = let both : true ≡ false = sym (more refl) ∙ none in absurd (cc)
false_where false b more none = refl

pub reaches_less : (ds : List Descriptor) (pid : ℕ) (f g : ℕ → Bool) → Follows f g → reaches ds pid g ≡ false → reaches ds pid f ≡ false
reaches_less ds pid f g follows none = false_where (reaches ds pid f) (reaches ds pid g) (reaches_more ds pid f g follows) none

-- some process has what is there, and what a process has is there
any_has : (ds : List Descriptor) (f : ℕ → Bool) → list_any (λ (d : Descriptor). f d.description) ds ≡ true → (pid : ℕ) × (reaches ds pid f ≡ true)
any_has [] f h = absurd (cc)
any_has (d ∷ ds) f h = of_first (f d.description) refl h (λ rest. any_has ds f rest)
  where
    of_first : (b : Bool) → f d.description ≡ b → (b || list_any (λ (x : Descriptor). f x.description) ds) ≡ true → (list_any (λ (x : Descriptor). f x.description) ds ≡ true → (pid : ℕ) × (reaches ds pid f ≡ true)) → (pid : ℕ) × (reaches (d ∷ ds) pid f ≡ true)
    of_first true e h others =
        (d.pid, or_front ((d.pid == d.pid) && f d.description) (reaches ds d.pid f) (ap (λ (b : Bool). b && f d.description) (eq-eqb d.pid d.pid refl) ∙ e))
    of_first false e h others = let more = others h in (more.0, or_back ((d.pid == more.0) && f d.description) (reaches ds more.0 f) more.1)

pub has_any : (ds : List Descriptor) (pid : ℕ) (f : ℕ → Bool) → reaches ds pid f ≡ true → list_any (λ (d : Descriptor). f d.description) ds ≡ true
has_any [] pid f h = absurd (cc)
has_any (d ∷ ds) pid f h = of_first (d.pid == pid) (f d.description) h (λ rest. has_any ds pid f rest)
  where
    of_first : (own b : Bool) → ((own && b) || reaches ds pid f) ≡ true → (reaches ds pid f ≡ true → list_any (λ (x : Descriptor). f x.description) ds ≡ true) → (b || list_any (λ (x : Descriptor). f x.description) ds) ≡ true
    of_first true true h others = refl
    of_first true false h others = others h
    of_first false b h others = or_back b (list_any (λ (x : Descriptor). f x.description) ds) (others h)

-- ---- a process's own descriptors
named_own : (ds : List Descriptor) (pid : ℕ) (name : DescriptorRef) → find (is_named pid name) ds ≡ find (is_called name) (filter (λ (d : Descriptor). d.pid == pid) ds)
named_own [] pid name = refl
named_own (d ∷ ds) pid name = of_own (d.pid == pid) (filter (λ (x : Descriptor). x.pid == pid) ds) (named_own ds pid name)
  where
    of_own : (own : Bool) (others : List Descriptor) → find (is_named pid name) ds ≡ find (is_called name) others
        → cond (own && is_called name d) (Some d) (find (is_named pid name) ds) ≡ find (is_called name) (cond own (d ∷ others) others)
    of_own true others rest = ap (λ (o : Option Descriptor). cond (is_called name d) (Some d) o) rest
    of_own false others rest = rest

pub same_number : (ds ds' : List Descriptor) (pid : ℕ) (name : DescriptorRef) → filter (λ (d : Descriptor). d.pid == pid) ds' ≡ filter (λ (d : Descriptor). d.pid == pid) ds
    → description_number ds' pid name ≡ description_number ds pid name
same_number ds ds' pid name h =
    ap (λ (o : Option Descriptor). option_map (λ d. d.description) o) (named_own ds' pid name ∙ ap (λ (xs : List Descriptor). find (is_called name) xs) h ∙ sym (named_own ds pid name))

-- ---- where descriptions lead
abbrev pub leads : (Target → Bool) → List Description → ℕ → Bool
leads f es k = option_map_or (λ (e : Description). f e.target) (slice_get es k) false

of_target : (f : Target → Bool) (o : Option Description) → option_map_or (λ (e : Description). f e.target) o false ≡ option_map_or f (option_map (λ e. e.target) o) false
of_target f None = refl
of_target f (Some e) = refl

within : (f : Target → Bool) (es : List Description) (k : ℕ) → leads f es k ≡ true → k < length es
within f es k h = of_option (slice_get es k) refl h
  where
    of_option : (o : Option Description) → slice_get es k ≡ o → option_map_or (λ (e : Description). f e.target) o false ≡ true → k < length es
    of_option None e h = absurd (cc)
    of_option (Some x) e h = slice_get_within es k x e

-- a description that leads there goes on to
leads_on : (f : Target → Bool) (old new : MachineState) → OnlyGrows old new → Follows (leads f old.descriptions) (leads f new.descriptions)
leads_on f old new grows k h =
    of_target f (slice_get new.descriptions k) ∙ ap (λ (t : Option Target). option_map_or f t false) (grows.targets k (within f old.descriptions k h)) ∙ sym (of_target f (slice_get old.descriptions k)) ∙ h

pub leads_at : (f : Target → Bool) (es : List Description) (k : ℕ) (e : Description) → slice_get es k ≡ Some e → f e.target ≡ true → leads f es k ≡ true
leads_at f es k e there h = ap (λ (o : Option Description). option_map_or (λ (x : Description). f x.target) o false) there ∙ h

abbrev is_of_pipe : ℕ → Target → Bool
is_of_pipe pipe t = reads_from pipe t || writes_to pipe t

writes_is_end : (es : List Description) (pipe : ℕ) → Follows (leads (writes_to pipe) es) (is_end es pipe)
writes_is_end es pipe k h = of_option (slice_get es k) h
  where
    of_option : (o : Option Description) → option_map_or (λ (e : Description). writes_to pipe e.target) o false ≡ true → option_map_or (λ (e : Description). reads_from pipe e.target || writes_to pipe e.target) o false ≡ true
    of_option None h = absurd (cc)
    of_option (Some e) h = or_back (reads_from pipe e.target) (writes_to pipe e.target) h

reads_is_end : (es : List Description) (pipe : ℕ) → Follows (leads (reads_from pipe) es) (is_end es pipe)
reads_is_end es pipe k h = of_option (slice_get es k) h
  where
    of_option : (o : Option Description) → option_map_or (λ (e : Description). reads_from pipe e.target) o false ≡ true → option_map_or (λ (e : Description). reads_from pipe e.target || writes_to pipe e.target) o false ≡ true
    of_option None h = absurd (cc)
    of_option (Some e) h = or_front (reads_from pipe e.target) (writes_to pipe e.target) h

-- ---- what leaves processes as they are, and the pipes that only they reach
pub record Leaves (owners : ℕ → Bool) (old new : MachineState) : Type 0 where
  pub own : (q : ℕ) → owners q ≡ true → filter (λ (d : Descriptor). d.pid == q) new.descriptors ≡ filter (λ (d : Descriptor). d.pid == q) old.descriptors
  pub pipes : (pipe : ℕ) → pipe < length old.pipes → OnlyReach owners old pipe → slice_get new.pipes pipe ≡ slice_get old.pipes pipe
  pub alone : (pipe : ℕ) → pipe < length old.pipes → OnlyReach owners old pipe → OnlyReach owners new pipe
  pub descriptions : (k pipe : ℕ) → k < length old.descriptions → is_end old.descriptions pipe k ≡ true → OnlyReach owners old pipe → slice_get new.descriptions k ≡ slice_get old.descriptions k
  pub targets : (f : Target → Bool) → Follows (leads f old.descriptions) (leads f new.descriptions)

-- requests of another process do
module _ (s t : KernelState) (other : ℕ) (made : Option ℕ) (directory : List ℕ) (owners : ℕ → Bool) (c : ChangesByRequests other made directory s t) (beside : IsBeside owners other s.machine t.machine) where
  elsewhere : (q : ℕ) → owners q ≡ true → q ≢ other
  elsewhere q h e = let both : true ≡ false = sym h ∙ ap owners e ∙ beside.apart in cc

  none_ended : (pipe : ℕ) → OnlyReach owners s.machine pipe → (q : ℕ) (b : Bool) → owners q ≡ b → has_ended t.machine.processes q ≡ true → reaches s.machine.descriptors q (is_end s.machine.descriptions pipe) ≡ false
  none_ended pipe alone q true h ended = let both : true ≡ false = sym ended ∙ beside.alive q h in absurd (cc)
  none_ended pipe alone q false h ended = alone q h

  follows : (pipe k : ℕ) → is_end s.machine.descriptions pipe k ≡ true → Follows (λ j. j == k) (is_end s.machine.descriptions pipe)
  follows pipe k ends j h = ap (λ (n : ℕ). is_end s.machine.descriptions pipe n) (eqb-true j k h) ∙ ends

  pub requests_leave : Leaves owners s.machine t.machine
  requests_leave =
      record {
        own = λ q h. c.changes.descriptors q (elsewhere q h) (beside.there q h) (λ sent. beside.alive q h);
        pipes = λ pipe inside alone. c.changes.pipes pipe inside (alone other beside.apart) (λ sent q ended. none_ended pipe alone q (owners q) refl ended);
        alone = λ pipe inside alone q h. c.reaches.others q pipe inside (alone other beside.apart) (alone q h);
        descriptions = λ k pipe inside ends alone.
            c.changes.descriptions k inside (reaches_less s.machine.descriptors other (λ j. j == k) (is_end s.machine.descriptions pipe) (follows pipe k ends) (alone other beside.apart));
        targets = λ f. leads_on f s.machine t.machine c.grows;
      }

-- so do signals by which others end
module _ (owners : ℕ → Bool) (m : MachineState) (ps : List Process) (m' : MachineState) (e : Endings m ps m') (alive : AllGoOn owners m') where
  goes_on : (q : ℕ) → owners q ≡ true → has_ended ps q ≡ false
  goes_on q h = ap (λ (xs : List Process). has_ended xs q) (sym e.processes) ∙ alive q h

  others_ended : (pipe : ℕ) → OnlyReach owners m pipe → (q : ℕ) (b : Bool) → owners q ≡ b → has_ended ps q ≡ true → reaches m.descriptors q (is_end m.descriptions pipe) ≡ false
  others_ended pipe alone q true h ended = let both : true ≡ false = sym ended ∙ goes_on q h in absurd (cc)
  others_ended pipe alone q false h ended = alone q h

  pub endings_leave : Leaves owners m m'
  endings_leave =
      record {
        own = λ q h. e.descriptors q (goes_on q h);
        pipes = λ pipe inside alone. e.pipes pipe (λ q ended. others_ended pipe alone q (owners q) refl ended);
        alone = λ pipe inside alone q h. ap (λ (es : List Description). reaches m'.descriptors q (is_end es pipe)) e.descriptions ∙ e.reaches_less q (is_end m.descriptions pipe) (alone q h);
        descriptions = λ k pipe inside ends alone. ap (λ (es : List Description). slice_get es k) e.descriptions;
        targets = λ f k h. ap (λ (es : List Description). leads f es k) e.descriptions ∙ h;
      }

-- ---- pipes that are left
module _ (owners : ℕ → Bool) (old new : MachineState) (l : Leaves owners old new) where
  opened_stays : (pid number pipe : ℕ) (target : Target) → owners pid ≡ true → is_of_pipe pipe target ≡ true → OnlyReach owners old pipe → (o : Opened old pid number target) → Opened new pid number target
  opened_stays pid number pipe target owner ends alone o =
      record {
        place = o.place;
        description = o.description;
        refers = same_number old.descriptors new.descriptors pid (Number number) (l.own pid owner) ∙ o.refers;
        described = l.descriptions o.place pipe (slice_get_within old.descriptions o.place o.description o.described)
            (leads_at (is_of_pipe pipe) old.descriptions o.place o.description o.described (ap (λ (x : Target). is_of_pipe pipe x) o.leads ∙ ends)) alone ∙ o.described;
        leads = o.leads;
      }

  -- who has an end of the pipe keeps it
  ends_stay : (pipe : ℕ) (f : Target → Bool) → Follows (leads f old.descriptions) (is_end old.descriptions pipe) → OnlyReach owners old pipe
      → list_any (λ (d : Descriptor). leads f old.descriptions d.description) old.descriptors ≡ true → list_any (λ (d : Descriptor). leads f new.descriptions d.description) new.descriptors ≡ true
  ends_stay pipe f follows alone h =
      let some = any_has old.descriptors (leads f old.descriptions) h in
      of_owner some.0 some.1 (owners some.0) refl
    where
      of_owner : (q : ℕ) → reaches old.descriptors q (leads f old.descriptions) ≡ true → (b : Bool) → owners q ≡ b → list_any (λ (d : Descriptor). leads f new.descriptions d.description) new.descriptors ≡ true
      of_owner q has true owner =
          has_any new.descriptors q (leads f new.descriptions)
          (reaches_more new.descriptors q (leads f old.descriptions) (leads f new.descriptions) (l.targets f)
          (same_own old.descriptors new.descriptors q (leads f old.descriptions) (l.own q owner) ∙ has))
      of_owner q has false none =
          let both : true ≡ false = sym (reaches_more old.descriptors q (leads f old.descriptions) (is_end old.descriptions pipe) follows has) ∙ alone q none in absurd (cc)

  pub still_reads : (pid : ℕ) (given : List ℕ) (all : Bool) (read : List ℕ) → owners pid ≡ true → (r : ReadsPipe old pid given all read) → OnlyReach owners old r.pipe → StillReads owners new pid given all read r.pipe r.state
  unfolding opened_stays
  still_reads pid given all read owner r alone =
      let inside = slice_get_within old.pipes r.pipe (Some r.state) r.slot in
      record {
        reads = record {
          pipe = r.pipe;
          opened = opened_stays pid 0 r.pipe (ReadEnd r.pipe) owner (or_front (r.pipe == r.pipe) false (eq-eqb r.pipe r.pipe refl)) alone r.opened;
          readable = r.readable;
          state = r.state;
          slot = l.pipes r.pipe inside alone ∙ r.slot;
          bytes = r.bytes;
          end = λ none. r.end (false_where (has_writer old.descriptors old.descriptions r.pipe) (has_writer new.descriptors new.descriptions r.pipe)
              (ends_stay r.pipe (writes_to r.pipe) (writes_is_end old.descriptions r.pipe) alone) none);
        };
        same_pipe = refl;
        same_state = refl;
        alone = l.alone r.pipe inside alone;
      }

  pub still_writes : (pid pipe : ℕ) (state : PipeState) → owners pid ≡ true → WritesPipe old pid pipe state → OnlyReach owners old pipe → StillWrites owners new pid pipe state
  unfolding opened_stays
  still_writes pid pipe state owner w alone =
      let inside = slice_get_within old.pipes pipe (Some state) w.slot in
      record {
        writes = record {
          opened = opened_stays pid 1 pipe (WriteEnd pipe) owner (eq-eqb pipe pipe refl) alone w.opened;
          writable = w.writable;
          slot = l.pipes pipe inside alone ∙ w.slot;
          reader = ends_stay pipe (reads_from pipe) (reads_is_end old.descriptions pipe) alone w.reader;
        };
        alone = l.alone pipe inside alone;
      }

-- ---- keys
pub nothing_ends : (m : MachineState) → Endings m m.processes m
nothing_ends m = record {
  processes = refl;
  files = refl;
  descriptions = refl;
  room = refl;
  pipes = λ pipe none. refl;
  descriptors = λ q alive. refl;
  reaches_less = λ q test r. r;
  owned = λ pid test own. own;
}

pub signals_leave : (owners : ℕ → Bool) (s : KernelState) (to : SignalTarget) (signal : Signal) → AllGoOn owners (after_signal s to signal).machine → Leaves owners s.machine (after_signal s to signal).machine
signals_leave owners s to signal alive =
    let ps = (after_send (table_of s) to signal).processes in
    endings_leave owners s.machine ps (after_signal s to signal).machine (endings s.machine ps (pids_of s.members)) alive

raised_leaves : (owners : ℕ → Bool) (s : KernelState) (signal : Option Signal) → AllGoOn owners (after_raising s signal).machine → Leaves owners s.machine (after_raising s signal).machine
raised_leaves owners s None alive = endings_leave owners s.machine s.machine.processes s.machine (nothing_ends s.machine) alive
raised_leaves owners s (Some signal) alive = signals_leave owners s (Group s.foreground) signal alive

pub keys_leave : (owners : ℕ → Bool) (s : KernelState) (byte : ℕ) → AllGoOn owners (after_key s byte).machine → Leaves owners s.machine (after_key s byte).machine
keys_leave owners s byte alive = raised_leaves owners (record s { terminal = tty.after_key byte s.terminal }) (signal_of (key_of byte)) alive

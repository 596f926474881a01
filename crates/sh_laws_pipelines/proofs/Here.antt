-- The turn of the process of the first of some stages, by what it asks.
use Rattle.std.proofs.Common.{◌≡◌, ◌≢◌, ℕ, ◌+◌, List, [], ◌∷◌, ◌++◌, length, Bool, true, false, Option, Some, None, slice_get, slice_set, refl, sym, ap, ◌∙◌, subst, append_assoc, append-nil, length-append, inl, inr}
use Rattle.sh_exec.specs.Turns.{Turned}
use Rattle.sh_exec.specs.Actions.{action_of}
use Rattle.sh_exec.specs.declared.task.Task.{Task}
use Rattle.sh_files_image.specs.declared.node.Node.TheVariants as node
use Rattle.sh_kernel.specs.Reaching.{is_end, reaches}
use Rattle.sh_kernel.specs.State.{KernelState}
use Rattle.sh_kernel.specs.Turns.{can_do}
use Rattle.sh_kernel_descriptors.specs.Descriptors.{has_writer}
use Rattle.sh_kernel_descriptors.specs.declared.description.Target.TheVariants.{ReadEnd, WriteEnd}
use Rattle.sh_kernel_machine.proofs.Lists.{same_place}
use Rattle.sh_kernel_processes.specs.Processes as processes
use Rattle.sh_pipe.specs.Pipe.{PipeState}
use Rattle.sh_laws_pipelines.proofs.Leaving.{reader_has}
use Rattle.sh_laws_pipelines.specs.Others.{OnlyReach}
use Rattle.sh_laws_pipelines.proofs.Acting.{IsApart, IsApartFor, SinkAt, TurnedHere, build, fed_kept, sink_kept, sink_of, writer_there}
use Rattle.sh_laws_pipelines.proofs.Changes.{Changed, Piped, changed_content, changed_nothing, changed_offset, changed_pipe}
use Rattle.sh_laws_pipelines.proofs.Links.{IsOutside, fed_by_file_stays, fed_piped, opened_piped, ends_go_on, outside_ends, reached_elsewhere, writer_has}
use Rattle.sh_laws_pipelines.proofs.Standing.{go_on}
use Rattle.sh_laws_pipelines.specs.Stages.{AreAlive, AreDistinct, FedByFile, FedByPipe, FromFile, FromPipe, IsAlive, IsFed, IsNotLast, StageProcess, NotAmong, NotBefore, ReadsOther, Source, Stands, is_at_end}
use Rattle.sh_laws_pipelines.specs.Joined.{WritesFile, WritesPipe, with_content, with_offset, with_pipe}
use Rattle.sh_laws_pipelines.specs.Turns.{ReadFromFile, ReadFromPipe, Stepped, Took, WaitsForBytes, WaitsForRoom, Went, WrittenToFile, WrittenToPipe}
use Rattle.sh_laws_pipelines.specs.Pipelines.{course_of, has_ended, written_by}
use Rattle.sh_stock.specs.Asking.{Meaning}

pub none_last : {S : Type 0} (js : List (StageProcess S)) → IsNotLast None js
none_last [] = tt
none_last (j ∷ []) = λ h. cc
none_last (j ∷ k ∷ js) = none_last (k ∷ js)

pub behind_last : {S : Type 0} (number : Option ℕ) (j : StageProcess S) (js : List (StageProcess S)) → IsNotLast number (j ∷ js) → IsNotLast number js
behind_last number j [] h = tt
behind_last number j (k ∷ js) h = h

-- a pipe that the next stage reads isn't the one that this stage reads
next_outside : {S : Type 0} (before : Option ℕ) (j k : StageProcess S) (js : List (StageProcess S)) → NotBefore before (j ∷ k ∷ js) → j.pid ≢ k.pid → IsOutside before j.pid k.pid
next_outside None j k js n other = λ h. other (sym h)
next_outside (Some before) j k js n other = (λ h. n.1.0 (sym h), λ h. other (sym h))

apart_piped : {S : Type 0} (js : List (StageProcess S)) (pipe to actor : ℕ) (s t : KernelState) (old new : PipeState) (slot : slice_get s.machine.pipes pipe ≡ Some (Some old)) (has : reaches s.machine.descriptors actor (is_end s.machine.descriptions pipe) ≡ true) (same : t ≡ with_pipe s pipe new)
    → ((k : StageProcess S) (rest : List (StageProcess S)) → js ≡ k ∷ rest → pipe ≢ to) → IsApartFor {actor = actor} {s = s} {t = t} js (Piped pipe old new slot has same) to
apart_piped [] pipe to actor s t old new slot has same n = tt
apart_piped (k ∷ js) pipe to actor s t old new slot has same n = n k js refl

module _ {S : Type 0} (m : Meaning S) (s : KernelState) (before : Option ℕ) (source : Source) (given : List ℕ) (all : Bool) (j : StageProcess S) where
  -- the source is another pipe than the one that is written to
  source_apart : (pipe : ℕ) (js : List (StageProcess S)) → AreDistinct (j ∷ js) → NotBefore before (j ∷ js) → OnlyReach (is_at_end before j.pid) s.machine pipe → SinkAt m s.machine j (written_by m j.stage) (has_ended j.stage) js
      → (k : StageProcess S) (rest : List (StageProcess S)) → js ≡ k ∷ rest → j.to ≢ pipe
  source_apart pipe [] distinct n alone sink k rest h = cc
  source_apart pipe (l ∷ js) distinct n alone sink k rest h =
      let fed = sink.1 in
      reached_elsewhere s.machine (is_at_end before j.pid) j.to pipe l.pid alone (outside_ends before j.pid l.pid (next_outside before j l js n distinct.0.0))
      (subst (λ (x : ℕ). reaches s.machine.descriptors l.pid (is_end s.machine.descriptions x) ≡ true) fed.same_pipe (reader_has s.machine l.pid (written_by m j.stage) (has_ended j.stage) (course_of m l.stage).read fed.reads))

  -- nothing changed, and the process asks as before
  pub waits : (js : List (StageProcess S)) (t : Turned S) → can_do s j.pid (action_of s j.task) ≡ false → t.machine ≡ s → t.task ≡ j.task → Stands m s.machine before source given all (j ∷ js) → TurnedHere m s before source given all j js t.machine t.task
  waits js t cannot same task st =
      record {
        later = j.stage;
        stands = subst (λ (u : KernelState). Stands m u.machine before source given all (record j { stage = j.stage; task = t.task } ∷ js)) (sym same)
            (subst (λ (x : Task S). Stands m s.machine before source given all (record j { stage = j.stage; task = x } ∷ js)) (sym task) st);
        goes = inl (cannot, refl);
        touched = None;
        changed = subst (λ (u : KernelState). Changed j.pid None s u) (sym same) (changed_nothing j.pid s);
        elsewhere = λ number other last h. cc;
      }

  -- a step by which nothing changed that others see
  pub quiet : (js : List (StageProcess S)) (u : KernelState) (next : Task S) (c : Changed j.pid None s u) → ((pipe : ℕ) → IsApart c.pipes pipe) → Stepped m j.pid given all j.stage [] [] next → IsAlive u.machine before → AreAlive u.machine (j ∷ js) → NotAmong j.pid js
      → Stands m s.machine before source given all (j ∷ js) → IsFed u.machine before source given all j.pid (course_of m j.stage).read → TurnedHere m s before source given all j js u next
  quiet js u next c apart x alive_before alive among st fed =
      let read = (course_of m j.stage).read in
      let written = written_by m j.stage in
      record {
        later = x.later;
        stands = build m s u before source given all j next [] [] None js x c alive among (none_last js) st
            (subst (λ (l : List ℕ). IsFed u.machine before source given all j.pid l) (sym (append-nil read)) fed)
            (subst (λ (l : List ℕ). SinkAt m u.machine j l (has_ended x.later) js) (sym (append-nil written))
            (sink_kept m None s u j written (has_ended j.stage) (has_ended x.later) js c (apart_for js) alive (none_last (j ∷ js)) (sink_of m s.machine before source given all j js st)));
        goes = inr x.step;
        touched = None;
        changed = c;
        elsewhere = λ number other last h. cc;
      }
    where
      apart_for : (ks : List (StageProcess S)) → IsApartFor ks c.pipes j.to
      apart_for [] = tt
      apart_for (k ∷ ks) = apart j.to

-- ---- reads
module _ {S : Type 0} (m : Meaning S) (s : KernelState) (before : Option ℕ) (given : List ℕ) (all : Bool) (j : StageProcess S) (js : List (StageProcess S)) where
  pub reading_pipe : (pipe : ℕ) (f : FedByPipe s.machine before pipe given all j.pid (course_of m j.stage).read) (t : Turned S) → ReadFromPipe m s j.pid given all j.stage j.task f.reads t → AreAlive t.machine.machine (j ∷ js) → AreDistinct (j ∷ js) → NotBefore before (j ∷ js)
      → Stands m s.machine before (FromPipe pipe) given all (j ∷ js) → TurnedHere m s before (FromPipe pipe) given all j js t.machine t.task
  reading_pipe pipe f t (WaitsForBytes cannot empty written_to same task) alive distinct n st = waits m s before (FromPipe pipe) given all j js t cannot same task st
  reading_pipe pipe f t (Took taken rest split same x) alive distinct n st =
      let r = f.reads in
      let new : PipeState = record r.state { bytes = rest } in
      let u = with_pipe s r.pipe new in
      let read = (course_of m j.stage).read in
      let written = written_by m j.stage in
      let c = changed_pipe j.pid s r.pipe r.state new r.slot (reader_has s.machine j.pid given all read r) in
      let on = subst (λ (v : KernelState). AreAlive v.machine (j ∷ js)) same alive in
      let sink = sink_of m s.machine before (FromPipe pipe) given all j js st in
      let fed : FedByPipe u.machine before pipe given all j.pid (read ++ taken) =
      record {
        reads = record {
          pipe = r.pipe;
          opened = opened_piped s j.pid 0 (ReadEnd r.pipe) r.pipe new r.opened;
          readable = r.readable;
          state = new;
          slot = same_place s.machine.pipes r.pipe (Some new) (Some r.state) r.slot;
          bytes = append_assoc read taken rest ∙ (ap (λ (l : List ℕ). read ++ l) split ∙ r.bytes);
          end = r.end;
        };
        same_pipe = f.same_pipe;
        alone = f.alone;
      } in
      let here : TurnedHere m s before (FromPipe pipe) given all j js u t.task =
      record {
        later = x.later;
        stands = build m s u before (FromPipe pipe) given all j t.task taken [] None js x c on distinct.0 (none_last js) st fed
            (subst (λ (l : List ℕ). SinkAt m u.machine j l (has_ended x.later) js) (sym (append-nil written))
            (sink_kept m None s u j written (has_ended j.stage) (has_ended x.later) js c
            (apart_piped js r.pipe j.to j.pid s u r.state new r.slot (reader_has s.machine j.pid given all read r) refl (λ k ks h e. source_apart m s before (FromPipe pipe) given all j pipe js distinct n f.alone sink k ks h (sym e ∙ f.same_pipe)))
            on (none_last (j ∷ js)) sink));
        goes = inr x.step;
        touched = None;
        changed = c;
        elsewhere = λ number other last h. cc;
      } in
      subst (λ (v : KernelState). TurnedHere m s before (FromPipe pipe) given all j js v t.task) (sym same) here

  pub reading_file : (number : ℕ) (f : FedByFile s.machine number given all j.pid (course_of m j.stage).read) (t : Turned S) → ReadFromFile m s j.pid given all j.stage f.reads t → AreAlive t.machine.machine (j ∷ js) → AreDistinct (j ∷ js) → IsNotLast (Some number) (j ∷ js)
      → Stands m s.machine before (FromFile number) given all (j ∷ js) → TurnedHere m s before (FromFile number) given all j js t.machine t.task
  reading_file number f t y alive distinct others st =
      let r = f.reads in
      let x = y.stepped in
      let e = r.opened.description in
      let offset = e.offset + length y.taken in
      let u = with_offset s r.opened.place e offset in
      let read = (course_of m j.stage).read in
      let written = written_by m j.stage in
      let c = changed_offset j.pid s r.opened.place r.number offset e r.opened.described r.opened.leads in
      let on = subst (λ (v : KernelState). AreAlive v.machine (j ∷ js)) y.machine alive in
      let sink = sink_of m s.machine before (FromFile number) given all j js st in
      let last : IsNotLast (Some r.number) (j ∷ js) = subst (λ (n : ℕ). IsNotLast (Some n) (j ∷ js)) (sym f.same_file) others in
      let fed : FedByFile u.machine number given all j.pid (read ++ y.taken) =
      record {
        reads = record {
          number = r.number;
          opened = record {
            place = r.opened.place;
            description = record e { offset = offset };
            refers = r.opened.refers;
            described = same_place s.machine.descriptions r.opened.place (record e { offset = offset }) e r.opened.described;
            leads = r.opened.leads;
          };
          readable = r.readable;
          file = r.file;
          holds = r.holds;
          content = r.content;
          begun = y.begun;
          offset = ap (λ (n : ℕ). n + length y.taken) r.offset ∙ sym (length-append read y.taken);
          whole = r.whole;
        };
        same_file = f.same_file;
      } in
      let here : TurnedHere m s before (FromFile number) given all j js u t.task =
      record {
        later = x.later;
        stands = build m s u before (FromFile number) given all j t.task y.taken [] (Some r.number) js x c on distinct.0 (behind_last (Some r.number) j js last) st fed
            (subst (λ (l : List ℕ). SinkAt m u.machine j l (has_ended x.later) js) (sym (append-nil written))
            (sink_kept m (Some r.number) s u j written (has_ended j.stage) (has_ended x.later) js c (apart_calm js) on last sink));
        goes = inr x.step;
        touched = Some r.number;
        changed = c;
        elsewhere = λ n other l h. let same : r.number ≡ n = cc in other (ap (λ (k : ℕ). FromFile k) (sym f.same_file ∙ same));
      } in
      subst (λ (v : KernelState). TurnedHere m s before (FromFile number) given all j js v t.task) (sym y.machine) here
    where
      apart_calm : (ks : List (StageProcess S)) → IsApartFor ks (changed_offset j.pid s f.reads.opened.place f.reads.number (f.reads.opened.description.offset + length y.taken) f.reads.opened.description f.reads.opened.described f.reads.opened.leads).pipes j.to
      apart_calm [] = tt
      apart_calm (k ∷ ks) = tt

  -- ---- writes
  pub writing_file : (source : Source) (w : WritesFile s.machine j.pid j.to (written_by m j.stage)) (t : Turned S) → WrittenToFile m s j.pid given all j.stage j.to w t → IsAlive t.machine.machine before → AreAlive t.machine.machine (j ∷ []) → ReadsOther source (j ∷ [])
      → Stands m s.machine before source given all (j ∷ []) → TurnedHere m s before source given all j [] t.machine t.task
  writing_file source w t y alive_before alive others st =
      let x = y.stepped in
      let e = w.opened.description in
      let read = (course_of m j.stage).read in
      let written = written_by m j.stage in
      let bytes = written ++ y.bytes in
      let u = with_content s w.opened.place e j.to w.file bytes in
      let c = changed_content j.pid s w.opened.place j.to e w.file bytes w.opened.described w.opened.leads in
      let on = subst (λ (v : KernelState). AreAlive v.machine (j ∷ [])) y.machine alive in
      let on_before = subst (λ (v : KernelState). IsAlive v.machine before) y.machine alive_before in
      let sink : WritesFile u.machine j.pid j.to bytes =
      record {
        opened = record {
          place = w.opened.place;
          description = record e { offset = length bytes };
          refers = w.opened.refers;
          described = same_place s.machine.descriptions w.opened.place (record e { offset = length bytes }) e w.opened.described;
          leads = w.opened.leads;
        };
        writable = w.writable;
        file = record w.file { bytes = bytes };
        holds = same_place s.machine.files.nodes j.to (node.File (record w.file { bytes = bytes })) (node.File w.file) w.holds;
        content = refl;
        offset = λ h. refl;
      } in
      let here : TurnedHere m s before source given all j [] u t.task =
      record {
        later = x.later;
        stands = build m s u before source given all j t.task [] y.bytes (Some j.to) [] x c on tt tt st
            (subst (λ (l : List ℕ). IsFed u.machine before source given all j.pid l) (sym (append-nil read)) (own_fed source u c (λ pipe. tt) on_before on.0 others st.1)) sink;
        goes = inr x.step;
        touched = Some j.to;
        changed = c;
        elsewhere = λ n other l h. l (sym h);
      } in
      subst (λ (v : KernelState). TurnedHere m s before source given all j [] v t.task) (sym y.machine) here
    where
      own_fed : (o : Source) (u : KernelState) (c : Changed j.pid (Some j.to) s u) → ((pipe : ℕ) → IsApart c.pipes pipe) → IsAlive u.machine before → processes.has_ended u.machine.processes j.pid ≡ false → ReadsOther o (j ∷ []) → IsFed s.machine before o given all j.pid (course_of m j.stage).read → IsFed u.machine before o given all j.pid (course_of m j.stage).read
      own_fed (FromPipe pipe) u c apart b a o f = fed_kept j.pid s u before pipe given all j.pid (course_of m j.stage).read c.pipes (apart pipe) (ends_go_on before j.pid u.machine (go_on before j.pid u.machine b a)) f
      own_fed (FromFile number) u c apart b a o f = fed_by_file_stays j.pid (Some j.to) s u number given all j.pid (course_of m j.stage).read c a (λ h. o (sym h)) f

module _ {S : Type 0} (m : Meaning S) (s : KernelState) (before : Option ℕ) (given : List ℕ) (all : Bool) (j k : StageProcess S) (js : List (StageProcess S)) where
  -- a stage whose output goes to a pipe
  source_stays : (source : Source) (state new : PipeState) (w : WritesPipe s.machine j.pid j.to state) → AreDistinct (j ∷ k ∷ js) → NotBefore before (j ∷ k ∷ js) → processes.has_ended s.machine.processes j.pid ≡ false → Stands m s.machine before source given all (j ∷ k ∷ js)
      → IsFed (with_pipe s j.to new).machine before source given all j.pid (course_of m j.stage).read
  source_stays (FromPipe pipe) state new w distinct n alive st =
      fed_piped s before pipe given all j.pid (course_of m j.stage).read j.to new
      (source_apart m s before (FromPipe pipe) given all j pipe (k ∷ js) distinct n st.1.alone (sink_of m s.machine before (FromPipe pipe) given all j (k ∷ js) st) k js refl) st.1
  source_stays (FromFile number) state new w distinct n alive st =
      fed_by_file_stays j.pid None s (with_pipe s j.to new) number given all j.pid (course_of m j.stage).read (changed_pipe j.pid s j.to state new w.slot (writer_has s.machine j.pid j.to state w)) alive (λ h. cc) st.1

  pub writing_pipe : (source : Source) (state : PipeState) (w : WritesPipe s.machine j.pid j.to state) (t : Turned S) → WrittenToPipe m s j.pid given all j.stage j.task j.to state t → AreAlive t.machine.machine (j ∷ k ∷ js) → AreDistinct (j ∷ k ∷ js) → NotBefore before (j ∷ k ∷ js)
      → Stands m s.machine before source given all (j ∷ k ∷ js) → TurnedHere m s before source given all j (k ∷ js) t.machine t.task
  writing_pipe source state w t (WaitsForRoom cannot rest is full same task) alive distinct n st = waits m s before source given all j (k ∷ js) t cannot same task st
  writing_pipe source state w t (Went bytes same x) alive distinct n st =
      let new : PipeState = record state { bytes = state.bytes ++ bytes } in
      let u = with_pipe s j.to new in
      let read = (course_of m j.stage).read in
      let written = written_by m j.stage in
      let has = writer_has s.machine j.pid j.to state w in
      let c = changed_pipe j.pid s j.to state new w.slot has in
      let on = subst (λ (v : KernelState). AreAlive v.machine (j ∷ k ∷ js)) same alive in
      let f = (sink_of m s.machine before source given all j (k ∷ js) st).1 in
      let r = f.reads in
      let slots : Some (Some state) ≡ Some (Some r.state) = sym w.slot ∙ (ap (λ (i : ℕ). slice_get s.machine.pipes i) (sym f.same_pipe) ∙ r.slot) in
      let one : Some state ≡ Some r.state = cc in
      let held : state ≡ r.state = cc in
      let held_bytes : state.bytes ≡ r.state.bytes = ap (λ (p : PipeState). p.bytes) held in
      let next_read = (course_of m k.stage).read in
      let next : FedByPipe u.machine (Some j.pid) j.to (written ++ bytes) (has_ended x.later) k.pid next_read =
      record {
        reads = record {
          pipe = r.pipe;
          opened = opened_piped s k.pid 0 (ReadEnd r.pipe) j.to new r.opened;
          readable = r.readable;
          state = new;
          slot = ap (λ (i : ℕ). slice_get (slice_set s.machine.pipes j.to (Some new)) i) f.same_pipe ∙ same_place s.machine.pipes j.to (Some new) (Some state) w.slot;
          bytes = ap (λ (l : List ℕ). next_read ++ (l ++ bytes)) held_bytes ∙ (sym (append_assoc next_read r.state.bytes bytes) ∙ ap (λ (l : List ℕ). l ++ bytes) r.bytes);
          end = λ none. let both : true ≡ false = sym (writer_there s.machine j.pid j.to state w) ∙ (ap (λ (i : ℕ). has_writer s.machine.descriptors s.machine.descriptions i) (sym f.same_pipe) ∙ none) in absurd (cc);
        };
        same_pipe = f.same_pipe;
        alone = f.alone;
      } in
      let sink : WritesPipe u.machine j.pid j.to new =
      record {
        opened = opened_piped s j.pid 1 (WriteEnd j.to) j.to new w.opened;
        writable = w.writable;
        slot = same_place s.machine.pipes j.to (Some new) (Some state) w.slot;
        reader = w.reader;
      } in
      let here : TurnedHere m s before source given all j (k ∷ js) u t.task =
      record {
        later = x.later;
        stands = build m s u before source given all j t.task [] bytes None (k ∷ js) x c on distinct.0 (none_last (k ∷ js)) st
            (subst (λ (l : List ℕ). IsFed u.machine before source given all j.pid l) (sym (append-nil read)) (source_stays source state new w distinct n on.0 st)) ((new, sink), next);
        goes = inr x.step;
        touched = None;
        changed = c;
        elsewhere = λ number other last h. cc;
      } in
      subst (λ (v : KernelState). TurnedHere m s before source given all j (k ∷ js) v t.task) (sym same) here

-- All stages of a pipeline stand after the process of one of them took its turn.
use Rattle.std.proofs.Common.{◌≡◌, ◌≢◌, ℕ, zero, suc, List, [], ◌∷◌, Bool, false, Option, Some, None, slice_get, refl, sym, ap, ◌∙◌, subst, inl, inr, ◌⊎◌}
use Rattle.sh_exec.specs.Actions.{action_of}
use Rattle.sh_exec.specs.Turns.{turn}
use Rattle.sh_exec.specs.declared.task.Task.{Task}
use Rattle.sh_kernel.specs.Calls.{kill_call}
use Rattle.sh_kernel.specs.State.{KernelState}
use Rattle.sh_kernel.specs.Turns.{can_do}
use Rattle.sh_kernel_descriptors.specs.Machine.{MachineState}
use Rattle.sh_kernel_processes.specs.Processes as processes
use Rattle.sh_kernel_processes.specs.declared.target.SignalTarget.TheVariants.{Process}
use Rattle.sh_pipe.specs.Pipe.{PipeState}
use Rattle.sh_laws_pipelines.proofs.Acting.{IsApart, TurnedHere, fed_kept, runs_of}
use Rattle.sh_laws_pipelines.proofs.Changes.{Changed, changed_nothing, changed_signal}
use Rattle.sh_laws_pipelines.proofs.Here.{behind_last, quiet, reading_file, reading_pipe, writing_file, writing_pipe}
use Rattle.sh_laws_pipelines.proofs.Links.{FromOther, fed_by_file_stays, fed_stays, writer_is_at_end, ends_go_on, sink_stays}
use Rattle.sh_laws_pipelines.proofs.Standing.{fed_of, go_on, outside}
use Rattle.sh_laws_pipelines.specs.Stages.{AreAlive, AreDistinct, FromFile, FromPipe, HasRoom, IsAlive, IsFed, IsNot, IsNotLast, StageProcess, NotAmong, NotBefore, NotEnding, ReadsOther, Source, Stands, is_at_end, stages_of, with_turn}
use Rattle.sh_laws_pipelines.proofs.Turning.{idles, reads_file, reads_pipe, stops, writes_file, writes_pipe}
use Rattle.sh_laws_pipelines.specs.Joined.{WritesPipe}
use Rattle.sh_laws_pipelines.specs.Turns.{Runs}
use Rattle.sh_laws_pipelines.specs.Pipelines.{Behind, Here, Stage, StageStep, Step, course_of, has_ended, written_by}
use Rattle.sh_signal.specs.declared.signal.Signal.TheVariants as signal
use Rattle.sh_stock.specs.Asking.{KeepsLaws, Meaning}
use Rattle.sh_stock.specs.declared.asking.Ask.{Ask}
use Rattle.sh_stock.specs.declared.asking.Ask.TheVariants.{End, Idle, Read, Stop, Write}

-- a process that runs none of some stages doesn't run one of them
pub among_at : {S : Type 0} (pid : ℕ) (js : List (StageProcess S)) (n : ℕ) (j : StageProcess S) → NotAmong pid js → slice_get js n ≡ Some j → pid ≢ j.pid
among_at pid [] n j among h = cc
among_at pid (k ∷ js) zero j among h = let same : k ≡ j = cc in λ e. among.0 (e ∙ ap (λ x. x.pid) (sym same))
among_at pid (k ∷ js) (suc n) j among h = among_at pid js n j among.1 h

module _ {S : Type 0} (m : Meaning S) (laws : KeepsLaws m) where
  -- ---- the first stage
  module _ (s : KernelState) (before : Option ℕ) (given : List ℕ) (all : Bool) (j : StageProcess S) (js : List (StageProcess S)) where
    -- what it reads from stays where nothing changed that it sees
    own_fed : (source : Source) (u : KernelState) (c : Changed j.pid None s u) → ((pipe : ℕ) → IsApart c.pipes pipe) → IsAlive u.machine before → processes.has_ended u.machine.processes j.pid ≡ false → IsFed s.machine before source given all j.pid (course_of m j.stage).read
        → IsFed u.machine before source given all j.pid (course_of m j.stage).read
    own_fed (FromPipe pipe) u c apart b a f = fed_kept j.pid s u before pipe given all j.pid (course_of m j.stage).read c.pipes (apart pipe) (ends_go_on before j.pid u.machine (go_on before j.pid u.machine b a)) f
    own_fed (FromFile number) u c apart b a f = fed_by_file_stays j.pid None s u number given all j.pid (course_of m j.stage).read c a (λ h. cc) f

    abbrev Goes : Source → Type 0
    Goes source = let t = turn m s j.task in
        IsAlive t.machine.machine before → AreAlive t.machine.machine (j ∷ js) → AreDistinct (j ∷ js) → NotBefore before (j ∷ js) → ReadsOther source (j ∷ js) → Stands m s.machine before source given all (j ∷ js)
        → TurnedHere m s before source given all j js t.machine t.task

    reads : (count : ℕ) → (course_of m j.stage).ask ≡ Read count → (source : Source) → Goes source
    reads count asks (FromPipe pipe) b a distinct n others st =
        let fed = fed_of m s.machine before (FromPipe pipe) given all j js st in
        reading_pipe m s before given all j js pipe fed (turn m s j.task) (reads_pipe m laws s j.pid j.stage j.task given all count (runs_of m s.machine before (FromPipe pipe) given all j js st) asks fed.reads) a distinct n st
    reads count asks (FromFile number) b a distinct n others st =
        let fed = fed_of m s.machine before (FromFile number) given all j js st in
        reading_file m s before given all j js number fed (turn m s j.task) (reads_file m laws s j.pid j.stage j.task given all count (runs_of m s.machine before (FromFile number) given all j js st) asks fed.reads) a distinct others st

    stopping : (course_of m j.stage).ask ≡ Stop → (source : Source) → Goes source
    stopping asks source b a distinct n others st =
        let t = turn m s j.task in
        let x = stops m s j.pid j.stage j.task given all (runs_of m s.machine before source given all j js st) asks in
        let u = (kill_call s (Process j.pid) signal.Stop).after in
        let c = changed_signal j.pid s (Process j.pid) signal.Stop in
        let on = subst (λ (v : KernelState). AreAlive v.machine (j ∷ js)) x.1 a in
        let on_before = subst (λ (v : KernelState). IsAlive v.machine before) x.1 b in
        subst (λ (v : KernelState). TurnedHere m s before source given all j js v t.task) (sym x.1)
        (quiet m s before source given all j js u t.task c (λ pipe. tt) x.0 on_before on distinct.0 st (own_fed source u c (λ pipe. tt) on_before on.0 (fed_of m s.machine before source given all j js st)))

    idling : (course_of m j.stage).ask ≡ Idle → (source : Source) → Goes source
    idling asks source b a distinct n others st =
        let t = turn m s j.task in
        let x = idles m s j.pid j.stage j.task given all (runs_of m s.machine before source given all j js st) asks in
        let c = changed_nothing j.pid s in
        let on = subst (λ (v : KernelState). AreAlive v.machine (j ∷ js)) x.1 a in
        let on_before = subst (λ (v : KernelState). IsAlive v.machine before) x.1 b in
        subst (λ (v : KernelState). TurnedHere m s before source given all j js v t.task) (sym x.1)
        (quiet m s before source given all j js s t.task c (λ pipe. tt) x.0 on_before on distinct.0 st (fed_of m s.machine before source given all j js st))

  writes : (s : KernelState) (before : Option ℕ) (given : List ℕ) (all : Bool) (j : StageProcess S) (js : List (StageProcess S)) (bytes : List ℕ) → (course_of m j.stage).ask ≡ Write bytes → HasRoom m j → (source : Source) → Goes s before given all j js source
  writes s before given all j [] bytes asks room source b a distinct n others st =
      writing_file m s before given all j [] source st.2 (turn m s j.task) (writes_file m laws s j.pid j.stage j.task given all bytes j.to st.0 asks st.2 (room bytes asks)) b a others st
  writes s before given all j (k ∷ js) bytes asks room source b a distinct n others st =
      writing_pipe m s before given all j k js source st.2.0 st.2.1 (turn m s j.task) (writes_pipe m laws s j.pid j.stage j.task given all bytes j.to st.2.0 st.0 asks st.2.1) a distinct n st

  here : (s : KernelState) (before : Option ℕ) (given : List ℕ) (all : Bool) (j : StageProcess S) (js : List (StageProcess S)) (ask : Ask) → (course_of m j.stage).ask ≡ ask → NotEnding m j → HasRoom m j → (source : Source) → Goes s before given all j js source
  here s before given all j js (Read count) asks on room source = reads s before given all j js count asks source
  here s before given all j js (Write bytes) asks on room source = writes s before given all j js bytes asks room source
  here s before given all j js Stop asks on room source = stopping s before given all j js asks source
  here s before given all j js Idle asks on room source = idling s before given all j js asks source
  here s before given all j js (End status) asks on room source = absurd (on status asks)

  -- ---- a stage among others
  not_before : (before : Option ℕ) (js : List (StageProcess S)) (n : ℕ) (j : StageProcess S) → NotBefore before js → slice_get js n ≡ Some j → IsNot before j.pid
  not_before None js n j among h = tt
  not_before (Some b) js n j among h = λ e. among_at b js n j among h (sym e)

  behind_before : (before : Option ℕ) (j : StageProcess S) (js : List (StageProcess S)) → NotBefore before (j ∷ js) → NotBefore before js
  behind_before None j js n = tt
  behind_before (Some b) j js n = n.1

  pub record TurnedAt (s : KernelState) (before : Option ℕ) (source : Source) (given : List ℕ) (all : Bool) (js : List (StageProcess S)) (n : ℕ) (j : StageProcess S) (t : KernelState) (next : Task S) : Type 0 where
    pub later : Stage S
    pub stands : Stands m t.machine before source given all (with_turn n later next js)
    pub goes : ((can_do s j.pid (action_of s j.task) ≡ false) × (stages_of (with_turn n later next js) ≡ stages_of js)) ⊎ Step m given all (stages_of js) (stages_of (with_turn n later next js))
    pub touched : Option ℕ
    pub changed : Changed j.pid touched s t
    pub elsewhere : (number : ℕ) → source ≢ FromFile number → IsNotLast (Some number) js → touched ≢ Some number

  steps_on : (Waits : Type 0) (given : List ℕ) (all : Bool) (j : StageProcess S) (js : List (StageProcess S)) (later : Stage S) (next : Task S) → (Waits × (later ≡ j.stage)) ⊎ StageStep m given all j.stage later
      → (Waits × (stages_of (with_turn 0 later next (j ∷ js)) ≡ stages_of (j ∷ js))) ⊎ Step m given all (stages_of (j ∷ js)) (stages_of (with_turn 0 later next (j ∷ js)))
  steps_on Waits given all j js later next (inl w) = inl (w.0, ap (λ (x : Stage S). x ∷ stages_of js) w.1)
  steps_on Waits given all j js later next (inr step) = inr (Here given all j.stage later (stages_of js) step)

  steps_behind : (Waits : Type 0) (given : List ℕ) (all : Bool) (j : StageProcess S) (js others : List (StageProcess S)) → (Waits × (stages_of others ≡ stages_of js)) ⊎ Step m (written_by m j.stage) (has_ended j.stage) (stages_of js) (stages_of others)
      → (Waits × (stages_of (j ∷ others) ≡ stages_of (j ∷ js))) ⊎ Step m given all (stages_of (j ∷ js)) (stages_of (j ∷ others))
  steps_behind Waits given all j js others (inl w) = inl (w.0, ap (λ (xs : List (Stage S)). j.stage ∷ xs) w.1)
  steps_behind Waits given all j js others (inr step) = inr (Behind given all j.stage (stages_of js) (stages_of others) step)

  -- a stage in front of those of which one took its turn
  in_front : (t : MachineState) (before : Option ℕ) (source : Source) (given : List ℕ) (all : Bool) (j k : StageProcess S) (js : List (StageProcess S)) (n : ℕ) (later : Stage S) (next : Task S) → Runs m j.pid j.stage j.task → IsFed t before source given all j.pid (course_of m j.stage).read
      → ((state : PipeState) × WritesPipe t j.pid j.to state) → Stands m t (Some j.pid) (FromPipe j.to) (written_by m j.stage) (has_ended j.stage) (with_turn n later next (k ∷ js)) → Stands m t before source given all (j ∷ with_turn n later next (k ∷ js))
  in_front t before source given all j k js zero later next runs fed sink st = (runs, fed, sink, st)
  in_front t before source given all j k js (suc n) later next runs fed sink st = (runs, fed, sink, st)

  from_other : (source : Source) (j : StageProcess S) (js : List (StageProcess S)) (touched : Option ℕ) (to : ℕ) → ReadsOther source (j ∷ js) → ((number : ℕ) → FromPipe to ≢ FromFile number → IsNotLast (Some number) js → touched ≢ Some number) → FromOther touched source
  from_other (FromPipe pipe) j js touched to others elsewhere = tt
  from_other (FromFile number) j js touched to others elsewhere = elsewhere number (λ h. cc) (behind_last (Some number) j js others)

  pub takes : (s : KernelState) (before : Option ℕ) (source : Source) (given : List ℕ) (all : Bool) (js : List (StageProcess S)) (n : ℕ) (j : StageProcess S) → slice_get js n ≡ Some j → let t = turn m s j.task in
      IsAlive t.machine.machine before → AreAlive t.machine.machine js → AreDistinct js → NotBefore before js → ReadsOther source js → NotEnding m j → HasRoom m j → Stands m s.machine before source given all js
      → TurnedAt s before source given all js n j t.machine t.task
  takes s before source given all [] n j at b a distinct nb others on room st = cc
  takes s before source given all (i ∷ js) zero j at b a distinct nb others on room st =
      let same : i ≡ j = cc in
      subst (λ (x : StageProcess S). let t = turn m s x.task in TurnedAt s before source given all (i ∷ js) zero x t.machine t.task) same
      (let r = here s before given all i js (course_of m i.stage).ask refl (subst (λ (x : StageProcess S). NotEnding m x) (sym same) on) (subst (λ (x : StageProcess S). HasRoom m x) (sym same) room) source
      (subst (λ (x : StageProcess S). IsAlive (turn m s x.task).machine.machine before) (sym same) b) (subst (λ (x : StageProcess S). AreAlive (turn m s x.task).machine.machine (i ∷ js)) (sym same) a) distinct nb others st in
      record {
        later = r.later;
        stands = r.stands;
        goes = steps_on (can_do s i.pid (action_of s i.task) ≡ false) given all i js r.later (turn m s i.task).task r.goes;
        touched = r.touched;
        changed = r.changed;
        elsewhere = r.elsewhere;
      })
  takes s before source given all (i ∷ []) (suc n) j at b a distinct nb others on room st = cc
  takes s before source given all (i ∷ k ∷ js) (suc n) j at b a distinct nb others on room st =
      let t = turn m s j.task in
      let r = takes s (Some i.pid) (FromPipe i.to) (written_by m i.stage) (has_ended i.stage) (k ∷ js) n j at a.0 a.1 distinct.1 distinct.0 tt on room st.3 in
      let next = fed_of m s.machine (Some i.pid) (FromPipe i.to) (written_by m i.stage) (has_ended i.stage) k js st.3 in
      let apart = λ (e : j.pid ≡ i.pid). among_at i.pid (k ∷ js) n j distinct.0 at (sym e) in
      record {
        later = r.later;
        stands = in_front t.machine.machine before source given all i k js n r.later t.task st.0
            (fed_stays j.pid r.touched s t.machine before source given all i.pid (course_of m i.stage).read r.changed (go_on before i.pid t.machine.machine b a.0) (outside before i.pid j.pid (not_before before (k ∷ js) n j (behind_before before i (k ∷ js) nb) at) apart)
            (from_other source i (k ∷ js) r.touched i.to others r.elsewhere) st.1)
            (sink_stays j.pid s t.machine (is_at_end (Some i.pid) k.pid) i.pid i.to st.2.0 r.changed.pipes (writer_is_at_end i.pid k.pid) (ends_go_on (Some i.pid) k.pid t.machine.machine (a.0, a.1.0)) next.alone st.2.1)
            r.stands;
        goes = steps_behind (can_do s j.pid (action_of s j.task) ≡ false) given all i (k ∷ js) (with_turn n r.later t.task (k ∷ js)) r.goes;
        touched = r.touched;
        changed = r.changed;
        elsewhere = λ number other last. r.elsewhere number (λ h. cc) last;
      }

-- The first of some stages stands after its process took its turn, and those behind it too.
use Rattle.std.proofs.Common.{◌≡◌, ◌≢◌, ℕ, List, [], ◌∷◌, ◌++◌, Bool, true, false, Option, Some, refl, sym, ap, ◌∙◌, subst, eq-eqb, ◌⊎◌}
use Rattle.sh_exec.specs.Actions.{action_of}
use Rattle.sh_exec.specs.declared.task.Task.{Task}
use Rattle.sh_kernel.specs.State.{KernelState}
use Rattle.sh_kernel.specs.Turns.{can_do}
use Rattle.sh_kernel_descriptors.specs.Descriptors.{has_writer, writes_to}
use Rattle.sh_kernel_descriptors.specs.Machine.{MachineState}
use Rattle.sh_kernel_descriptors.specs.declared.descriptor.DescriptorRef.TheVariants.{Number}
use Rattle.sh_pipe.specs.Pipe.{PipeState}
use Rattle.sh_laws_pipelines.proofs.Beside.{has_any, leads, leads_at}
use Rattle.sh_laws_pipelines.proofs.Leaving.{found_reaches}
use Rattle.sh_laws_pipelines.specs.Others.{AllGoOn}
use Rattle.sh_laws_pipelines.proofs.Changes.{Calm, Changed, PipeChange, Piped}
use Rattle.sh_laws_pipelines.proofs.Links.{fed_calm, fed_piped, writer_is_at_end, ends_go_on, sink_stays, writes_file_stays}
use Rattle.sh_laws_pipelines.proofs.Standing.{fed_of, tail_stays}
use Rattle.sh_laws_pipelines.specs.Stages.{AreAlive, FedByPipe, FromFile, FromPipe, IsFed, IsNotLast, StageProcess, NotAmong, Source, Stands, is_at_end}
use Rattle.sh_laws_pipelines.specs.Joined.{WritesFile, WritesPipe}
use Rattle.sh_laws_pipelines.specs.Turns.{Runs, Stepped}
use Rattle.sh_laws_pipelines.specs.Pipelines.{Stage, StageStep, course_of, has_ended, written_by}
use Rattle.sh_stock.specs.Asking.{Meaning}

-- a pipe that is written to has a writer
pub writer_there : (m : MachineState) (pid pipe : ℕ) (state : PipeState) → WritesPipe m pid pipe state → has_writer m.descriptors m.descriptions pipe ≡ true
writer_there m pid pipe state w =
    let own : writes_to pipe w.opened.description.target ≡ true = ap (writes_to pipe) w.opened.leads ∙ eq-eqb pipe pipe refl in
    has_any m.descriptors pid (leads (writes_to pipe) m.descriptions)
    (found_reaches m.descriptors pid (Number 1) w.opened.place (leads (writes_to pipe) m.descriptions) w.opened.refers (leads_at (writes_to pipe) m.descriptions w.opened.place w.opened.description w.opened.described own))

-- while it has one, nothing hangs on whether more is to come
pub refeed : (m : MachineState) (before : Option ℕ) (pipe : ℕ) (given : List ℕ) (all all' : Bool) (pid : ℕ) (read : List ℕ) → has_writer m.descriptors m.descriptions pipe ≡ true → FedByPipe m before pipe given all pid read → FedByPipe m before pipe given all' pid read
refeed m before pipe given all all' pid read writer f =
    record {
      reads = record {
        pipe = f.reads.pipe;
        opened = f.reads.opened;
        readable = f.reads.readable;
        state = f.reads.state;
        slot = f.reads.slot;
        bytes = f.reads.bytes;
        end = λ none. let both : true ≡ false = sym writer ∙ (ap (λ (n : ℕ). has_writer m.descriptors m.descriptions n) (sym f.same_pipe) ∙ none) in absurd (cc);
      };
      same_pipe = f.same_pipe;
      alone = f.alone;
    }

-- the change isn't of this pipe
abbrev pub IsApart : {actor : ℕ} {s t : KernelState} → PipeChange actor s t → ℕ → Type 0
IsApart (Piped pipe old new slot has same) to = pipe ≢ to
IsApart (Calm leaves) to = Unit {0}

abbrev pub IsApartFor : {S : Type 0} {actor : ℕ} {s t : KernelState} → List (StageProcess S) → PipeChange actor s t → ℕ → Type 0
IsApartFor [] p to = Unit {0}
IsApartFor (k ∷ js) p to = IsApart p to

-- what a stage writes goes on to the next one, or to the file
abbrev pub SinkAt : {S : Type 0} → Meaning S → MachineState → (j : StageProcess S) → (written : List ℕ) → (all : Bool) → List (StageProcess S) → Type 0
SinkAt m s j written all [] = WritesFile s j.pid j.to written
SinkAt m s j written all (k ∷ js) = ((state : PipeState) × WritesPipe s j.pid j.to state) × FedByPipe s (Some j.pid) j.to written all k.pid (course_of m k.stage).read

-- a stage of a link is fed as before
pub fed_kept : (actor : ℕ) (s t : KernelState) (before : Option ℕ) (pipe : ℕ) (given : List ℕ) (all : Bool) (pid : ℕ) (read : List ℕ) (p : PipeChange actor s t) → IsApart p pipe → AllGoOn (is_at_end before pid) t.machine → FedByPipe s.machine before pipe given all pid read
    → FedByPipe t.machine before pipe given all pid read
fed_kept actor s t before pipe given all pid read (Piped other old new slot has same) apart alive f =
    subst (λ (u : KernelState). FedByPipe u.machine before pipe given all pid read) (sym same) (fed_piped s before pipe given all pid read other new apart f)
fed_kept actor s t before pipe given all pid read (Calm leaves) apart alive f = fed_calm s t before pipe given all pid read (leaves (is_at_end before pid) alive) f

module _ {S : Type 0} (m : Meaning S) where
  pub runs_of : (s : MachineState) (before : Option ℕ) (source : Source) (given : List ℕ) (all : Bool) (j : StageProcess S) (js : List (StageProcess S)) → Stands m s before source given all (j ∷ js) → Runs m j.pid j.stage j.task
  runs_of s before source given all j [] st = st.0
  runs_of s before source given all j (k ∷ js) st = st.0

  pub sink_of : (s : MachineState) (before : Option ℕ) (source : Source) (given : List ℕ) (all : Bool) (j : StageProcess S) (js : List (StageProcess S)) → Stands m s before source given all (j ∷ js) → SinkAt m s j (written_by m j.stage) (has_ended j.stage) js
  sink_of s before source given all j [] st = st.2
  sink_of s before source given all j (k ∷ js) st = (st.2, fed_of m s (Some j.pid) (FromPipe j.to) (written_by m j.stage) (has_ended j.stage) k js st.3)

  -- where the pipe to which the stage writes isn't changed
  pub sink_kept : (touched : Option ℕ) (s t : KernelState) (j : StageProcess S) (written : List ℕ) (all all' : Bool) (js : List (StageProcess S)) (c : Changed j.pid touched s t) → IsApartFor js c.pipes j.to → AreAlive t.machine (j ∷ js) → IsNotLast touched (j ∷ js) → SinkAt m s.machine j written all js
      → SinkAt m t.machine j written all' js
  sink_kept touched s t j written all all' [] c apart alive last sink = writes_file_stays j.pid touched s t j.pid j.to written c alive.0 last sink
  sink_kept touched s t j written all all' (k ∷ js) c apart alive last sink =
      let on = ends_go_on (Some j.pid) k.pid t.machine (alive.0, alive.1.0) in
      let w = sink_stays j.pid s t (is_at_end (Some j.pid) k.pid) j.pid j.to sink.0.0 c.pipes (writer_is_at_end j.pid k.pid) on sink.1.alone sink.0.1 in
      (w, refeed t.machine (Some j.pid) j.to written all all' k.pid (course_of m k.stage).read (writer_there t.machine j.pid j.to w.0 w.1) (fed_kept j.pid s t (Some j.pid) j.to written all k.pid (course_of m k.stage).read c.pipes apart on sink.1))

  -- ---- the stages after the turn
  -- what came of the turn of the first one's process
  pub record TurnedHere (s : KernelState) (before : Option ℕ) (source : Source) (given : List ℕ) (all : Bool) (j : StageProcess S) (js : List (StageProcess S)) (t : KernelState) (next : Task S) : Type 0 where
    pub later : Stage S
    pub stands : Stands m t.machine before source given all (record j { stage = later; task = next } ∷ js)
    pub goes : ((can_do s j.pid (action_of s j.task) ≡ false) × (later ≡ j.stage)) ⊎ StageStep m given all j.stage later
    pub touched : Option ℕ
    pub changed : Changed j.pid touched s t
    pub elsewhere : (number : ℕ) → source ≢ FromFile number → IsNotLast (Some number) (j ∷ js) → touched ≢ Some number

  pub build : (s t : KernelState) (before : Option ℕ) (source : Source) (given : List ℕ) (all : Bool) (j : StageProcess S) (next : Task S) (read written : List ℕ) (touched : Option ℕ) (js : List (StageProcess S)) → (x : Stepped m j.pid given all j.stage read written next) → Changed j.pid touched s t
      → AreAlive t.machine (j ∷ js) → NotAmong j.pid js → IsNotLast touched js → Stands m s.machine before source given all (j ∷ js)
      → IsFed t.machine before source given all j.pid ((course_of m j.stage).read ++ read) → SinkAt m t.machine j (written_by m j.stage ++ written) (has_ended x.later) js
      → Stands m t.machine before source given all (record j { stage = x.later; task = next } ∷ js)
  build s t before source given all j next read written touched [] x c alive among last st fed sink = (
    x.runs,
    subst (λ (l : List ℕ). IsFed t.machine before source given all j.pid l) (sym x.reads) fed,
    subst (λ (l : List ℕ). WritesFile t.machine j.pid j.to l) (sym x.writes) sink,
  )
  build s t before source given all j next read written touched (k ∷ js) x c alive among last st fed sink = (
    x.runs,
    subst (λ (l : List ℕ). IsFed t.machine before source given all j.pid l) (sym x.reads) fed,
    sink.0,
    tail_stays m j.pid touched s t c (Some j.pid) (Some j.pid) (FromPipe j.to) (FromPipe j.to) (written_by m j.stage) (written_by m x.later) (has_ended j.stage) (has_ended x.later) js k alive.1 among last st.3
        (subst (λ (l : List ℕ). FedByPipe t.machine (Some j.pid) j.to l (has_ended x.later) k.pid (course_of m k.stage).read) (sym x.writes) sink.1),
  )

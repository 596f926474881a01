-- The stages of a pipeline stand where the process of another one takes its turn.
use Rattle.std.proofs.Common.{◌≡◌, ◌≢◌, ℕ, List, [], ◌∷◌, Bool, false, Option, Some, None}
use Rattle.sh_kernel.specs.State.{KernelState}
use Rattle.sh_kernel_descriptors.specs.Machine.{MachineState}
use Rattle.sh_kernel_processes.specs.Processes as processes
use Rattle.sh_laws_pipelines.proofs.Changes.{Changed}
use Rattle.sh_laws_pipelines.proofs.Links.{FromOther, GoOn, IsOutside, fed_stays, writer_is_at_end, ends_go_on, sink_stays, writes_file_stays}
use Rattle.sh_laws_pipelines.specs.Stages.{AreAlive, FromPipe, IsAlive, IsFed, IsNot, IsNotLast, StageProcess, NotAmong, Source, Stands, is_at_end}
use Rattle.sh_laws_pipelines.specs.Pipelines.{course_of, has_ended, written_by}
use Rattle.sh_stock.specs.Asking.{Meaning}

pub outside : (before : Option ℕ) (pid actor : ℕ) → IsNot before actor → actor ≢ pid → IsOutside before pid actor
outside None pid actor n other = other
outside (Some before) pid actor n other = (n, other)

pub go_on : (before : Option ℕ) (pid : ℕ) (t : MachineState) → IsAlive t before → processes.has_ended t.processes pid ≡ false → GoOn before pid t
go_on None pid t alive own = own
go_on (Some before) pid t alive own = (alive, own)

module _ {S : Type 0} (m : Meaning S) where
  pub fed_of : (s : MachineState) (before : Option ℕ) (source : Source) (given : List ℕ) (all : Bool) (k : StageProcess S) (js : List (StageProcess S)) → Stands m s before source given all (k ∷ js) → IsFed s before source given all k.pid (course_of m k.stage).read
  fed_of s before source given all k [] st = st.1
  fed_of s before source given all k (l ∷ js) st = st.1

  module _ (actor : ℕ) (touched : Option ℕ) (s t : KernelState) (c : Changed actor touched s t) where
    pub rest_stays : (before : Option ℕ) (source : Source) (given : List ℕ) (all : Bool) (js : List (StageProcess S)) → IsAlive t.machine before → AreAlive t.machine js → IsNot before actor → NotAmong actor js → FromOther touched source → IsNotLast touched js
        → Stands m s.machine before source given all js → Stands m t.machine before source given all js
    rest_stays before source given all [] alive_before alive n among other last st = tt
    rest_stays before source given all (j ∷ []) alive_before alive n among other last st = (
      st.0,
      fed_stays actor touched s t before source given all j.pid (course_of m j.stage).read c (go_on before j.pid t.machine alive_before alive.0) (outside before j.pid actor n among.0) other st.1,
      writes_file_stays actor touched s t j.pid j.to (written_by m j.stage) c alive.0 last st.2,
    )
    rest_stays before source given all (j ∷ k ∷ js) alive_before alive n among other last st =
        let fed = fed_of s.machine (Some j.pid) (FromPipe j.to) (written_by m j.stage) (has_ended j.stage) k js st.3 in (
          st.0,
          fed_stays actor touched s t before source given all j.pid (course_of m j.stage).read c (go_on before j.pid t.machine alive_before alive.0) (outside before j.pid actor n among.0) other st.1,
          sink_stays actor s t (is_at_end (Some j.pid) k.pid) j.pid j.to st.2.0 c.pipes (writer_is_at_end j.pid k.pid) (ends_go_on (Some j.pid) k.pid t.machine (alive.0, alive.1.0)) fed.alone st.2.1,
          rest_stays (Some j.pid) (FromPipe j.to) (written_by m j.stage) (has_ended j.stage) (k ∷ js) alive.0 alive.1 among.0 among.1 tt last st.3,
        )

    -- the stages behind the one whose process took its turn, where the first of them is fed
    pub tail_stays : (old new : Option ℕ) (from to : Source) (given given' : List ℕ) (all all' : Bool) (js : List (StageProcess S)) (k : StageProcess S) → AreAlive t.machine (k ∷ js) → NotAmong actor (k ∷ js) → IsNotLast touched (k ∷ js)
        → Stands m s.machine old from given all (k ∷ js) → IsFed t.machine new to given' all' k.pid (course_of m k.stage).read → Stands m t.machine new to given' all' (k ∷ js)
    tail_stays old new from to given given' all all' [] k alive among last st fed = (st.0, fed, writes_file_stays actor touched s t k.pid k.to (written_by m k.stage) c alive.0 last st.2)
    tail_stays old new from to given given' all all' (l ∷ js) k alive among last st fed =
        let next = fed_of s.machine (Some k.pid) (FromPipe k.to) (written_by m k.stage) (has_ended k.stage) l js st.3 in (
          st.0,
          fed,
          sink_stays actor s t (is_at_end (Some k.pid) l.pid) k.pid k.to st.2.0 c.pipes (writer_is_at_end k.pid l.pid) (ends_go_on (Some k.pid) l.pid t.machine (alive.0, alive.1.0)) next.alone st.2.1,
          rest_stays (Some k.pid) (FromPipe k.to) (written_by m k.stage) (has_ended k.stage) (l ∷ js) alive.0 alive.1 among.0 among.1 tt last st.3,
        )

-- All stages of a pipeline stand after what another process does, and after a key.
use Rattle.std.proofs.Common.{◌≡◌, ◌≢◌, ℕ, ◌<◌, ◌==◌, ◌||◌, List, [], ◌∷◌, Bool, true, false, Option, Some, None, slice_get, refl, sym, ap, ◌∙◌, subst, eq-eqb, eqb-true}
use Rattle.std.proofs.lemmas.Option.{slice_get_within}
use Rattle.sh_files_image.specs.declared.node.Node.{Node}
use Rattle.sh_kernel.specs.Calls.{after_key}
use Rattle.sh_kernel.specs.Reaching.{is_file, is_node, reaches}
use Rattle.sh_kernel.specs.State.{KernelState}
use Rattle.sh_kernel_descriptors.specs.declared.description.Description.{Description}
use Rattle.sh_kernel_descriptors.specs.declared.description.Target.{Target}
use Rattle.sh_kernel_descriptors.specs.declared.description.Target.TheVariants.{File}
use Rattle.sh_kernel_processes.specs.Processes as processes
use Rattle.sh_laws.specs.Requests.{ChangesByRequests, opens_by}
use Rattle.sh_laws_pipelines.proofs.Beside.{Follows, Leaves, keys_leave, leads_at, reaches_less, requests_leave, still_writes}
use Rattle.sh_laws_pipelines.proofs.LeavingFiles.{LeavesFile, key_leaves_file, reads_there, writes_there}
use Rattle.sh_laws_pipelines.proofs.Links.{fed_calm, writer_is_at_end, ends_go_on, outside_ends}
use Rattle.sh_laws_pipelines.proofs.Standing.{fed_of}
use Rattle.sh_laws_pipelines.specs.Stages.{AreAlive, FromFile, FromPipe, IsAlive, IsElsewhere, IsFed, StageProcess, LeavesLast, LeavesSource, Source, Stands, is_at_end}
use Rattle.sh_laws_pipelines.specs.Pipelines.{course_of, has_ended, written_by}
use Rattle.sh_stock.specs.Asking.{Meaning}

-- what leaves the pipes and files of processes for which all is well
module _ (s t : KernelState) (IsFine : ℕ → Type 0) (leaves_number : ℕ → Type 0) where
  abbrev IsFineBefore : Option ℕ → Type 0
  IsFineBefore None = Unit {0}
  IsFineBefore (Some before) = IsFine before

  abbrev AreFine : {S : Type 0} → List (StageProcess S) → Type 0
  AreFine [] = Unit {0}
  AreFine (j ∷ js) = IsFine j.pid × AreFine js

  module _ {S : Type 0} (m : Meaning S) (leaves : (before : Option ℕ) (pid : ℕ) → IsFineBefore before → IsFine pid → Leaves (is_at_end before pid) s.machine t.machine)
      (files : (pid number place : ℕ) (e : Description) → IsFine pid → leaves_number number → slice_get s.machine.descriptions place ≡ Some e → e.target ≡ File number → (x : Node) → slice_get s.machine.files.nodes number ≡ Some x → LeavesFile pid number place s.machine t.machine) where
    fed_there : (before : Option ℕ) (source : Source) (given : List ℕ) (all : Bool) (pid : ℕ) (read : List ℕ) → IsFineBefore before → IsFine pid → LeavesSource leaves_number source → IsFed s.machine before source given all pid read → IsFed t.machine before source given all pid read
    fed_there before (FromPipe pipe) given all pid read fine_before fine left f = fed_calm s t before pipe given all pid read (leaves before pid fine_before fine) f
    fed_there before (FromFile number) given all pid read fine_before fine left f =
        let r = f.reads in
        let there = reads_there s.machine t.machine pid given all read r
        (files pid r.number r.opened.place r.opened.description fine (subst leaves_number (sym f.same_file) left) r.opened.described r.opened.leads _ r.holds) in
        record { reads = there.reads; same_file = there.same_file ∙ f.same_file }

    pub all_there : (before : Option ℕ) (source : Source) (given : List ℕ) (all : Bool) (js : List (StageProcess S)) → IsFineBefore before → AreFine js → LeavesSource leaves_number source → LeavesLast leaves_number js → Stands m s.machine before source given all js
        → Stands m t.machine before source given all js
    all_there before source given all [] fine_before fine left last st = tt
    all_there before source given all (j ∷ []) fine_before fine left last st =
        let w = st.2 in (
          st.0,
          fed_there before source given all j.pid (course_of m j.stage).read fine_before fine.0 left st.1,
          writes_there s.machine t.machine j.pid j.to (written_by m j.stage) w (files j.pid j.to w.opened.place w.opened.description fine.0 last w.opened.described w.opened.leads _ w.holds),
        )
    all_there before source given all (j ∷ k ∷ js) fine_before fine left last st =
        let next = fed_of m s.machine (Some j.pid) (FromPipe j.to) (written_by m j.stage) (has_ended j.stage) k js st.3 in
        let w = still_writes (is_at_end (Some j.pid) k.pid) s.machine t.machine (leaves (Some j.pid) k.pid fine.0 fine.1.0) j.pid j.to st.2.0 (writer_is_at_end j.pid k.pid) st.2.1 next.alone in (
          st.0,
          fed_there before source given all j.pid (course_of m j.stage).read fine_before fine.0 left st.1,
          (st.2.0, w.writes),
          all_there (Some j.pid) (FromPipe j.to) (written_by m j.stage) (has_ended j.stage) (k ∷ js) fine.0 fine.1 tt last st.3,
        )

-- ---- keys
module _ {S : Type 0} (m : Meaning S) (s : KernelState) (byte : ℕ) where
  abbrev goes_on : ℕ → Type 0
  goes_on pid = processes.has_ended (after_key s byte).machine.processes pid ≡ false

  alive_fine : (js : List (StageProcess S)) → AreAlive (after_key s byte).machine js → AreFine s (after_key s byte) goes_on (λ number. Unit {0}) js
  alive_fine [] alive = tt
  alive_fine (j ∷ js) alive = (alive.0, alive_fine js alive.1)

  before_fine : (before : Option ℕ) → IsAlive (after_key s byte).machine before → IsFineBefore s (after_key s byte) goes_on (λ number. Unit {0}) before
  before_fine None alive = tt
  before_fine (Some before) alive = alive

  key_leaves : (before : Option ℕ) (pid : ℕ) → IsFineBefore s (after_key s byte) goes_on (λ number. Unit {0}) before → goes_on pid → Leaves (is_at_end before pid) s.machine (after_key s byte).machine
  key_leaves None pid fine own = keys_leave (is_at_end None pid) s byte (ends_go_on None pid (after_key s byte).machine own)
  key_leaves (Some before) pid fine own = keys_leave (is_at_end (Some before) pid) s byte (ends_go_on (Some before) pid (after_key s byte).machine (fine, own))

  any_source : (source : Source) → LeavesSource (λ number. Unit {0}) source
  any_source (FromPipe pipe) = tt
  any_source (FromFile number) = tt

  any_last : (js : List (StageProcess S)) → LeavesLast (λ number. Unit {0}) js
  any_last [] = tt
  any_last (j ∷ []) = tt
  any_last (j ∷ k ∷ js) = any_last (k ∷ js)

  pub stands_after_key : (before : Option ℕ) (source : Source) (given : List ℕ) (all : Bool) (js : List (StageProcess S)) → IsAlive (after_key s byte).machine before → AreAlive (after_key s byte).machine js → Stands m s.machine before source given all js
      → Stands m (after_key s byte).machine before source given all js
  stands_after_key before source given all js alive_before alive st =
      all_there s (after_key s byte) goes_on (λ number. Unit {0}) m key_leaves (λ pid number place e own left there leads x holds. key_leaves_file pid number place s byte own)
      before source given all js (before_fine before alive_before) (alive_fine js alive) (any_source source) (any_last js) st

-- ---- another process
module _ {S : Type 0} (m : Meaning S) (s t : KernelState) (other : ℕ) (made : Option ℕ) (directory : List ℕ) (c : ChangesByRequests other made directory s t) where
  abbrev is_beside : ℕ → Type 0
  is_beside pid = (pid ≢ other) × (pid < processes.next_pid s.machine.processes) × (processes.has_ended t.machine.processes pid ≡ false)

  abbrev pub is_left : ℕ → Type 0
  is_left number = (reaches s.machine.descriptors other (is_file s.machine.descriptions number) ≡ false) × (opens_by s c.requests number ≡ false)

  all_beside : (js : List (StageProcess S)) → IsElsewhere other s.machine js → AreAlive t.machine js → AreFine s t is_beside is_left js
  all_beside [] elsewhere alive = tt
  all_beside (j ∷ js) elsewhere alive = ((elsewhere.0, elsewhere.1, alive.0), all_beside js elsewhere.2 alive.1)

  there : (before : Option ℕ) (pid : ℕ) → IsFineBefore s t is_beside is_left before → is_beside pid → (q : ℕ) → is_at_end before pid q ≡ true → q < processes.next_pid s.machine.processes
  there None pid fine own q h = subst (λ (n : ℕ). n < processes.next_pid s.machine.processes) (sym (eqb-true q pid h)) own.1
  there (Some before) pid fine own q h = of_test (q == before) refl h
    where
      of_test : (b : Bool) → (q == before) ≡ b → (b || (q == pid)) ≡ true → q < processes.next_pid s.machine.processes
      of_test true is h = subst (λ (n : ℕ). n < processes.next_pid s.machine.processes) (sym (eqb-true q before is)) fine.1
      of_test false is h = subst (λ (n : ℕ). n < processes.next_pid s.machine.processes) (sym (eqb-true q pid h)) own.1

  turn_leaves : (before : Option ℕ) (pid : ℕ) → IsFineBefore s t is_beside is_left before → is_beside pid → Leaves (is_at_end before pid) s.machine t.machine
  turn_leaves None pid fine own =
      requests_leave s t other made directory (is_at_end None pid) c
      (record { apart = outside_ends None pid other (λ h. own.0 (sym h)); there = there None pid fine own; alive = ends_go_on None pid t.machine own.2 })
  turn_leaves (Some before) pid fine own =
      requests_leave s t other made directory (is_at_end (Some before) pid) c
      (record { apart = outside_ends (Some before) pid other (λ h. fine.0 (sym h), λ h. own.0 (sym h)); there = there (Some before) pid fine own; alive = ends_go_on (Some before) pid t.machine (fine.2, own.2) })

  turn_leaves_file : (pid number place : ℕ) (e : Description) → is_beside pid → is_left number → slice_get s.machine.descriptions place ≡ Some e → e.target ≡ File number → (x : Node) → slice_get s.machine.files.nodes number ≡ Some x → LeavesFile pid number place s.machine t.machine
  turn_leaves_file pid number place e own left at leads x holds =
      let is : is_file s.machine.descriptions number place ≡ true = leads_at (is_node number) s.machine.descriptions place e at (ap (λ (target : Target). is_node number target) leads ∙ eq-eqb number number refl) in
      let follows : Follows (λ j. j == place) (is_file s.machine.descriptions number) = λ j h. ap (λ (n : ℕ). is_file s.machine.descriptions number n) (eqb-true j place h) ∙ is in
      record {
        own = c.changes.descriptors pid own.0 own.1 (λ sent. own.2);
        description = c.changes.descriptions place (slice_get_within s.machine.descriptions place e at) (reaches_less s.machine.descriptors other (λ j. j == place) (is_file s.machine.descriptions number) follows left.0);
        node = c.changes.files number (slice_get_within s.machine.files.nodes number x holds) left.0 left.1;
      }

  pub stands_beside : (before : Option ℕ) (source : Source) (given : List ℕ) (all : Bool) (js : List (StageProcess S)) → IsFineBefore s t is_beside is_left before → IsElsewhere other s.machine js → AreAlive t.machine js → LeavesSource is_left source → LeavesLast is_left js
      → Stands m s.machine before source given all js → Stands m t.machine before source given all js
  stands_beside before source given all js fine_before elsewhere alive left last st =
      all_there s t is_beside is_left m turn_leaves turn_leaves_file before source given all js fine_before (all_beside js elsewhere alive) left last st

-- Pipelines at the states of the shell machine, after events.
use Rattle.std.proofs.Common.{◌≡◌, ◌≢◌, ℕ, zero, suc, List, [], ◌∷◌, Bool, true, false, not, Option, Some, None, slice_get, refl, sym, ◌∙◌, subst}
use Rattle.std.specs.Option.{option_map_or}
use Rattle.sh_exec.specs.Processes.{turn_among}
use Rattle.sh_exec.specs.State.{State, after_turn, task_of, with_key}
use Rattle.sh_exec.specs.Tasks.{pid_of}
use Rattle.sh_exec.specs.Turns.{turn}
use Rattle.sh_exec.specs.declared.task.Task.{Task}
use Rattle.sh_kernel.specs.Calls.{after_key}
use Rattle.sh_kernel.specs.State.{KernelState}
use Rattle.sh_kernel_processes.specs.Processes as processes
use Rattle.sh_kernel_processes.specs.Processes.{is_ended, is_living, lives, process_at}
use Rattle.sh_kernel_processes.specs.declared.process.Process.{Process}
use Rattle.sh_laws.proofs.Processes.{turn_number}
use Rattle.sh_laws.specs.Requests.{ChangesByRequests, directory_of, number_of}
use Rattle.sh_laws_pipelines.proofs.Tasks.{others_stay, still_lives, turned}
use Rattle.sh_laws_pipelines.specs.Events.{AreLiving, AreTasks, GoesOnAt, StandsAt}
use Rattle.sh_laws_pipelines.proofs.StagesBeside.{is_left, stands_after_key}
use Rattle.sh_laws_pipelines.proofs.Ending.{ends_at, last_holds}
use Rattle.sh_laws_pipelines.proofs.AllStages.{beside, goes_on}
use Rattle.sh_laws_pipelines.proofs.StageTurns.{among_at}
use Rattle.sh_laws_pipelines.specs.Stages.{AreAlive, AreDistinct, Ends, FromPipe, HasRoom, Holds, IsAlive, IsElsewhere, IsElsewhereBefore, StageProcess, LeavesLast, LeavesSource, NotAmong, NotBefore, NotEnding, ReadsOther, Source, Stands, behind, with_turn}
use Rattle.sh_laws_pipelines.specs.Pipelines.{Stage, course_of, written_by}
use Rattle.sh_stock.specs.Asking.{KeepsLaws, Meaning}
use Rattle.sh_stock.specs.declared.asking.Ask.TheVariants.{End}

-- what lives hasn't ended
not_ended : (s : KernelState) (pid : ℕ) → lives s.machine.processes pid ≡ true → processes.has_ended s.machine.processes pid ≡ false
not_ended s pid h = of_option (process_at s.machine.processes pid) h
  where
    of_living : (b : Bool) → b ≡ true → not b ≡ false
    of_living true h = refl
    of_living false h = absurd (cc)

    of_option : (o : Option Process) → option_map_or is_living o false ≡ true → is_ended o ≡ false
    of_option None h = refl
    of_option (Some p) h = of_living (is_living p) h

module _ {S : Type 0} (m : Meaning S) where
  all_alive : (s : KernelState) (js : List (StageProcess S)) → AreLiving s js → AreAlive s.machine js
  all_alive s [] living = tt
  all_alive s (j ∷ js) living = (not_ended s j.pid living.0, all_alive s js living.1)

  task_at : (s : State S) (js : List (StageProcess S)) (n : ℕ) (j : StageProcess S) → slice_get js n ≡ Some j → AreTasks s js → task_of s j.pid ≡ Some j.task
  task_at s [] n j at tasks = cc
  task_at s (i ∷ js) zero j at tasks = let same : i ≡ j = cc in subst (λ (x : StageProcess S). task_of s x.pid ≡ Some x.task) same tasks.0
  task_at s (i ∷ js) (suc n) j at tasks = task_at s js n j at tasks.1

  -- ---- a turn of a process among all
  module _ (s : State S) (pid : ℕ) (task : Task S) (found : task_of s pid ≡ Some task) where
    machine_of : (after_turn m s pid).machine ≡ (turn m s.machine task).machine
    machine_of = (turned m (turn_number m) s.machine pid task s.tasks found).machine

    living_of : (js : List (StageProcess S)) → AreLiving (turn m s.machine task).machine js → AreLiving (after_turn m s pid).machine js
    living_of js living = subst (λ (u : KernelState). AreLiving u js) (sym machine_of) living

    own_task : lives (after_turn m s pid).machine.machine.processes pid ≡ true → task_of (after_turn m s pid) pid ≡ Some (turn m s.machine task).task
    own_task alive =
        let t = turn_among m s.machine pid s.tasks in
        still_lives t.machine pid (turn m s.machine task).task t.tasks t.child (turned m (turn_number m) s.machine pid task s.tasks found).own alive

    other_task : (q : ℕ) (x : Task S) → q ≢ pid → task_of s q ≡ Some x → lives (after_turn m s pid).machine.machine.processes q ≡ true → task_of (after_turn m s pid) q ≡ Some x
    other_task q x n there alive =
        let t = turn_among m s.machine pid s.tasks in
        still_lives t.machine q x t.tasks t.child (others_stay m (turn_number m) s.machine pid q s.tasks n ∙ there) alive

    others_are : (js : List (StageProcess S)) → NotAmong pid js → AreLiving (after_turn m s pid).machine js → AreTasks s js → AreTasks (after_turn m s pid) js
    others_are [] among living tasks = tt
    others_are (j ∷ js) among living tasks = (other_task j.pid j.task (λ h. among.0 (sym h)) tasks.0 living.0, others_are js among.1 living.1 tasks.1)

  -- ---- a turn of a stage's process
  tasks_after : (s : State S) (j : StageProcess S) (found : task_of s j.pid ≡ Some j.task) (later : Stage S) (js : List (StageProcess S)) (n : ℕ) → slice_get js n ≡ Some j → AreDistinct js → AreLiving (after_turn m s j.pid).machine js → AreTasks s js
      → AreTasks (after_turn m s j.pid) (with_turn n later (turn m s.machine j.task).task js)
  tasks_after s j found later [] n at distinct living tasks = cc
  tasks_after s j found later (i ∷ js) zero at distinct living tasks =
      let same : i ≡ j = cc in (
        subst (λ (x : StageProcess S). task_of (after_turn m s j.pid) x.pid ≡ Some (turn m s.machine j.task).task) (sym same)
            (own_task s j.pid j.task found (subst (λ (x : StageProcess S). lives (after_turn m s j.pid).machine.machine.processes x.pid ≡ true) same living.0)),
        others_are s j.pid j.task found js (subst (λ (x : StageProcess S). NotAmong x.pid js) same distinct.0) living.1 tasks.1,
      )
  tasks_after s j found later (i ∷ js) (suc n) at distinct living tasks = (
    other_task s j.pid j.task found i.pid i.task (among_at i.pid js n j distinct.0 at) tasks.0 living.0,
    tasks_after s j found later js n at distinct.1 living.1 tasks.1,
  )

  pub goes_on_at : KeepsLaws m → (s : State S) (before : Option ℕ) (source : Source) (given : List ℕ) (all : Bool) (js : List (StageProcess S)) (n : ℕ) (j : StageProcess S) → slice_get js n ≡ Some j → let t = turn m s.machine j.task in
      IsAlive t.machine.machine before → AreLiving t.machine js → AreDistinct js → NotBefore before js → ReadsOther source js → NotEnding m j → HasRoom m j → StandsAt m s before source given all js
      → GoesOnAt m s (after_turn m s j.pid) before source given all js n j
  goes_on_at laws s before source given all js n j at alive living distinct nb others on room st =
      let t = turn m s.machine j.task in
      let found = task_at s js n j at st.tasks in
      let r = goes_on m laws s.machine before source given all js n j at alive (all_alive t.machine js living) distinct nb others on room st.stands in
      record {
        later = r.later;
        task = t.task;
        stands = record {
          stands = subst (λ (u : KernelState). Stands m u.machine before source given all (with_turn n r.later t.task js)) (sym (machine_of s j.pid j.task found)) r.stands;
          tasks = tasks_after s j found r.later js n at distinct (living_of s j.pid j.task found js living) st.tasks;
        };
        steps = r.steps;
      }

  -- ---- the end of one
  tasks_behind : (s : State S) (j : StageProcess S) (found : task_of s j.pid ≡ Some j.task) (js : List (StageProcess S)) (n : ℕ) → slice_get js n ≡ Some j → AreDistinct js → AreLiving (after_turn m s j.pid).machine (behind n js) → AreTasks s js → AreTasks (after_turn m s j.pid) (behind n js)
  tasks_behind s j found [] n at distinct living tasks = cc
  tasks_behind s j found (i ∷ js) zero at distinct living tasks =
      let same : i ≡ j = cc in others_are s j.pid j.task found js (subst (λ (x : StageProcess S). NotAmong x.pid js) same distinct.0) living tasks.1
  tasks_behind s j found (i ∷ js) (suc n) at distinct living tasks = tasks_behind s j found js n at distinct.1 living tasks.1

  pub ends_on_at : (s : State S) (before : Option ℕ) (source : Source) (given : List ℕ) (all : Bool) (js : List (StageProcess S)) (n : ℕ) (j : StageProcess S) (status : ℕ) → slice_get js n ≡ Some j → let t = turn m s.machine j.task in
      (course_of m j.stage).ask ≡ End status → lives s.machine.machine.processes j.pid ≡ true → Ends s.machine t.machine j.pid → AreLiving t.machine (behind n js) → AreDistinct js → StandsAt m s before source given all js
      → StandsAt m (after_turn m s j.pid) None (FromPipe j.to) (written_by m j.stage) true (behind n js)
  ends_on_at s before source given all js n j status at asks alive e living distinct st =
      let t = turn m s.machine j.task in
      let found = task_at s js n j at st.tasks in
      record {
        stands = subst (λ (u : KernelState). Stands m u.machine None (FromPipe j.to) (written_by m j.stage) true (behind n js)) (sym (machine_of s j.pid j.task found))
            (ends_at m s.machine before source given all js n j status at asks alive e (all_alive t.machine (behind n js) living) distinct st.stands);
        tasks = tasks_behind s j found js n at distinct (living_of s j.pid j.task found (behind n js) living) st.tasks;
      }

  pub last_holds_at : (s : State S) (before : Option ℕ) (source : Source) (given : List ℕ) (all : Bool) (js : List (StageProcess S)) (n : ℕ) (j : StageProcess S) (status : ℕ) → slice_get js n ≡ Some j → behind n js ≡ [] → (course_of m j.stage).ask ≡ End status → StandsAt m s before source given all js
      → Holds (after_turn m s j.pid).machine.machine j.to (written_by m j.stage)
  last_holds_at s before source given all js n j status at last asks st =
      subst (λ (u : KernelState). Holds u.machine j.to (written_by m j.stage)) (sym (machine_of s j.pid j.task (task_at s js n j at st.tasks))) (last_holds m s.machine before source given all js n j status at last asks st.stands)

  -- ---- a turn of another process
  pub beside_at : (s : State S) (pid : ℕ) (task : Task S) → task_of s pid ≡ Some task → (c : ChangesByRequests (pid_of task) (number_of (turn m s.machine task).child) (directory_of task) s.machine (turn m s.machine task).machine)
      (before : Option ℕ) (source : Source) (given : List ℕ) (all : Bool) (js : List (StageProcess S)) → let t = turn m s.machine task in IsElsewhereBefore (pid_of task) s.machine.machine t.machine.machine before → IsElsewhere (pid_of task) s.machine.machine js → NotAmong pid js → AreLiving t.machine js
      → LeavesSource (is_left m s.machine t.machine (pid_of task) (number_of t.child) (directory_of task) c) source → LeavesLast (is_left m s.machine t.machine (pid_of task) (number_of t.child) (directory_of task) c) js → StandsAt m s before source given all js
      → StandsAt m (after_turn m s pid) before source given all js
  beside_at s pid task found c before source given all js first elsewhere among living left last st =
      let t = turn m s.machine task in
      record {
        stands = subst (λ (u : KernelState). Stands m u.machine before source given all js) (sym (machine_of s pid task found))
            (beside m s.machine t.machine (pid_of task) (number_of t.child) (directory_of task) c before source given all js first elsewhere (all_alive t.machine js living) left last st.stands);
        tasks = others_are s pid task found js among (living_of s pid task found js living) st.tasks;
      }

  -- ---- a key
  tasks_after_key : (s : State S) (byte : ℕ) (js : List (StageProcess S)) → AreLiving (after_key s.machine byte) js → AreTasks s js → AreTasks (with_key s byte) js
  tasks_after_key s byte [] living tasks = tt
  tasks_after_key s byte (j ∷ js) living tasks = (still_lives (after_key s.machine byte) j.pid j.task s.tasks None tasks.0 living.0, tasks_after_key s byte js living.1 tasks.1)

  pub key_at : (s : State S) (byte : ℕ) (before : Option ℕ) (source : Source) (given : List ℕ) (all : Bool) (js : List (StageProcess S)) → IsAlive (after_key s.machine byte).machine before → AreLiving (after_key s.machine byte) js → StandsAt m s before source given all js
      → StandsAt m (with_key s byte) before source given all js
  key_at s byte before source given all js alive living st =
      record {
        stands = stands_after_key m s.machine byte before source given all js alive (all_alive (after_key s.machine byte) js living) st.stands;
        tasks = tasks_after_key s byte js living st.tasks;
      }

-- A turn of one process among others, by its place.
use Rattle.std.proofs.Common.{◌≡◌, ℕ, ◌≤◌, ◌<◌, suc, List, [], ◌∷◌, Bool, true, false, nat_eq, None, Option, ◌++◌, ◌∙◌, take, length, slice_index_or, slice_set, if◌then◌else◌, refl, ap, subst, arith}
use Rattle.std.proofs.Math.Seq.{take-append_seam}
use Rattle.sh_exec.specs.Tasks.{pid_of}
use Rattle.sh_exec.specs.Turns.{IsTurned, turn}
use Rattle.sh_exec.specs.declared.task.Task.{Task}
use Rattle.sh_kernel.specs.State.{KernelKept, KernelState, StandsAt}
use Rattle.sh_stock.specs.Asking.{Meaning}
use Rattle.sh_exec.specs.Processes.{HaveTurned, TasksTurned, behind, living, place_of, turn_among, turned_first, with_child}
use Rattle.sh_world.specs.Awake.{HasTurnedTo}

-- what a turn leaves of the process at a place
abbrev pub turned_at : {S : Type 0} → Meaning S → KernelState → ℕ → List (Task S) → ℕ → Task S → TasksTurned S
turned_at m s pid tasks i d = record {
  machine = (turn m s (slice_index_or tasks i d)).machine;
  tasks = slice_set tasks i (turn m s (slice_index_or tasks i d)).task;
  child = (turn m s (slice_index_or tasks i d)).child;
}

none-by : {S : Type 0} (m : Meaning S) (s : KernelState) (pid : ℕ) (task : Task S) (tasks : List (Task S)) (b : Bool) →
    (length tasks ≤ place_of pid tasks → turn_among m s pid tasks ≡ record { machine = s; tasks = tasks; child = None }) →
    length (task ∷ tasks) ≤ (if b then 0 else suc (place_of pid tasks)) →
    (if b then turned_first tasks (turn m s task) else behind task (turn_among m s pid tasks)) ≡ record { machine = s; tasks = task ∷ tasks; child = None }
none-by m s pid task tasks true ih h = absurd (omega arith)
none-by m s pid task tasks false ih h = ap (behind task) (ih (omega arith))

-- no process has the pid
none-among : {S : Type 0} (m : Meaning S) (s : KernelState) (pid : ℕ) (tasks : List (Task S)) → length tasks ≤ place_of pid tasks → turn_among m s pid tasks ≡ record { machine = s; tasks = tasks; child = None }
none-among m s pid [] h = refl
none-among m s pid (task ∷ tasks) h = none-by m s pid task tasks (nat_eq (pid_of task) pid) (none-among m s pid tasks) h

at-by : {S : Type 0} (m : Meaning S) (s : KernelState) (pid : ℕ) (d task : Task S) (tasks : List (Task S)) (b : Bool) →
    (place_of pid tasks < length tasks → turn_among m s pid tasks ≡ turned_at m s pid tasks (place_of pid tasks) d) →
    (if b then 0 else suc (place_of pid tasks)) < length (task ∷ tasks) →
    (if b then turned_first tasks (turn m s task) else behind task (turn_among m s pid tasks)) ≡ turned_at m s pid (task ∷ tasks) (if b then 0 else suc (place_of pid tasks)) d
at-by m s pid d task tasks true ih h = refl
at-by m s pid d task tasks false ih h = ap (behind task) (ih (omega arith))

-- the process that has the pid takes the turn
one-among : {S : Type 0} (m : Meaning S) (s : KernelState) (pid : ℕ) (d : Task S) (tasks : List (Task S)) → place_of pid tasks < length tasks → turn_among m s pid tasks ≡ turned_at m s pid tasks (place_of pid tasks) d
one-among m s pid d [] h = absurd (omega arith)
one-among m s pid d (task ∷ tasks) h = at-by m s pid d task tasks (nat_eq (pid_of task) pid) (one-among m s pid d tasks) h

pub none_turned : {S : Type 0} (m : Meaning S) (s : KernelState) (kernel : KernelKept) (pid : ℕ) (tasks : List (Task S)) → StandsAt kernel s → length tasks ≤ place_of pid tasks → HaveTurned kernel tasks None (turn_among m s pid tasks)
none_turned m s kernel pid tasks h far = rw (none-among m s pid tasks far) (record { state = h; tasks_are = refl; child = refl })

one-at : {S : Type 0} (m : Meaning S) (s : KernelState) (kernel : KernelKept) (pid : ℕ) (tasks : List (Task S)) (d next : Task S) (made : Option (Task S)) →
    place_of pid tasks < length tasks →
    IsTurned kernel next made (turn m s (slice_index_or tasks (place_of pid tasks) d)) →
    HaveTurned kernel (slice_set tasks (place_of pid tasks) next) made (turn_among m s pid tasks)
one-at m s kernel pid tasks d next made near t =
    rw (one-among m s pid d tasks near)
    (record { state = t.state; tasks_are = ap (slice_set tasks (place_of pid tasks)) t.task_is; child = t.child })

-- the process at a place that is the pid's has turned
pub one_turned : {S : Type 0} (m : Meaning S) (s : KernelState) (kernel : KernelKept) (pid : ℕ) (tasks : List (Task S)) (d next : Task S) (made : Option (Task S)) (i : ℕ) →
    place_of pid tasks ≡ i → i < length tasks →
    IsTurned kernel next made (turn m s (slice_index_or tasks i d)) →
    HaveTurned kernel (slice_set tasks i next) made (turn_among m s pid tasks)
one_turned m s kernel pid tasks d next made i is =
    subst (λ j. j < length tasks → IsTurned kernel next made (turn m s (slice_index_or tasks j d)) → HaveTurned kernel (slice_set tasks j next) made (turn_among m s pid tasks)) is
    (one-at m s kernel pid tasks d next made)

-- a slice that was written back is the whole list
pub written_back : {A : Type 0} (new rest : List A) (n : ℕ) → length new ≡ n → take n (new ++ rest) ≡ new
written_back new rest n e = subst (λ k. take k (new ++ rest) ≡ new) e (take-append_seam new rest)

-- the processes that live after a turn, with the one that it made
pub turned_to : {S : Type 0} (m : Meaning S) (s : KernelState) (kernel : KernelKept) (tasks slice turned put left : List (Task S)) (pid : ℕ) (made : Option (Task S)) → slice ≡ tasks
    → HaveTurned kernel turned made (turn_among m s pid slice) → put ≡ with_child turned made → ((t : KernelState) → StandsAt kernel t → left ≡ living t put)
    → HasTurnedTo m s pid tasks kernel left
turned_to m s kernel tasks slice turned put left pid made same turns puts keeps =
    let t = turn_among m s pid tasks in
    let got = subst (λ these. HaveTurned kernel turned made (turn_among m s pid these)) same turns in
    record {
      state = got.state;
      tasks_are = keeps t.machine got.state ∙ ap (living t.machine) (puts ∙ ap (λ these. with_child these made) got.tasks_are ∙ ap (with_child t.tasks) got.child);
    }

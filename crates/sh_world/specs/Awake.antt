-- What is asked of the processes at some places, and what a look at a process and a turn leave.
use Rattle.std.specs.Prelude.{◌≡◌, ◌⊎◌, ℕ, List, [], ◌∷◌, ◌++◌, Bool, true, false, Option, Some, None, nat_eq, slice_get, slice_set, if◌then◌else◌}
use Rattle.sh_exec.specs.Actions.{action_of}
use Rattle.sh_exec.specs.Processes.{living, turn_among, with_child}
use Rattle.sh_exec.specs.Tasks.{pid_of}
use Rattle.sh_exec.specs.declared.task.Task.{Task}
use Rattle.sh_kernel.specs.State.{KernelKept, KernelState, StandsAt, WatchKept}
use Rattle.sh_kernel.specs.Turns.{can_do}
use Rattle.sh_kernel.specs.Watching.{Holds}
use Rattle.sh_kernel.specs.declared.watch.BlockedProcess.{BlockedProcess}
use Rattle.sh_stock.specs.Asking.{Meaning}
use Rattle.sh_world.specs.Watching.{IsFoundOf}

-- where the process was found to be blocked, that is kept behind what was found before
abbrev pub HasLooked : {S : Type 0} → WatchKept → WatchKept → Task S → Bool → Type 0
HasLooked old new task true = (one : BlockedProcess) × (new ≡ record old { blocked = old.blocked ++ one ∷ [] }) × IsFoundOf task one
HasLooked old new task false = new ≡ old

-- it was, or its place is behind the others
abbrev pub IsNoted : {S : Type 0} → WatchKept → WatchKept → Task S → (place : ℕ) → List ℕ → List ℕ → Type 0
IsNoted old new task place places more = (HasLooked old new task true × (more ≡ places)) ⊎ ((new ≡ old) × (more ≡ places ++ place ∷ []))

-- ---- the processes at places that can take a turn
abbrev pub pid_if : {S : Type 0} → KernelState → Option (Task S) → Option ℕ
pid_if s None = None
pid_if s (Some task) = if can_do s (pid_of task) (action_of s task) then Some (pid_of task) else None

abbrev pub pid_at : {S : Type 0} → KernelState → List (Task S) → ℕ → Option ℕ
pid_at s tasks place = pid_if s (slice_get tasks place)

abbrev pub with_pid : Option ℕ → List ℕ → List ℕ
with_pid None pids = pids
with_pid (Some pid) pids = pid ∷ pids

abbrev pub pids_at : {S : Type 0} → KernelState → List (Task S) → (places : List ℕ) → List ℕ
pids_at s tasks [] = []
pids_at s tasks (place ∷ places) = with_pid (pid_at s tasks place) (pids_at s tasks places)

-- ---- the place of a process
abbrev pub Has : List ℕ → ℕ → Type 0
Has [] place = ⊥
Has (other ∷ others) place = (other ≡ place) ⊎ Has others place

abbrev pub is_pid : {S : Type 0} → ℕ → Option (Task S) → Bool
is_pid pid None = false
is_pid pid (Some task) = nat_eq (pid_of task) pid

abbrev pub is_at : {S : Type 0} → List (Task S) → (place pid : ℕ) → Bool
is_at tasks place pid = is_pid pid (slice_get tasks place)

-- the process of this number is at one of these places
pub record IsAmong {S : Type 0} (tasks : List (Task S)) (places : List ℕ) (pid place : ℕ) : Type 0 where
  pub has : Has places place
  pub at : is_at tasks place pid ≡ true

-- at most the process at this place is another one
abbrev pub IsChangedAt : {S : Type 0} → (place : ℕ) → List (Task S) → List (Task S) → Type 0
IsChangedAt place old new = (new ≡ old) ⊎ ((next : Task _) × (new ≡ slice_set old place next))

-- a turn of the process of this number, at this place, has made no process, and what was found of processes still holds
pub record IsKept {S : Type 0} (kernel : KernelKept) (tasks : List (Task S)) (child : Option (Task S)) (place pid : ℕ) : Type 0 where
  pub childless : child ≡ None
  pub holds : (s : KernelState) → StandsAt kernel s → Holds kernel.watch s
  pub at : is_at tasks place pid ≡ true

-- ---- the machine and the processes that live after a turn of one
pub record HasTurnedTo {S : Type 0} (m : Meaning S) (s : KernelState) (pid : ℕ) (old : List (Task S)) (kernel : KernelKept) (tasks : List (Task S)) : Type 0 where
  pub state : StandsAt kernel (turn_among m s pid old).machine
  pub tasks_are : tasks ≡ living (turn_among m s pid old).machine (with_child (turn_among m s pid old).tasks (turn_among m s pid old).child)

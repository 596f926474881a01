-- The order of processes, and the order of the runnable ones.
use Rattle.std.specs.Prelude.{◌≡◌, ℕ, ◌<◌, List, [], ◌∷◌, map, nat_eq, ◌||◌, Bool, false, Option, Some, None, if◌then◌else◌}
use Rattle.sh_exec.specs.Actions.{action_of}
use Rattle.sh_exec.specs.Tasks.{pid_of}
use Rattle.sh_kernel.specs.State.{KernelState}
use Rattle.sh_kernel.specs.Turns.{Action, is_runnable}
use Rattle.sh_exec.specs.declared.task.Task.{Task}

-- a number is less than each of these
abbrev pub IsBelow : ℕ → List ℕ → Type 0
IsBelow n [] = Unit {0}
IsBelow n (m ∷ ms) = (n < m) × IsBelow n ms

-- each number is less than all after it, so none is there twice
abbrev pub Rises : List ℕ → Type 0
Rises [] = Unit {0}
Rises (n ∷ ns) = IsBelow n ns × Rises ns

abbrev pub has : List ℕ → ℕ → Bool
has [] n = false
has (m ∷ ms) n = nat_eq m n || has ms n

abbrev pub pids_of : {S : Type 0} → List (Task S) → List ℕ
pids_of tasks = map pid_of tasks

-- what the process of each pid is about to do
abbrev pub actions_of : {S : Type 0} → KernelState → List (Task S) → ℕ → Option Action
actions_of s [] pid = None
actions_of s (task ∷ tasks) pid = if nat_eq (pid_of task) pid then Some (action_of s task) else actions_of s tasks pid

-- the list of runnable pids rises, and has every process that can take a turn and no other
pub record ListsRunnable {S : Type 0} (s : KernelState) (tasks : List (Task S)) (pids : List ℕ) : Type 0 where
  pub rises : Rises pids
  pub all : (pid : ℕ) → has pids pid ≡ is_runnable s (actions_of s tasks) pid

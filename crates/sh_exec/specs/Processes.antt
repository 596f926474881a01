-- The processes of a machine that live, in order of pid: which of them can take a turn, and what a turn of one leaves.
use Rattle.std.specs.Prelude.{◌≡◌, ℕ, suc, List, [], ◌∷◌, ◌++◌, nat_eq, Bool, Option, Some, None, if◌then◌else◌}
use Rattle.std.specs.List.{filter}
use Rattle.sh_exec.specs.Actions.{action_of}
use Rattle.sh_exec.specs.Tasks.{pid_of}
use Rattle.sh_exec.specs.Turns.{Turned, turn}
use Rattle.sh_kernel.specs.State.{KernelKept, KernelState, StandsAt}
use Rattle.sh_kernel.specs.Turns.{can_do}
use Rattle.sh_kernel_processes.specs.Processes.{lives}
use Rattle.sh_stock.specs.Asking.{Meaning}
use Rattle.sh_exec.specs.declared.task.Task.{Task}

-- those that can take a turn
abbrev pub pid_before : {S : Type 0} → KernelState → Task S → List ℕ → List ℕ
pid_before s task pids = if can_do s (pid_of task) (action_of s task) then pid_of task ∷ pids else pids

abbrev pub runnable_pids : {S : Type 0} → KernelState → List (Task S) → List ℕ
runnable_pids s [] = []
runnable_pids s (task ∷ tasks) = pid_before s task (runnable_pids s tasks)

-- the machine and the processes after a turn of one, and the process that it made
pub record TasksTurned (S : Type 0) : Type 0 where
  pub machine : KernelState
  pub tasks : List (Task S)
  pub child : Option (Task S)

abbrev pub turned_first : {S : Type 0} → List (Task S) → Turned S → TasksTurned S
turned_first tasks t = record { machine = t.machine; tasks = t.task ∷ tasks; child = t.child }

abbrev pub behind : {S : Type 0} → Task S → TasksTurned S → TasksTurned S
behind task t = record t { tasks = task ∷ t.tasks }

-- how many processes are before the one of this pid, or all
abbrev pub place_of : {S : Type 0} → ℕ → List (Task S) → ℕ
place_of pid [] = 0
place_of pid (task ∷ tasks) = if nat_eq (pid_of task) pid then 0 else suc (place_of pid tasks)

-- a turn of the process of this pid
abbrev pub turn_among : {S : Type 0} → Meaning S → KernelState → ℕ → List (Task S) → TasksTurned S
turn_among m s pid [] = record { machine = s; tasks = []; child = None }
turn_among m s pid (task ∷ tasks) =
    if nat_eq (pid_of task) pid
    then turned_first tasks (turn m s task)
    else behind task (turn_among m s pid tasks)

-- a process that was made has the greatest pid
abbrev pub with_child : {S : Type 0} → List (Task S) → Option (Task S) → List (Task S)
with_child tasks None = tasks
with_child tasks (Some child) = tasks ++ child ∷ []

-- a process that has ended is gone
abbrev pub is_living : {S : Type 0} → KernelState → Task S → Bool
is_living s task = lives s.machine.processes (pid_of task)

abbrev pub living : {S : Type 0} → KernelState → List (Task S) → List (Task S)
living s tasks = filter (is_living s) tasks

-- the kernel and its processes are what a turn leaves, and this process was made
pub record HaveTurned {S : Type 0} (kernel : KernelKept) (tasks : List (Task S)) (made : Option (Task S)) (t : TasksTurned S) : Type 0 where
  pub state : StandsAt kernel t.machine
  pub tasks_are : tasks ≡ t.tasks
  pub child : made ≡ t.child

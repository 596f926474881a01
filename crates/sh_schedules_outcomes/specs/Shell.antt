-- The shell machine as one whose processes take turns, and what its states show.
use Rattle.std.specs.Prelude.{ℕ, List, [], ◌∷◌, map, take, Option, Some, None}
use Rattle.sh_files.specs.Writing.{image_text}
use Rattle.sh_kernel_processes.specs.declared.process.Process.{Process}
use Rattle.sh_kernel_processes.specs.declared.process.Status.{Status}
use Rattle.sh_stock.specs.Asking.{Meaning}
use Rattle.sh_world.specs.State.{State, ended_of, files_of, runnables, step, terminal_of}
use Rattle.sh_world.specs.Tasks.{pid_of}
use Rattle.sh_world.specs.TurnActions.{turn_action_of}
use Rattle.sh_world.specs.Task.{Task}
use Rattle.sh_schedules_outcomes.specs.Schedules.{Machine}
use Rattle.sh_schedules_outcomes.specs.declared.outcome.Ending.{Ending}
use Rattle.sh_schedules_outcomes.specs.declared.outcome.Ending.TheVariants.{Ended, Stuck, Cut}
use Rattle.sh_schedules_outcomes.specs.declared.outcome.Outcome.{Outcome}
use Rattle.sh_schedules_outcomes.specs.declared.outcome.Waiter.{Waiter}

-- an event names a place by 32 bits, so those beyond have none; no more than 1000 processes live at a time
unfoldable pub shell : {S : Type 0} → Meaning S → Machine (State S)
shell m = record { step = step m; runnable = λ s. take 4294967295 (runnables s); last = λ s. s.last }

-- the status of each process that ever was; their numbers go from 100 to 2147483647
abbrev pub statuses_in : List Process → List Status
statuses_in processes = take 2147483548 (map (λ p. p.status) processes)

abbrev pub ending_by : List ℕ → Option Status → Ending
ending_by (pid ∷ pids) status = Cut
ending_by [] None = Stuck
ending_by [] (Some status) = Ended

-- where a run is stuck each process that lives waits, for it can't do what it is about to do
abbrev pub waiter_of : {S : Type 0} → Task S → Waiter
waiter_of task = record { pid = pid_of task; action = turn_action_of task }

abbrev pub waiters_by : {S : Type 0} → Ending → List (Task S) → List Waiter
waiters_by Ended tasks = []
waiters_by Stuck tasks = map waiter_of tasks
waiters_by Cut tasks = []

-- what is seen where a run ends
unfoldable pub outcome_of : {S : Type 0} → State S → Outcome
outcome_of s = record {
  terminal = terminal_of s;
  image = image_text (files_of s);
  statuses = statuses_in s.machine.machine.processes;
  ending = ending_by (runnables s) (ended_of s);
  waiters = waiters_by (ending_by (runnables s) (ended_of s)) s.tasks;
}

-- Pipelines at a state of the shell machine, and events (2.9.2).
use Rattle.std.specs.Prelude.{◌≡◌, ℕ, List, [], ◌∷◌, Bool, true, false, Option, Some, ◌⊎◌}
use Rattle.sh_exec.specs.Actions.{action_of}
use Rattle.sh_exec.specs.State.{State, task_of}
use Rattle.sh_exec.specs.declared.task.Task.{Task}
use Rattle.sh_kernel.specs.State.{KernelState}
use Rattle.sh_kernel.specs.Turns.{can_do}
use Rattle.sh_kernel_processes.specs.Processes.{lives}
use Rattle.sh_laws_pipelines.specs.Stages.{StageProcess, Source, Stands, stages_of, with_turn}
use Rattle.sh_laws_pipelines.specs.Pipelines.{Stage, Step}
use Rattle.sh_stock.specs.Asking.{Meaning}

-- each of the processes lives, and is at this task
abbrev pub AreTasks : {S : Type 0} → State S → List (StageProcess S) → Type 0
AreTasks s [] = Unit {0}
AreTasks s (j ∷ js) = (task_of s j.pid ≡ Some j.task) × AreTasks s js

-- the processes of the stages live
abbrev pub AreLiving : {S : Type 0} → KernelState → List (StageProcess S) → Type 0
AreLiving s [] = Unit {0}
AreLiving s (j ∷ js) = (lives s.machine.processes j.pid ≡ true) × AreLiving s js

-- the stages stand at a state of the shell machine
pub record StandsAt {S : Type 0} (m : Meaning S) (s : State S) (before : Option ℕ) (source : Source) (given : List ℕ) (complete : Bool) (js : List (StageProcess S)) : Type 0 where
  pub stands : Stands m s.machine.machine before source given complete js
  pub tasks : AreTasks s js

-- they stand at the next one, and one of them took a step; or its process couldn't take its turn, and none took one
pub record GoesOnAt {S : Type 0} (m : Meaning S) (s t : State S) (before : Option ℕ) (source : Source) (given : List ℕ) (complete : Bool) (js : List (StageProcess S)) (n : ℕ) (j : StageProcess S) : Type 0 where
  pub later : Stage S
  pub task : Task S
  pub stands : StandsAt m t before source given complete (with_turn n later task js)
  pub steps : ((can_do s.machine j.pid (action_of s.machine j.task) ≡ false) × (stages_of (with_turn n later task js) ≡ stages_of js)) ⊎ Step m given complete (stages_of js) (stages_of (with_turn n later task js))

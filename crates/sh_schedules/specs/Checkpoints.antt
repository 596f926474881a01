-- Worlds that are kept on the way of the schedule that is being tried.
use Rattle.std.specs.Prelude.{ℕ, ◌≤◌, List, [], ◌∷◌, length, take}
use Rattle.sh_exec.specs.State.{State}
use Rattle.sh_schedules_outcomes.specs.Schedules.{Machine}
use Rattle.sh_schedules.specs.Trying.{HasTaken}
use Rattle.sh_schedules.specs.declared.path.Turn.{Turn}
use Rattle.sh_schedules.specs.declared.checkpoints.Checkpoint.{Checkpoint}

-- the world has taken the first turns of the path, as many as it says
pub record IsCheckpoint {S : Type 0} (w : Machine (State S)) (k : ℕ) (s : State S) (path : List Turn) (checkpoint : Checkpoint S) : Type 0 where
  pub within : checkpoint.taken ≤ length path
  pub has_taken : HasTaken checkpoint.world w k s (take checkpoint.taken path) checkpoint.standing

abbrev pub AreCheckpoints : {S : Type 0} → Machine (State S) → ℕ → State S → List Turn → List (Checkpoint S) → Type 0
AreCheckpoints w k s path [] = Unit {0}
AreCheckpoints w k s path (checkpoint ∷ checkpoints) = IsCheckpoint w k s path checkpoint × AreCheckpoints w k s path checkpoints

-- What a world knows of its processes: all live, and those at other places than these can't take a turn.
use Rattle.std.specs.Prelude.{◌≡◌, ◌⊎◌, ℕ, suc, ◌<◌, List, [], ◌∷◌, Some, map}
use Rattle.sh_exec.specs.Actions.{cause_of}
use Rattle.sh_exec.specs.Tasks.{pid_of}
use Rattle.sh_exec.specs.declared.task.Task.{Task}
use Rattle.sh_kernel.specs.State.{WatchKept}
use Rattle.sh_kernel.specs.declared.watch.BlockedProcess.{BlockedProcess}
use Rattle.sh_kernel.specs.declared.watch.Cause.{Cause}
use Rattle.sh_kernel.specs.declared.watch.Cause.TheVariants.{Stopped}

-- where this cause blocks the process it can't take a turn: it doesn't run, or is blocked at what it does in its next turn
abbrev pub IsCauseOf : {S : Type 0} → Task S → Cause → Type 0
IsCauseOf task cause = (cause ≡ Stopped) ⊎ (cause_of task ≡ Some cause)

-- this was found of the process
pub record IsFoundOf {S : Type 0} (task : Task S) (one : BlockedProcess) : Type 0 where
  pub pid_is : one.pid ≡ pid_of task
  pub cause : IsCauseOf task one.cause

-- each of the processes, of which the first is at this place, was found to be blocked, in their order, or its place is one of these
abbrev pub AreSplit : {S : Type 0} → (place : ℕ) → List (Task S) → List BlockedProcess → (places : List ℕ) → Type 0
AreSplit place [] blocked places = (blocked ≡ []) × (places ≡ [])
AreSplit place (task ∷ tasks) blocked places =
    ((rest : List ℕ) × (places ≡ place ∷ rest) × AreSplit (suc place) tasks blocked rest)
    ⊎ ((one : BlockedProcess) × (rest : List BlockedProcess) × (blocked ≡ one ∷ rest) × IsFoundOf task one × AreSplit (suc place) tasks rest places)

-- each number is greater than the one before it; so they go from below the first up to the last
abbrev pub RiseTo : (below : ℕ) → List ℕ → (last : ℕ) → Type 0
RiseTo below [] last = below ≡ last
RiseTo below (n ∷ ns) last = (below < n) × RiseTo n ns last

-- what was found of processes is of these, in order of pid; all may take a turn that are at these places, and no others
pub record IsWatched {S : Type 0} (watch : WatchKept) (tasks : List (Task S)) (places : List ℕ) : Type 0 where
  pub living : watch.living ≡ map pid_of tasks
  pub split : AreSplit 0 tasks watch.blocked places
  pub last : ℕ
  pub rise : RiseTo 0 (map pid_of tasks) last

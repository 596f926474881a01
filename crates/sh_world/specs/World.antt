-- What a world keeps, and the state at which it stands.
use Rattle.std.specs.Prelude.{◌≡◌, ℕ, List, [], length, take, Bool, true, false, Option}
use Rattle.sh_exec.specs.declared.task.Task.{Task}
use Rattle.sh_kernel.specs.State.{KernelKept, StandsAt}
use Rattle.sh_exec.specs.State.{State}
use Rattle.sh_jobs.specs.declared.job.Job.{Job}

pub record WorldKept (S : Type 0) : Type 0 where
  pub kernel : KernelKept
  pub tasks : List (Task S)
  -- what is lent where there is no first shell
  pub no_jobs : List Job
  pub last : Option ℕ
  -- how many of the terminal's bytes there were after the last event that was answered Ok
  pub shown : ℕ
  -- memory was wanting
  pub spent : Bool

-- the bytes that a world shows
abbrev pub shown_of : {S : Type 0} → WorldKept S → List ℕ
shown_of w = take w.shown w.kernel.terminal.bytes

-- what is kept of the machine, of the processes and of the last turn is that of this state
pub record PartsStand {S : Type 0} (kernel : KernelKept) (tasks : List (Task S)) (last : Option ℕ) (s : State S) : Type 0 where
  pub machine : StandsAt kernel s.machine
  pub tasks_are : tasks ≡ s.tasks
  pub last_is : last ≡ s.last

-- what a world keeps is that of this state
pub record WorldStands {S : Type 0} (w : WorldKept S) (s : State S) : Type 0 where
  pub parts : PartsStand w.kernel w.tasks w.last s
  pub no_jobs : w.no_jobs ≡ []
  pub shown : w.shown ≡ length w.kernel.terminal.bytes
  pub unspent : w.spent ≡ false

abbrev pub IsSpent : {S : Type 0} → WorldKept S → Type 0
IsSpent w = w.spent ≡ true

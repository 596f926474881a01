-- A wait for a pipeline, or for a job, gives the terminal back.
use Rattle.std.proofs.Common.{◌≡◌, ◌⊎◌, ℕ, Bool, true, false, List, Option, Some, None, refl, inl, inr, if◌then◌else◌}
use Rattle.sh_builtin_shell.specs.Shells.{own_group}
use Rattle.sh_builtin_shell.specs.declared.shell.Shell.{Shell}
use Rattle.sh_exec_actions.specs.declared.action.Action.TheVariants.{WaitForJob}
use Rattle.sh_exec_actions.specs.declared.action.Active.TheVariants.{Next}
use Rattle.sh_builtin_outcome.specs.declared.rest.JobWait.{JobWait}
use Rattle.sh_exec_waiting.specs.JobWaits.{job_ended, job_wait_by, job_wait_turn}
use Rattle.sh_exec_signals.specs.Placed.{at_place}
use Rattle.sh_exec_waiting.specs.Waiting.{controlled_by, terminal_back, wait_turn, waiting}
use Rattle.sh_exec_machine.specs.Waits.{wait_status}
use Rattle.sh_jobs.specs.States.{any_runs, last_ending, last_stop, state_at_rest, state_of}
use Rattle.sh_jobs.specs.declared.state.Ending.{Ending}
use Rattle.sh_jobs.specs.declared.state.JobState.{JobState}
use Rattle.sh_jobs.specs.declared.state.JobState.TheVariants.{Running, Suspended, Done}
use Rattle.sh_kernel.specs.State.{KernelState}
use Rattle.sh_laws.specs.Terminals.{GivesJobsTerminalBack, GivesJobsTerminalBackAtRest, GivesTerminalBack, GivesTerminalBackAtRest}

by_state : (s : KernelState) (shell : Shell) (children text : List ℕ) (state : JobState)
    → let p = controlled_by s shell children text state in
    (p ≡ at_place s shell (waiting children (Some text))) ⊎ (p.machine.foreground ≡ own_group s shell.pid)
by_state s shell children text Running = inl refl
by_state s shell children text (Suspended signal) = inr refl
by_state s shell children text (Done ending) = inr refl

pub given_back : GivesTerminalBack
unfolding wait_turn
given_back s shell children text = by_state s shell children text (state_of s.machine.processes children)

-- ---- a job
ended_back : (s : KernelState) (shell : Shell) (wait : JobWait) (group : ℕ) (o : Option ℕ) → s.foreground ≡ group → (job_ended s shell wait o).machine.foreground ≡ group
ended_back s shell wait group None e = e
ended_back s shell wait group (Some status) e = e

job_by_state : (s : KernelState) (shell : Shell) (wait : JobWait) (state : JobState)
    → let p = job_wait_by s shell wait state in
    (p ≡ at_place s shell (Next (WaitForJob wait))) ⊎ (p.machine.foreground ≡ own_group s shell.pid)
job_by_state s shell wait Running = inl refl
job_by_state s shell wait (Suspended signal) = inr refl
job_by_state s shell wait (Done ending) =
    let t = terminal_back s shell.pid in inr (ended_back t shell wait (own_group s shell.pid) (wait_status t shell.pid wait.processes) refl)

pub job_given_back : GivesJobsTerminalBack
unfolding job_wait_turn
job_given_back s shell wait = job_by_state s shell wait (state_of s.machine.processes wait.processes)

-- ---- where none of the processes runs
module _ (s : KernelState) (shell : Shell) (children text : List ℕ) (end : Ending) where
  abbrev left_by : JobState → Type 0
  left_by state = (controlled_by s shell children text state).machine.foreground ≡ own_group s shell.pid

  at_rest : (stop : Option ℕ) → left_by (state_at_rest stop end)
  at_rest (Some signal) = refl
  at_rest None = refl

  none_runs : (b : Bool) (stop : Option ℕ) → b ≡ false → left_by (if b then Running else state_at_rest stop end)
  none_runs true stop e = absurd (cc)
  none_runs false stop e = at_rest stop

pub given_back_at_rest : GivesTerminalBackAtRest
unfolding wait_turn state_of
given_back_at_rest s shell children text e =
    let ps = s.machine.processes in none_runs s shell children text (last_ending ps children) (any_runs ps children) (last_stop ps children) e

module _ (s : KernelState) (shell : Shell) (wait : JobWait) (end : Ending) where
  abbrev job_left_by : JobState → Type 0
  job_left_by state = (job_wait_by s shell wait state).machine.foreground ≡ own_group s shell.pid

  job_at_rest : (stop : Option ℕ) → job_left_by (state_at_rest stop end)
  job_at_rest (Some signal) = refl
  job_at_rest None =
      let t = terminal_back s shell.pid in ended_back t shell wait (own_group s shell.pid) (wait_status t shell.pid wait.processes) refl

  no_job_runs : (b : Bool) (stop : Option ℕ) → b ≡ false → job_left_by (if b then Running else state_at_rest stop end)
  no_job_runs true stop e = absurd (cc)
  no_job_runs false stop e = job_at_rest stop

pub job_given_back_at_rest : GivesJobsTerminalBackAtRest
unfolding job_wait_turn state_of
job_given_back_at_rest s shell wait e =
    let ps = s.machine.processes in no_job_runs s shell wait (last_ending ps wait.processes) (any_runs ps wait.processes) (last_stop ps wait.processes) e

-- Whose the terminal is.
use Rattle.std.specs.Prelude.{◌≡◌, ◌⊎◌, ℕ, false, List, Some}
use Rattle.sh_builtin_shell.specs.Shells.{own_group}
use Rattle.sh_builtin_shell.specs.declared.shell.Shell.{Shell}
use Rattle.sh_exec_actions.specs.declared.action.Action.TheVariants.{WaitForJob}
use Rattle.sh_exec_actions.specs.declared.action.Active.TheVariants.{Next}
use Rattle.sh_builtin_outcome.specs.declared.rest.JobWait.{JobWait}
use Rattle.sh_exec_waiting.specs.JobWaits.{job_wait_turn}
use Rattle.sh_exec_signals.specs.Placed.{at_place}
use Rattle.sh_exec_waiting.specs.Waiting.{wait_turn, waiting}
use Rattle.sh_jobs.specs.States.{any_runs}
use Rattle.sh_kernel.specs.State.{KernelState}

-- a wait for a pipeline with job control goes on, or the shell's group is the foreground group behind it
abbrev pub GivesTerminalBack : Type 0
GivesTerminalBack =
    (s : KernelState) (shell : Shell) (children text : List ℕ)
    → let p = wait_turn s shell (record { children = children; job = Some text }) in
    (p ≡ at_place s shell (waiting children (Some text))) ⊎ (p.machine.foreground ≡ own_group s shell.pid)

-- the same of a wait for a job that fg has brought to the foreground
abbrev pub GivesJobsTerminalBack : Type 0
GivesJobsTerminalBack =
    (s : KernelState) (shell : Shell) (wait : JobWait)
    → let p = job_wait_turn s shell wait in
    (p ≡ at_place s shell (Next (WaitForJob wait))) ⊎ (p.machine.foreground ≡ own_group s shell.pid)

-- where none of the processes of the pipeline runs any more, the wait's turn gives the terminal back
abbrev pub GivesTerminalBackAtRest : Type 0
GivesTerminalBackAtRest =
    (s : KernelState) (shell : Shell) (children text : List ℕ) → any_runs s.machine.processes children ≡ false
    → (wait_turn s shell (record { children = children; job = Some text })).machine.foreground ≡ own_group s shell.pid

abbrev pub GivesJobsTerminalBackAtRest : Type 0
GivesJobsTerminalBackAtRest =
    (s : KernelState) (shell : Shell) (wait : JobWait) → any_runs s.machine.processes wait.processes ≡ false
    → (job_wait_turn s shell wait).machine.foreground ≡ own_group s shell.pid

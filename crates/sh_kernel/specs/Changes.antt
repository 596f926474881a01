-- When each process last started, stopped or went on: a shell's current job is the one of which that is the latest (XBD chapter 3, Job ID).
-- The order alone matters, so a kernel has a clock of its own, which each fork, each signal that is sent and each end of a process moves by
-- one.
use Rattle.std.specs.Prelude.{ℕ, ◌+◌, ◌-◌, ◌==◌, ◌&&◌, ◌||◌, List, [], ◌∷◌, ◌++◌, Bool, true, false, not, Option, if◌then◌else◌, min, nat_le, slice_get, slice_set, unwrap_or}
use Rattle.std.specs.Option.{option_map_or}
use Rattle.sh_kernel_processes.specs.Processes.{status_at, is_running}
use Rattle.sh_kernel_processes.specs.declared.process.Process.{Process}
use Rattle.sh_kernel_processes.specs.declared.process.Status.{Status}
use Rattle.sh_kernel_processes.specs.declared.process.Status.TheVariants.{Running, Stopped, Exited, Signaled}
use Rattle.sh_kernel_processes.specs.Groups.{is_stopped}
use Rattle.sh_signal.specs.Signals.{number_of}
use Rattle.sh_signal.specs.declared.signal.Signal.TheVariants.{Kill}

-- the clock, and for each process that ever was, by its number from 100 on, the moment at which it last started, stopped or went on
pub record Changes : Type 0 where
  pub clock : ℕ
  pub moments : List ℕ

-- at 18446744073709551615 the clock stays
abbrev pub next_moment : (clock : ℕ) → ℕ
next_moment clock = min (clock + 1) 18446744073709551615

-- ---- what is a change
-- a process that was stopped has gone on: it runs, or it was continued, and then a signal that was kept for it ended it. One that KILL ended
-- hasn't: that ends a stopped process at once (XSH 2.4.3)
abbrev pub goes_on : Status → Bool
goes_on Running = true
goes_on (Stopped signal) = false
goes_on (Exited status) = false
goes_on (Signaled signal) = not (signal == number_of Kill)

abbrev pub has_gone_on : Option Status → Bool
has_gone_on status = option_map_or goes_on status false

-- a process has stopped or gone on since it had this status
abbrev pub is_change : (before : Option Status) → (after : Option Status) → Bool
is_change before after = (is_running before && is_stopped after) || (is_stopped before && has_gone_on after)

-- ---- the moments after a change
-- of these processes those that have stopped or gone on did so at this moment
abbrev pub with_changes_in : (before : List Process) → (after : List Process) → (moment : ℕ) → (pids : List ℕ) → List ℕ → List ℕ
with_changes_in before after moment [] moments = moments
with_changes_in before after moment (pid ∷ pids) moments =
    with_changes_in before after moment pids (if is_change (status_at before pid) (status_at after pid) then slice_set moments (pid - 100) moment else moments)

-- a signal was sent, or a process ended, and these processes may have stopped or gone on
unfoldable pub changed : Changes → (before : List Process) → (after : List Process) → (pids : List ℕ) → Changes
changed c before after pids =
    let moment = next_moment c.clock in record { clock = moment; moments = with_changes_in before after moment pids c.moments }

-- a process started, whose number is above those of all others
unfoldable pub with_start : Changes → Changes
with_start c = let moment = next_moment c.clock in record { clock = moment; moments = c.moments ++ moment ∷ [] }

-- the first process alone
abbrev pub no_changes : Changes
no_changes = record { clock = 0; moments = 0 ∷ [] }

-- ---- what is asked
-- the moment at which the process last started, stopped or went on; 0 for one that never was
abbrev pub moment_of : (moments : List ℕ) → (pid : ℕ) → ℕ
moment_of moments pid = if nat_le 100 pid then unwrap_or (slice_get moments (pid - 100)) 0 else 0

abbrev pub changed_at : Changes → (pid : ℕ) → ℕ
changed_at c pid = moment_of c.moments pid

-- ---- what is kept, and what is found out before a change
-- the changes, and of how many more processes a start can be noted without more memory
pub record ChangesKept : Type 0 where
  pub changes : Changes
  pub room : ℕ

-- a process's status, with its number
abbrev pub numbered_status : List Process → (pid : ℕ) → ℕ × Option Status
numbered_status ps pid = (pid, status_at ps pid)

abbrev pub is_stopped_at : List Process → (pid : ℕ) → Bool
is_stopped_at ps pid = is_stopped (status_at ps pid)

-- Which processes were found to live, and which to be blocked (XBD chapter 3, Blocked Process), and what it means that this still holds.
use Rattle.std.specs.Prelude.{◌≡◌, ℕ, List, [], ◌∷◌, Bool, true, not}
use Rattle.sh_kernel_machine.specs.Machine as kept
use Rattle.sh_kernel_processes.specs.Processes.{is_running, lives, status_at}
use Rattle.sh_kernel_processes.specs.declared.member.Member.{Member}
use Rattle.sh_tty.specs.Happenings.{entries_of}
use Rattle.sh_tty.specs.Terminal.{TtyKept}
use Rattle.sh_kernel.specs.State.{KernelState, StandsAt, WatchKept}
use Rattle.sh_kernel.specs.Turns.{ReadsBy, WritesBy, can_do}
use Rattle.sh_kernel.specs.declared.watch.BlockedProcess.{BlockedProcess}
use Rattle.sh_kernel.specs.declared.watch.Cause.{Cause}
use Rattle.sh_kernel.specs.declared.watch.Cause.TheVariants.{Stopped, Reading, Writing}

-- the process can't take a turn: it doesn't run, or would wait at this read or write
abbrev pub is_blocked : KernelState → (pid : ℕ) → Cause → Bool
is_blocked s pid Stopped = not (is_running (status_at s.machine.processes pid))
is_blocked s pid (Reading name) = not (can_do s pid (ReadsBy name))
is_blocked s pid (Writing number count) = not (can_do s pid (WritesBy number count))

abbrev pub AreBlocked : KernelState → List BlockedProcess → Type 0
AreBlocked s [] = Unit {0}
AreBlocked s (one ∷ others) = (is_blocked s one.pid one.cause ≡ true) × AreBlocked s others

abbrev pub AreLiving : KernelState → List ℕ → Type 0
AreLiving s [] = Unit {0}
AreLiving s (pid ∷ pids) = (lives s.machine.processes pid ≡ true) × AreLiving s pids

-- all that was found is so
pub record Holds (watch : WatchKept) (s : KernelState) : Type 0 where
  pub living : AreLiving s watch.living
  pub blocked : AreBlocked s watch.blocked

-- a state with what is kept of the processes and of the unread input. What the terminal has shown has no part in who can take a turn
pub record AgreesWith (m : kept.MachineKept) (left : List Member) (screen : TtyKept) (s : KernelState) : Type 0 where
  pub machine : kept.StandsAt m s.machine
  pub members : left ≡ s.members
  pub entries : screen.entries ≡ entries_of s.terminal
  pub foreground : screen.foreground ≡ s.foreground

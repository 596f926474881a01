-- A kernel: its processes with what they have open, their groups and signals, when each last started, stopped or went on, its files, and
-- its terminal.
use Rattle.std.specs.Prelude.{◌≡◌, ℕ, List, [], ◌∷◌, Bool}
use Rattle.sh_files.specs.Nodes.{FileMap}
use Rattle.sh_kernel_descriptors.specs.Machine.{MachineState}
use Rattle.sh_kernel_descriptors.specs.Starting as machine
use Rattle.sh_kernel_processes.specs.Changes.{first_member}
use Rattle.sh_kernel_processes.specs.declared.member.Member.{Member}
use Rattle.sh_kernel_machine.specs.Machine as kept
use Rattle.sh_tty.specs.Happenings.{Happening}
use Rattle.sh_tty.specs.Terminal as tty
use Rattle.sh_kernel.specs.Changes.{Changes, no_changes}
use Rattle.sh_kernel.specs.declared.watch.BlockedProcess.{BlockedProcess}

-- the processes that live are members of groups; the terminal is the list of all that happened to it, the newest first; its foreground
-- process group has a number
pub record KernelState : Type 0 where
  pub machine : MachineState
  pub members : List Member
  pub terminal : List Happening
  pub foreground : ℕ
  pub changes : Changes

-- what was found of processes: these live, and these are blocked
pub record WatchKept : Type 0 where
  pub living : List ℕ
  pub blocked : List BlockedProcess

-- what a kernel keeps of its state
pub record KernelKept : Type 0 where
  pub machine : kept.MachineKept
  pub members : List Member
  pub terminal : tty.TtyKept
  pub changes : Changes
  pub watch : WatchKept
  -- what was found of processes still holds
  pub is_current : Bool

-- what is kept is that of this state
pub record StandsAt (k : KernelKept) (s : KernelState) : Type 0 where
  pub machine : kept.StandsAt k.machine s.machine
  pub members : k.members ≡ s.members
  pub terminal : tty.StandsAt k.terminal s.terminal
  pub foreground : k.terminal.foreground ≡ s.foreground
  pub changes : k.changes ≡ s.changes

-- the first process alone, whose group is the foreground group
abbrev pub starting : FileMap → KernelState
starting files = record { machine = machine.starting files; members = first_member 100 ∷ []; terminal = []; foreground = 100; changes = no_changes }

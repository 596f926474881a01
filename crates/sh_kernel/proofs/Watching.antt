-- What was found of processes.
use Rattle.std.proofs.Common.{◌≡◌, ℕ, List, [], ◌∷◌, ◌++◌, true}
use Rattle.sh_kernel_processes.specs.Processes.{lives}
use Rattle.sh_kernel.specs.State.{KernelKept, KernelState, StandsAt}
use Rattle.sh_kernel.specs.Watching.{AgreesWith, AreBlocked, AreLiving, is_blocked}
use Rattle.sh_kernel.specs.declared.watch.BlockedProcess.{BlockedProcess}

-- a state at which a kernel stands agrees with what it keeps
pub agrees : (k : KernelKept) (s : KernelState) → StandsAt k s → AgreesWith k.machine k.members k.terminal s
agrees k s st = record { machine = st.machine; members = st.members; entries = st.terminal.entries; foreground = st.foreground }

pub one_more_lives : (s : KernelState) (pids : List ℕ) (pid : ℕ) → AreLiving s pids → lives s.machine.processes pid ≡ true → AreLiving s (pids ++ pid ∷ [])
one_more_lives s [] pid h is = (is, tt)
one_more_lives s (first ∷ pids) pid h is = (h.0, one_more_lives s pids pid h.1 is)

pub one_more_blocked : (s : KernelState) (all : List BlockedProcess) (one : BlockedProcess) → AreBlocked s all → is_blocked s one.pid one.cause ≡ true → AreBlocked s (all ++ one ∷ [])
one_more_blocked s [] one h is = (is, tt)
one_more_blocked s (first ∷ all) one h is = (h.0, one_more_blocked s all one h.1 is)

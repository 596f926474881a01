use Rattle.std.proofs.Common.{◌≡◌, length}
use Rattle.sh_kernel.specs.State.{KernelState, StandsAt}
use Rattle.sh_exec_machine.specs.Undoing.{Left}
use Rattle.sh_exec_machine.proofs.undo.end_redirections.Given as goal

abbrev pub invariant-undone : goal.invariant-undone
invariant-undone l = ((s : KernelState) → StandsAt l.initial.kernel s → Left l.stay l.pid l.undone l.initial.undone l.kernel s) × (l.kernel.terminal ≡ l.initial.kernel.terminal) × (l.kernel.watch ≡ l.initial.kernel.watch)

abbrev pub decreases-undone : goal.decreases-undone
decreases-undone l = length l.undone

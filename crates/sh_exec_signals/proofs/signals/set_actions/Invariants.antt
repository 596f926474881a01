use Rattle.std.proofs.Common.{◌≡◌, length}
use Rattle.sh_kernel.specs.State.{KernelState, StandsAt}
use Rattle.sh_exec_signals.proofs.Heeding.{Left}
use Rattle.sh_exec_signals.proofs.signals.set_actions.Given as goal

abbrev pub invariant-signals : goal.invariant-signals
invariant-signals l = ((s : KernelState) → StandsAt l.initial.kernel s → Left l.set l.shell l.rest l.signals l.kernel s) × (l.kernel.terminal ≡ l.initial.kernel.terminal) × (l.kernel.watch ≡ l.initial.kernel.watch)

abbrev pub decreases-signals : goal.decreases-signals
decreases-signals l = length l.rest

use Rattle.std.proofs.Common.{◌≡◌, length}
use Rattle.sh_exec_settling.specs.Forms.{IsOnWay, outward, with_run}
use Rattle.sh_exec_forms.specs.Running.{At}
use Rattle.sh_exec_forms.specs.declared.step.Step.TheVariants.{Outward}
use Rattle.sh_kernel.specs.State.{KernelState, StandsAt}
use Rattle.sh_exec_settling.proofs.forms.settle_outward.Given as goal

abbrev pub invariant-outward : goal.invariant-outward
invariant-outward l =
    ((s : KernelState) → StandsAt l.initial.kernel s
    → IsOnWay l.kernel l.shell l.frames (Outward l.active) (outward l.initial.frames (with_run s l.initial.shell (At l.initial.active))))
    × (l.kernel.terminal ≡ l.initial.kernel.terminal) × (l.kernel.watch ≡ l.initial.kernel.watch)

abbrev pub decreases-outward : goal.decreases-outward
decreases-outward l = length l.frames

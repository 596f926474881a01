use Rattle.std.proofs.Common.{◌≡◌, length}
use Rattle.sh_jobs.specs.State.{KernelState, StandsAt}
use Rattle.sh_builtin_wait.specs.Waits.{next_step, step_to}
use Rattle.sh_builtin_wait.proofs.run.next_step.Given as goal

abbrev pub invariant-operands : goal.invariant-operands
invariant-operands l =
    (s : KernelState) → StandsAt l.kernel s
    → step_to s.machine.processes l.jobs l.known l.fn.operands l.report l.rest
    ≡ next_step s.machine.processes l.jobs l.known l.fn.operands l.fn.taken l.fn.report

abbrev pub decreases-operands : goal.decreases-operands
decreases-operands l = length l.rest

use Rattle.std.proofs.Common.{ℕ, List, Option, ap, ◌∙◌}
use Rattle.sh_kernel_processes.specs.declared.process.Status.{Status}
use Rattle.sh_world.specs.State.{runnables}
use Rattle.sh_schedules_outcomes.specs.Shell.{ending_by}
use Rattle.sh_schedules_outcomes.proofs.look.ending.Goals as goal

pub returns : goal.returns
returns g c = λ s h.
    c.ending_by.ensures ∙ ap (λ (pids : List ℕ). ending_by pids c.ended.result) (c.as_slice.ensures.value ∙ c.in_ok-runnable.ensures.view s h)
    ∙ ap (λ (status : Option Status). ending_by (runnables s) status) (c.ended.ensures.view s h)

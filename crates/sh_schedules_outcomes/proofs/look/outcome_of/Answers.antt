use Rattle.std.proofs.Common.{ap, ◌∙◌}
use Rattle.sh_schedules_outcomes.specs.Shell.{outcome_of, waiters_by}
use Rattle.sh_schedules_outcomes.specs.declared.outcome.Ending.{Ending}
use Rattle.sh_schedules_outcomes.proofs.Looking.{by_parts}
use Rattle.sh_schedules_outcomes.proofs.look.outcome_of.Goals as goal

pub returns : goal.returns
unfolding outcome_of
returns g c = λ s h.
    by_parts _ _ _ _ _ _ _ _ _ _ (c.in_ok-terminal.ensures ∙ c.terminal.ensures.view s h) (c.in_ok-image.ensures s h) (c.in_ok-statuses.ensures s h) (c.in_ok-ending.ensures s h)
    (c.in_ok-waiters.ensures s h ∙ ap (λ (e : Ending). waiters_by e s.tasks) (c.in_ok-ending.ensures s h))

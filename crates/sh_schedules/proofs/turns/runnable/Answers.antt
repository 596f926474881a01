use Rattle.std.proofs.Common.{ℕ, List, take, ap, ◌∙◌}
use Rattle.sh_schedules_outcomes.specs.Shell.{shell}
use Rattle.sh_schedules.proofs.turns.runnable.Goals as goal

pub returns-clause-pids : goal.returns-clause-pids
unfolding shell
returns-clause-pids g c = λ s h. c.truncate.ensures.items ∙ ap (λ (pids : List ℕ). take 4294967295 pids) (c.in_ok-pids.ensures.view s h)

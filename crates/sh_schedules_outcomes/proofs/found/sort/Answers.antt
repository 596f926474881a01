use Rattle.std.proofs.Common.{rules}
use Rattle.std.proofs.lemmas.Fn.{always_returns_same}
use Rattle.sh_schedules_outcomes.specs.Found.{is_before}
use Rattle.sh_schedules_outcomes.proofs.Preferring.{in_order}
use Rattle.sh_schedules_outcomes.proofs.found.sort.Goals as goal

pub returns-clause-sorted : goal.returns-clause-sorted
returns-clause-sorted c = c.in_ok-sort_by.ensures.sorted is_before in_order (always_returns_same _ _ _ (λ a r f k. search rules))

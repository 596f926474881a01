use Rattle.sh_schedules_outcomes.specs.Shell.{shell}
use Rattle.sh_schedules.proofs.Apart.{once}
use Rattle.sh_schedules_outcomes.proofs.Orders.{complete, sound}
use Rattle.sh_schedules.proofs.laws.schedules_are_listed.Goals as goal

pub returns-clause-all : goal.returns-clause-all
returns-clause-all g c = λ k n s events is. complete (shell g.S.Stock.meaning) k n s events is

pub returns-clause-only : goal.returns-clause-only
returns-clause-only g c = λ k n s events is. sound (shell g.S.Stock.meaning) k n s events is

pub returns-clause-once : goal.returns-clause-once
returns-clause-once g c = λ k n s. once (shell g.S.Stock.meaning) k n s

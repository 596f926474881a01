use Rattle.sh_schedules_outcomes.specs.Shell.{shell}
use Rattle.sh_schedules.proofs.Sharing.{numbers_add, of_no_other, of_one}
use Rattle.sh_schedules.proofs.laws.shards_share_out.Goals as goal

pub returns-clause-all : goal.returns-clause-all
returns-clause-all g c = λ k n last s events is. of_one (shell g.S.Stock.meaning) k n last s events is

pub returns-clause-apart : goal.returns-clause-apart
returns-clause-apart g c = λ k n last before other s events h i one two. of_no_other (shell g.S.Stock.meaning) k n last before other s events h i one two

pub returns-clause-number : goal.returns-clause-number
returns-clause-number g c = λ k n last s. numbers_add (shell g.S.Stock.meaning) k n last s

use Rattle.sh_arith.proofs.Exemplified.{spelled_right, spelled_left, spelled_unknown, spelled_turned, spelled_at_least, spelled_less, spelled_unset}
use Rattle.sh_arith.proofs.examples.operators_are_spelled_as_in_c.Goals as goal

pub returns-clause-right : goal.returns-clause-right
returns-clause-right c = spelled_right

pub returns-clause-left : goal.returns-clause-left
returns-clause-left c = spelled_left

pub returns-clause-unknown : goal.returns-clause-unknown
returns-clause-unknown c = spelled_unknown

pub returns-clause-turned : goal.returns-clause-turned
returns-clause-turned c = spelled_turned

pub returns-clause-at_least : goal.returns-clause-at_least
returns-clause-at_least c = spelled_at_least

pub returns-clause-less : goal.returns-clause-less
returns-clause-less c = spelled_less

pub returns-clause-unset : goal.returns-clause-unset
returns-clause-unset c = spelled_unset

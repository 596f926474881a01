use Rattle.sh_arith.proofs.Exemplified.{group_difference, group_quotient, group_shift, group_choice}
use Rattle.sh_arith.proofs.examples.operators_group_as_in_c.Goals as goal

pub returns-clause-difference : goal.returns-clause-difference
returns-clause-difference c = group_difference

pub returns-clause-quotient : goal.returns-clause-quotient
returns-clause-quotient c = group_quotient

pub returns-clause-shift : goal.returns-clause-shift
returns-clause-shift c = group_shift

pub returns-clause-choice : goal.returns-clause-choice
returns-clause-choice c = group_choice

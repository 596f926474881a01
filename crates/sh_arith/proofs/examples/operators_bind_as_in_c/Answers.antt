use Rattle.sh_arith.proofs.Exemplified.{bind_choice, bind_either, bind_both, bind_or, bind_xor, bind_and, bind_equal, bind_less, bind_shift, bind_sum, bind_product, bind_sign, bind_parentheses}
use Rattle.sh_arith.proofs.examples.operators_bind_as_in_c.Goals as goal

pub returns-clause-choice : goal.returns-clause-choice
returns-clause-choice c = bind_choice

pub returns-clause-either : goal.returns-clause-either
returns-clause-either c = bind_either

pub returns-clause-both : goal.returns-clause-both
returns-clause-both c = bind_both

pub returns-clause-or : goal.returns-clause-or
returns-clause-or c = bind_or

pub returns-clause-xor : goal.returns-clause-xor
returns-clause-xor c = bind_xor

pub returns-clause-and : goal.returns-clause-and
returns-clause-and c = bind_and

pub returns-clause-equal : goal.returns-clause-equal
returns-clause-equal c = bind_equal

pub returns-clause-less : goal.returns-clause-less
returns-clause-less c = bind_less

pub returns-clause-shift : goal.returns-clause-shift
returns-clause-shift c = bind_shift

pub returns-clause-sum : goal.returns-clause-sum
returns-clause-sum c = bind_sum

pub returns-clause-product : goal.returns-clause-product
returns-clause-product c = bind_product

pub returns-clause-sign : goal.returns-clause-sign
returns-clause-sign c = bind_sign

pub returns-clause-parentheses : goal.returns-clause-parentheses
returns-clause-parentheses c = bind_parentheses

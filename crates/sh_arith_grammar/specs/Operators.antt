-- The results of the operators (XCU 2.6.4).
use Rattle.std.specs.Prelude.{Bool, true, false, not, ℤ, pos, int_lt, Option, Some, None, if◌then◌else◌}
use Rattle.std.specs.Ordering.{int_eq}
use Rattle.sh_arith_grammar.specs.declared.operators.Operator.{Operator}
use Rattle.sh_arith_grammar.specs.declared.operators.Operator.TheVariants as operator
use Rattle.sh_arith_grammar.specs.Integers.{product_of, sum_of, difference_of, quotient, remainder, negation, shifted_left, shifted_right, joined_and, joined_or, joined_xor, complement}

abbrev pub is_zero : ℤ → Bool
is_zero v = int_eq v (pos 0)

-- 1 for true, 0 for false
abbrev pub truth : Bool → ℤ
truth true = pos 1
truth false = pos 0

-- the result of an operator between two operands; none for a division by 0
unfoldable pub binary_result : Operator → ℤ → ℤ → Option ℤ
binary_result operator.Times v w = Some (product_of v w)
binary_result operator.Divide v w = if is_zero w then None else Some (quotient v w)
binary_result operator.Remainder v w = if is_zero w then None else Some (remainder v w)
binary_result operator.Plus v w = Some (sum_of v w)
binary_result operator.Minus v w = Some (difference_of v w)
binary_result operator.ShiftLeft v w = Some (shifted_left v w)
binary_result operator.ShiftRight v w = Some (shifted_right v w)
binary_result operator.Less v w = Some (truth (int_lt v w))
binary_result operator.LessOrEqual v w = Some (truth (not (int_lt w v)))
binary_result operator.Greater v w = Some (truth (int_lt w v))
binary_result operator.GreaterOrEqual v w = Some (truth (not (int_lt v w)))
binary_result operator.Equal v w = Some (truth (int_eq v w))
binary_result operator.Unequal v w = Some (truth (not (int_eq v w)))
binary_result operator.And v w = Some (joined_and v w)
binary_result operator.Xor v w = Some (joined_xor v w)
binary_result operator.Or v w = Some (joined_or v w)
-- `=` gives the second operand; the others are not applied to two
binary_result operator.Assign v w = Some w
binary_result operator.Complement v w = Some w
binary_result operator.Not v w = Some w
binary_result operator.BothTrue v w = Some w
binary_result operator.EitherTrue v w = Some w

-- the result of an operator before its operand
unfoldable pub unary_result : Operator → ℤ → ℤ
unary_result operator.Minus v = negation v
unary_result operator.Complement v = complement v
unary_result operator.Not v = truth (is_zero v)
unary_result _ v = v

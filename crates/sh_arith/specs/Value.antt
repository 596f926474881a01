-- The value of an expression (XCU 2.6.4).
use Rattle.std.specs.Prelude.{ℕ, ◌^◌, Bool, not, ◌&&◌, ℤ, pos, List, Option, Some, None, if◌then◌else◌, nat_lt}
use Rattle.std.specs.Fmt.{signed_decimal}
use Rattle.sh_vars.specs.Environment.{Environment, value_of, with_value, is_read_only}
use Rattle.sh_base.specs.Names.{is_name}
use Rattle.sh_arith.specs.declared.faults.ArithFault.TheVariants.{DivideByZero, NotANumber, ReadOnly, Unset}
use Rattle.sh_arith_grammar.specs.declared.operators.Operator.{Operator}
use Rattle.sh_arith_grammar.specs.declared.operators.Operator.TheVariants as operator
use Rattle.sh_arith_grammar.specs.Constants.{constant_value}
use Rattle.sh_arith_grammar.specs.Numbers.{number_of}
use Rattle.sh_arith_grammar.specs.Lexical.{word_at}
use Rattle.sh_arith.specs.Expression.{Expression, Zero, Number, Name, Prefix, Binary, Logic, Choice, Assign}
use Rattle.sh_arith.specs.Outcome.{Outcome, Gives, Stops, and_then}
use Rattle.sh_arith_grammar.specs.Operators.{binary_result, is_zero, truth, unary_result}

-- the constant at a place of a text; above the greatest value it is no number
unfoldable pub constant : List ℕ → ℕ → Environment → Outcome
constant text place env =
    if nat_lt (constant_value (word_at text place)) (2 ^ 63) then Gives (pos (constant_value (word_at text place))) env
    else Stops NotANumber env

abbrev pub outcome_of_number : Option ℤ → Environment → Outcome
outcome_of_number None env = Stops NotANumber env
outcome_of_number (Some v) env = Gives v env

-- an unset variable is 0, and under `set -u` a fault
abbrev pub outcome_of_value : Option (List ℕ) → ℕ → Environment → Outcome
outcome_of_value None place env = if env.options.no_unset then Stops (Unset place) env else Gives (pos 0) env
outcome_of_value (Some bytes) place env = outcome_of_number (number_of bytes) env

-- the value of the variable that is named at a place
unfoldable pub variable_value : List ℕ → ℕ → Environment → Outcome
variable_value text place env = outcome_of_value (value_of env (word_at text place)) place env

abbrev pub may_assign : Environment → List ℕ → Bool
may_assign env name = is_name name && not (is_read_only env name)

-- an assignment of a number, in decimal, to the variable that is named at a place
unfoldable pub assignment : List ℕ → ℕ → ℤ → Environment → Outcome
assignment text place v env =
    if may_assign env (word_at text place) then Gives v (with_value env (word_at text place) (signed_decimal v))
    else Stops (ReadOnly place) env

abbrev pub outcome_of_result : Option ℤ → Environment → Outcome
outcome_of_result None env = Stops DivideByZero env
outcome_of_result (Some v) env = Gives v env

-- the outcome of an operator between two operands
unfoldable pub operation : Operator → ℤ → ℤ → Environment → Outcome
operation op v w env = outcome_of_result (binary_result op v w) env

-- whether the left operand decides: 0 does before `&&`, any other value before `||`
unfoldable pub decides : Operator → ℤ → Bool
decides operator.BothTrue v = is_zero v
decides _ v = not (is_zero v)

-- the variable's value before an assignment, where the operator needs it: `=` doesn't
unfoldable pub before : List ℕ → Operator → ℕ → Environment → Outcome
before text operator.Assign place env = Gives (pos 0) env
before text _ place env = variable_value text place env

-- operands from left to right; what is skipped is not evaluated
abbrev pub value : List ℕ → Expression → Environment → Outcome
value text Zero env = Gives (pos 0) env
value text (Number place) env = constant text place env
value text (Name place) env = variable_value text place env
value text (Prefix op x) env = and_then (value text x env) (λ v. Gives (unary_result op v))
value text (Binary op x y) env = and_then (value text x env) (λ v e. and_then (value text y e) (operation op v))
value text (Logic op x y) env = and_then (value text x env) (λ v e. if decides op v then Gives (truth (not (is_zero v))) e else and_then (value text y e) (λ w. Gives (truth (not (is_zero w)))))
value text (Choice c x y) env = and_then (value text c env) (λ v e. if is_zero v then value text y e else value text x e)
value text (Assign op place x) env = and_then (before text op place env) (λ v e. and_then (value text x e) (λ w f. and_then (operation op v w f) (assignment text place)))

-- What the examples come to, by computation.
use Rattle.std.proofs.Common.{◌≡◌, ℕ, pos, false, refl, ap, ◌∙◌}
use Rattle.std.specs.Prelude.{ℤ, codes, neg_ℤ, List, Option, Some, None, if◌then◌else◌}
use Rattle.std.specs.Int.{int_wrap}
use Rattle.sh_vars.specs.Environment.{Environment, value_of}
use Rattle.sh_grammar.specs.Derived.{tree_of}
use Rattle.sh_grammar.specs.Table.{weight_by}
use Rattle.sh_arith_grammar.specs.Classes.{operators, roles}
use Rattle.sh_arith_grammar.specs.Grammar.{arithmetic}
use Rattle.sh_arith_grammar.specs.Levels.{open_behind}
use Rattle.sh_arith_grammar.specs.Lexical.{head}
use Rattle.sh_arith_grammar.specs.Operators.{binary_result, unary_result}
use Rattle.sh_arith_grammar.specs.Productions.{productions}
use Rattle.sh_arith_grammar.specs.Roles.{kind_of, kinds, operator_of, role_of}
use Rattle.sh_arith_grammar.specs.declared.operators.Operator.{Operator}
use Rattle.sh_arith_grammar.specs.declared.operators.Operator.TheVariants as operator
use Rattle.sh_arith.specs.declared.faults.ArithFault.TheVariants.{Unset}
use Rattle.sh_arith.specs.Evaluated.{evaluation, refusal}
use Rattle.sh_arith.specs.Shown.{Comes, ComesWith, ComesWithout, IsRefusedAt}
use Rattle.sh_arith.specs.Outcome.{Gives, Stops, and_then}
use Rattle.sh_arith.specs.Value.{constant, decides, outcome_of_value, variable_value, operation}

pub group_difference : Comes (codes "10-3-2") (pos 5)
unfolding evaluation refusal tree_of arithmetic productions weight_by head open_behind kind_of kinds operator_of role_of roles operators constant operation binary_result unary_result decides int_wrap
group_difference env = refl

pub group_quotient : Comes (codes "100/10/5") (pos 2)
unfolding evaluation refusal tree_of arithmetic productions weight_by head open_behind kind_of kinds operator_of role_of roles operators constant operation binary_result unary_result decides int_wrap
group_quotient env = refl

pub group_shift : Comes (codes "1<<2<<3") (pos 32)
unfolding evaluation refusal tree_of arithmetic productions weight_by head open_behind kind_of kinds operator_of role_of roles operators constant operation binary_result unary_result decides int_wrap
group_shift env = refl

pub group_choice : Comes (codes "1?0:0?2:3") (pos 0)
unfolding evaluation refusal tree_of arithmetic productions weight_by head open_behind kind_of kinds operator_of role_of roles operators constant operation binary_result unary_result decides int_wrap
group_choice env = refl

pub bind_choice : Comes (codes "0||1?2:3") (pos 2)
unfolding evaluation refusal tree_of arithmetic productions weight_by head open_behind kind_of kinds operator_of role_of roles operators constant operation binary_result unary_result decides int_wrap
bind_choice env = refl

pub bind_either : Comes (codes "1||1&&0") (pos 1)
unfolding evaluation refusal tree_of arithmetic productions weight_by head open_behind kind_of kinds operator_of role_of roles operators constant operation binary_result unary_result decides int_wrap
bind_either env = refl

pub bind_both : Comes (codes "2|1&&0") (pos 0)
unfolding evaluation refusal tree_of arithmetic productions weight_by head open_behind kind_of kinds operator_of role_of roles operators constant operation binary_result unary_result decides int_wrap
bind_both env = refl

pub bind_or : Comes (codes "3|1^1") (pos 3)
unfolding evaluation refusal tree_of arithmetic productions weight_by head open_behind kind_of kinds operator_of role_of roles operators constant operation binary_result unary_result decides int_wrap
bind_or env = refl

pub bind_xor : Comes (codes "1^1&0") (pos 1)
unfolding evaluation refusal tree_of arithmetic productions weight_by head open_behind kind_of kinds operator_of role_of roles operators constant operation binary_result unary_result decides int_wrap
bind_xor env = refl

pub bind_and : Comes (codes "2&2==2") (pos 0)
unfolding evaluation refusal tree_of arithmetic productions weight_by head open_behind kind_of kinds operator_of role_of roles operators constant operation binary_result unary_result decides int_wrap
bind_and env = refl

pub bind_equal : Comes (codes "0==1<2") (pos 0)
unfolding evaluation refusal tree_of arithmetic productions weight_by head open_behind kind_of kinds operator_of role_of roles operators constant operation binary_result unary_result decides int_wrap
bind_equal env = refl

pub bind_less : Comes (codes "1<1<<1") (pos 1)
unfolding evaluation refusal tree_of arithmetic productions weight_by head open_behind kind_of kinds operator_of role_of roles operators constant operation binary_result unary_result decides int_wrap
bind_less env = refl

pub bind_shift : Comes (codes "1+2<<3") (pos 24)
unfolding evaluation refusal tree_of arithmetic productions weight_by head open_behind kind_of kinds operator_of role_of roles operators constant operation binary_result unary_result decides int_wrap
bind_shift env = refl

pub bind_sum : Comes (codes "2+3*4") (pos 14)
unfolding evaluation refusal tree_of arithmetic productions weight_by head open_behind kind_of kinds operator_of role_of roles operators constant operation binary_result unary_result decides int_wrap
bind_sum env = refl

pub bind_product : Comes (codes "!0*2") (pos 2)
unfolding evaluation refusal tree_of arithmetic productions weight_by head open_behind kind_of kinds operator_of role_of roles operators constant operation binary_result unary_result decides int_wrap
bind_product env = refl

pub bind_sign : Comes (codes "-2^63") (neg_ℤ (pos 63))
unfolding evaluation refusal tree_of arithmetic productions weight_by head open_behind kind_of kinds operator_of role_of roles operators constant operation binary_result unary_result decides int_wrap
bind_sign env = refl

pub bind_parentheses : Comes (codes "(2+3)*4") (pos 20)
unfolding evaluation refusal tree_of arithmetic productions weight_by head open_behind kind_of kinds operator_of role_of roles operators constant operation binary_result unary_result decides int_wrap
bind_parentheses env = refl

pub spelled_right : Comes (codes "8>>1") (pos 4)
unfolding evaluation refusal tree_of arithmetic productions weight_by head open_behind kind_of kinds operator_of role_of roles operators constant operation binary_result unary_result decides int_wrap
spelled_right env = refl

pub spelled_left : Comes (codes "8<<1") (pos 16)
unfolding evaluation refusal tree_of arithmetic productions weight_by head open_behind kind_of kinds operator_of role_of roles operators constant operation binary_result unary_result decides int_wrap
spelled_left env = refl

pub spelled_unknown : IsRefusedAt (codes "(1@") 2
unfolding evaluation refusal tree_of arithmetic productions weight_by head open_behind kind_of kinds operator_of role_of roles operators constant operation binary_result unary_result decides int_wrap
spelled_unknown env = refl

pub spelled_turned : IsRefusedAt (codes "1=>1") 1
unfolding evaluation refusal tree_of arithmetic productions weight_by head open_behind kind_of kinds operator_of role_of roles operators constant operation binary_result unary_result decides int_wrap
spelled_turned env = refl

-- ---- texts that compare two variables

valued : (env : Environment) (name : List ℕ) (place : ℕ) (o : Option (List ℕ)) (v : ℤ) → value_of env name ≡ o → outcome_of_value o place env ≡ Gives v env → outcome_of_value (value_of env name) place env ≡ Gives v env
valued env name place o v h k = ap (λ x. outcome_of_value x place env) h ∙ k

unset : (env : Environment) (place : ℕ) → env.options.no_unset ≡ false → outcome_of_value None place env ≡ Gives (pos 0) env
unset env place h = ap (λ b. if b then Stops (Unset place) env else Gives (pos 0) env) h

compared : (env : Environment) (op : Operator) (second : ℕ) (v w : ℤ) → outcome_of_value (value_of env (codes "a")) 0 env ≡ Gives v env → outcome_of_value (value_of env (codes "b")) second env ≡ Gives w env → and_then (outcome_of_value (value_of env (codes "a")) 0 env) (λ x e. and_then (outcome_of_value (value_of e (codes "b")) second e) (operation op x)) ≡ operation op v w env
compared env op second v w h k =
    ap (λ o. and_then o (λ x e. and_then (outcome_of_value (value_of e (codes "b")) second e) (operation op x))) h
    ∙ ap (λ o. and_then o (operation op v)) k

pub spelled_at_least : ComesWith (codes "a") (codes "b") (codes "2") (codes "1") (codes "a>=b") (pos 1)
unfolding evaluation refusal tree_of arithmetic productions weight_by head open_behind kind_of kinds operator_of role_of roles operators constant operation binary_result unary_result decides int_wrap variable_value
spelled_at_least env h k = compared env operator.GreaterOrEqual 3 (pos 2) (pos 1) (valued env (codes "a") 0 (Some (codes "2")) (pos 2) h refl) (valued env (codes "b") 3 (Some (codes "1")) (pos 1) k refl)

pub spelled_less : ComesWith (codes "a") (codes "b") (codes "2") (codes "1") (codes "a<b") (pos 0)
unfolding evaluation refusal tree_of arithmetic productions weight_by head open_behind kind_of kinds operator_of role_of roles operators constant operation binary_result unary_result decides int_wrap variable_value
spelled_less env h k = compared env operator.Less 2 (pos 2) (pos 1) (valued env (codes "a") 0 (Some (codes "2")) (pos 2) h refl) (valued env (codes "b") 2 (Some (codes "1")) (pos 1) k refl)

pub spelled_unset : ComesWithout (codes "a") (codes "b") (codes "a>=b") (pos 1)
unfolding evaluation refusal tree_of arithmetic productions weight_by head open_behind kind_of kinds operator_of role_of roles operators constant operation binary_result unary_result decides int_wrap variable_value
spelled_unset env h k n = compared env operator.GreaterOrEqual 3 (pos 0) (pos 0) (valued env (codes "a") 0 None (pos 0) h (unset env 0 n)) (valued env (codes "b") 3 None (pos 0) k (unset env 3 n))

-- What the grammar's numbers mean: the kind of a production, and the role and the operator of a class of
-- tokens.
use Rattle.std.specs.Prelude.{ℕ, List, get_or, map}
use Rattle.sh_arith_grammar.specs.declared.grammar.Kind.{Kind}
use Rattle.sh_arith_grammar.specs.declared.grammar.Kind.TheVariants as kind
use Rattle.sh_arith_grammar.specs.declared.operators.Role.{Role}
use Rattle.sh_arith_grammar.specs.declared.operators.Role.TheVariants as role
use Rattle.sh_arith_grammar.specs.declared.operators.Operator.{Operator}
use Rattle.sh_arith_grammar.specs.declared.operators.Operator.TheVariants as operator
use Rattle.sh_arith_grammar.specs.Classes.{operators, roles}
use Rattle.sh_arith_grammar.specs.Productions.{productions}

abbrev pub nth : {A : Type 0} → A → List A → ℕ → A
nth d xs p = get_or xs p d

unfoldable pub kinds : List Kind
kinds = map (λ p. p.means) productions

-- what a production means
unfoldable pub kind_of : ℕ → Kind
kind_of p = nth kind.Rest kinds p

-- what a token of a class is
unfoldable pub role_of : ℕ → Role
role_of c = nth role.Nothing roles c

-- which operator a token of a class is
unfoldable pub operator_of : ℕ → Operator
operator_of c = nth operator.Assign operators c

-- The program's constants are what the definitions say.
use Rattle.std.proofs.Common.{◌≡◌, ℕ, refl, map, ap, slice_index_or}
use Rattle.sh_grammar.specs.Tabulation.{Tabulation}
use Rattle.sh_arith_grammar.specs.declared.grammar.TheConstants.{HEADS, BODIES, GUARDS, TERMINALS, ENDING, START, FIRSTS, NULLABLES, PREDICTS, KINDS}
use Rattle.sh_arith_grammar.specs.declared.operators.TheConstants.{ROLES, OPERATORS}
use Rattle.sh_arith_grammar.specs.declared.tokens.TheConstants.{SPELLINGS}
use Rattle.sh_arith_grammar.specs.Classes.{operators, roles, spellings}
use Rattle.sh_arith_grammar.specs.Grammar.{arithmetic}
use Rattle.sh_arith_grammar.specs.Productions.{productions}
use Rattle.sh_arith_grammar.specs.Roles.{kind_of, kinds, operator_of, role_of}
use Rattle.sh_arith_grammar.specs.declared.grammar.Kind.TheVariants as kind
use Rattle.sh_arith_grammar.specs.declared.operators.Role.TheVariants as role
use Rattle.sh_arith_grammar.specs.declared.operators.Operator.TheVariants as operator

unfoldable pub tabled : Tabulation
tabled =
    record {
      heads = HEADS;
      bodies = map (λ b. b.now) BODIES;
      guards = GUARDS;
      terminals = TERMINALS;
      ending = ENDING;
      start = START;
      firsts = FIRSTS;
      nullables = NULLABLES;
      predicts = PREDICTS;
    }

pub arithmetic_is : tabled ≡ arithmetic
unfolding tabled arithmetic productions
arithmetic_is = refl

pub kinds_are : KINDS ≡ kinds
unfolding kinds productions
kinds_are = refl

pub roles_are : ROLES ≡ roles
unfolding roles
roles_are = refl

pub operators_are : OPERATORS ≡ operators
unfolding operators
operators_are = refl

pub spellings_are : map (λ s. s.now) SPELLINGS ≡ spellings
spellings_are = refl

pub kind_is : (p : ℕ) → slice_index_or KINDS p kind.Rest ≡ kind_of p
unfolding kind_of
kind_is p = ap (λ ks. slice_index_or ks p kind.Rest) kinds_are

pub role_is : (c : ℕ) → slice_index_or ROLES c role.Nothing ≡ role_of c
unfolding role_of
role_is c = ap (λ rs. slice_index_or rs c role.Nothing) roles_are

pub operator_is : (c : ℕ) → slice_index_or OPERATORS c operator.Assign ≡ operator_of c
unfolding operator_of
operator_is c = ap (λ os. slice_index_or os c operator.Assign) operators_are

-- The expressions that tokens write, level by level of the table of operators, as C's grammar has them (C
-- 6.5). By the law 'texts_are_read_as_in_c' a text says no other.
use Rattle.std.specs.Prelude.{◌≡◌, ℕ, suc, Bool, true, nat_eq, List, [], ◌∷◌, ◌++◌, slice_get, Some, ◌⊎◌}
use Rattle.std.specs.List.{list_any}
use Rattle.sh_grammar.specs.declared.Token.{Token}
use Rattle.sh_arith_grammar.specs.declared.operators.Role.TheVariants as role
use Rattle.sh_arith_grammar.specs.Classes.{class_of}
use Rattle.sh_arith_grammar.specs.Precedence.{Sign, Position, Before, Between, Deciding, Choosing, Assigning, Grouping, FromLeft, FromRight, level, levels}
use Rattle.sh_arith_grammar.specs.Roles.{operator_of, role_of}
use Rattle.sh_arith.specs.Expression.{Expression, Zero, Number, Name, Prefix, Binary, Logic, Choice, Assign}

abbrev pub is_listed : ℕ → List Sign → Bool
is_listed c signs = list_any (λ s. nat_eq (class_of s.spelling) c) signs

-- the token is an operator of level i, where 0 is the loosest; its operators have this position and grouping
pub record IsOperator (i : ℕ) (position : Position) (grouping : Grouping) (t : Token) : Type 0 where
  pub signs : List Sign
  pub there : slice_get levels i ≡ Some (level position grouping signs)
  pub listed : is_listed t.class signs ≡ true

-- the levels of the first and the last operand: where operators group from the left, only the first operand
-- may have operators of the same level
abbrev pub first_level : Grouping → ℕ → ℕ
first_level FromLeft i = i
first_level FromRight i = suc i

abbrev pub last_level : Grouping → ℕ → ℕ
last_level FromLeft i = suc i
last_level FromRight i = i

-- the tokens write this expression, by operators of this level or tighter ones; after the last level come
-- constants, names and parentheses
pub data Writes : ℕ → List Token → Expression → Type 0 where
  constant : (t : Token) → role_of t.class ≡ role.Number → Writes 13 (t ∷ []) (Number t.id)
  name : (t : Token) → role_of t.class ≡ role.Name → Writes 13 (t ∷ []) (Name t.id)
  parentheses : (t u : Token) → (tokens : List Token) → (x : Expression) → role_of t.class ≡ role.Opening → role_of u.class ≡ role.Closing → Writes 0 tokens x → Writes 13 (t ∷ (tokens ++ u ∷ [])) x
  tighter : (i : ℕ) → (tokens : List Token) → (x : Expression) → Writes (suc i) tokens x → Writes i tokens x
  before : (i : ℕ) → (t : Token) → (tokens : List Token) → (x : Expression) → IsOperator i Before FromRight t → Writes i tokens x → Writes i (t ∷ tokens) (Prefix (operator_of t.class) x)
  between : (i : ℕ) → (g : Grouping) → (xs : List Token) → (t : Token) → (ys : List Token) → (x y : Expression) → IsOperator i Between g t → Writes (first_level g i) xs x → Writes (last_level g i) ys y → Writes i (xs ++ t ∷ ys) (Binary (operator_of t.class) x y)
  deciding : (i : ℕ) → (g : Grouping) → (xs : List Token) → (t : Token) → (ys : List Token) → (x y : Expression) → IsOperator i Deciding g t → Writes (first_level g i) xs x → Writes (last_level g i) ys y → Writes i (xs ++ t ∷ ys) (Logic (operator_of t.class) x y)
  choosing : (i : ℕ) → (g : Grouping) → (xs : List Token) → (t : Token) → (ys : List Token) → (u : Token) → (zs : List Token) → (x y z : Expression) → IsOperator i Choosing g t → role_of u.class ≡ role.Colon → Writes (first_level g i) xs x → Writes 0 ys y → Writes (last_level g i) zs z → Writes i (xs ++ t ∷ (ys ++ u ∷ zs)) (Choice x y z)
  assigning : (i : ℕ) → (t u : Token) → (ys : List Token) → (y : Expression) → role_of t.class ≡ role.Name → IsOperator i Assigning FromRight u → Writes i ys y → Writes i (t ∷ u ∷ ys) (Assign (operator_of u.class) t.id y)

-- a blank text writes 0
abbrev pub IsWritten : List Token → Expression → Type 0
IsWritten tokens x = ((tokens ≡ []) × (x ≡ Zero)) ⊎ Writes 0 tokens x

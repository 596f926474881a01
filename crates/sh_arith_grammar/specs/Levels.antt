-- How many levels of an expression are open: each parenthesis, prefix operator, `?` and assignment operator
-- opens one; operators between two operands open none (XCU 2.6.4 sets no bound; this is ours).
use Rattle.std.specs.Prelude.{ℕ, ◌+◌, ◌-◌, Bool, true, false, not, ◌&&◌, nat_lt, List, [], ◌∷◌, if◌then◌else◌}
use Rattle.sh_grammar.specs.declared.Token.{Token}
use Rattle.sh_arith_grammar.specs.declared.operators.Role.{Role}
use Rattle.sh_arith_grammar.specs.declared.operators.Role.TheVariants as role
use Rattle.sh_arith_grammar.specs.Roles.{role_of}
use Rattle.sh_arith_grammar.specs.Stack.{rest, top}

-- what is open after some tokens
pub record Open : Type 0 where
  -- how many levels
  pub levels : ℕ
  -- how many of them were opened by prefix operators that have no operand yet
  pub prefixes : ℕ
  -- for each `(` and `?` whose `)` or `:` is to come, the innermost first: how many levels are open after
  -- that one
  pub behind : List ℕ
  -- whether an operand came last, so that an operator that follows is between two operands
  pub operand : Bool

abbrev pub none_open : Open
none_open = record { levels = 0; prefixes = 0; behind = []; operand = false }

-- an operand is complete, and so are the prefix operators before it
abbrev pub after_operand : Open → Open
after_operand o = record { levels = o.levels - o.prefixes; prefixes = 0; behind = o.behind; operand = true }

abbrev pub opens_prefix : Open → Open
opens_prefix o = record { levels = o.levels + 1; prefixes = o.prefixes + 1; behind = o.behind; operand = false }

abbrev pub between : Open → Open
between o = record { levels = o.levels; prefixes = 0; behind = o.behind; operand = false }

-- the right side of an assignment is inside its level
abbrev pub opens_assignment : Open → Open
opens_assignment o = record { levels = o.levels + 1; prefixes = 0; behind = o.behind; operand = false }

-- both parts of a choice are inside its level
abbrev pub opens_choice : Open → Open
opens_choice o = record { levels = o.levels + 1; prefixes = 0; behind = (o.levels + 1) ∷ o.behind; operand = false }

-- a parenthesis completes the prefix operators before it
abbrev pub opens_parenthesis : Open → Open
opens_parenthesis o = record { levels = o.levels + 1; prefixes = 0; behind = (o.levels - o.prefixes) ∷ o.behind; operand = false }

-- `)` and `:` close what was opened after their `(` or `?`, and `)` closes the level of its `(` too
abbrev pub after_closing : List ℕ → Bool → Open
after_closing behind operand = record { levels = top 0 behind; prefixes = 0; behind = rest behind; operand = operand }

abbrev pub opened : Role → Open → Open
opened role.Number o = after_operand o
opened role.Name o = after_operand o
opened role.Operator o = if o.operand then between o else opens_prefix o
opened role.Logic o = between o
opened role.Question o = opens_choice o
opened role.Colon o = after_closing o.behind false
opened role.Assign o = opens_assignment o
opened role.Opening o = opens_parenthesis o
opened role.Closing o = after_closing o.behind true
opened role.Nothing o = o

-- what is open after one more token
unfoldable pub open_behind : Open → Token → Open
open_behind o t = opened (role_of t.class) o

-- more than 500 levels
abbrev pub is_deep : Open → Bool
is_deep o = nat_lt 500 o.levels

-- what is open after all the tokens
abbrev pub open_after : Open → List Token → Open
open_after o [] = o
open_after o (t ∷ tokens) = open_after (open_behind o t) tokens

-- none of the tokens opens level 501
abbrev pub are_shallow : Open → List Token → Bool
are_shallow o [] = true
are_shallow o (t ∷ tokens) = not (is_deep (open_behind o t)) && are_shallow (open_behind o t) tokens

-- The productions of arithmetic expressions (XCU 2.6.4), made from the levels of operators. Each has a kind,
-- its meaning. An operand is followed by the rests of the levels, the tightest first, so that one token of
-- lookahead decides.
use Rattle.std.specs.Prelude.{ℕ, zero, suc, ◌+◌, ◌-◌, ◌*◌, List, [], ◌∷◌, ◌++◌, length}
use Rattle.sh_grammar.specs.declared.Symbol.{Symbol}
use Rattle.sh_grammar.specs.declared.Symbol.TheVariants.{Terminal, Nonterminal}
use Rattle.sh_arith_grammar.specs.declared.grammar.Kind.{Kind}
use Rattle.sh_arith_grammar.specs.declared.grammar.Kind.TheVariants as kind
use Rattle.sh_arith_grammar.specs.Precedence.{Position, Before, Between, Deciding, Choosing, Assigning, Grouping, FromLeft, FromRight, Level, levels}

-- the terminals: constants, names, the operators of each level, the tightest first, `:`, `(` and `)`
abbrev pub constant : Symbol
constant = Terminal 0

abbrev pub name : Symbol
name = Terminal 1

abbrev pub operator_at : ℕ → Symbol
operator_at i = Terminal ((length levels + 1) - i)

abbrev pub colon : Symbol
colon = Terminal (length levels + 2)

abbrev pub opening : Symbol
opening = Terminal (length levels + 3)

abbrev pub closing : Symbol
closing = Terminal (length levels + 4)

-- the nonterminals: `whole` is a whole text; `expression` is an expression, and `behind_name` and
-- `behind_operand` are what follows a name or another operand at its start. For a level i after the first,
-- `operand i` is an operand of the level before, and `rest i` the operators of level i with their right
-- operands. `other_operand` is a constant, parentheses, or an operator with its operand. The others are
-- empty: there something is done
abbrev pub whole : Symbol
whole = Nonterminal 0

abbrev pub expression : Symbol
expression = Nonterminal 1

abbrev pub behind_name : Symbol
behind_name = Nonterminal 2

abbrev pub behind_operand : Symbol
behind_operand = Nonterminal 3

abbrev pub operand : ℕ → Symbol
operand i = Nonterminal (2 * i + 2)

abbrev pub rest : ℕ → Symbol
rest i = Nonterminal (2 * i + 3)

abbrev pub other_operand : Symbol
other_operand = Nonterminal (2 * length levels + 1)

abbrev pub store : Symbol
store = Nonterminal (2 * length levels + 2)

abbrev pub load : Symbol
load = Nonterminal (2 * length levels + 3)

abbrev pub join : Symbol
join = Nonterminal (2 * length levels + 4)

abbrev pub decide : Symbol
decide = Nonterminal (2 * length levels + 5)

abbrev pub work : Symbol
work = Nonterminal (2 * length levels + 6)

abbrev pub turn : Symbol
turn = Nonterminal (2 * length levels + 7)

abbrev pub number_of : Symbol → ℕ
number_of (Terminal k) = k
number_of (Nonterminal n) = n

pub record Production : Type 0 where
  pub head : ℕ
  pub body : List Symbol
  pub means : Kind

abbrev pub rule : Symbol → Kind → List Symbol → Production
rule head means body = record { head = number_of head; body = body; means = means }

-- the right operand and what follows it. Where operators group from the left, the operand is of the next
-- level, and more operators may follow. Where they group from the right, it is of this level, which has those
-- operators itself
abbrev pub right : Grouping → (looser tighter mark others : Symbol) → List Symbol
right FromLeft looser tighter mark others = tighter ∷ mark ∷ others ∷ []
right FromRight looser tighter mark others = looser ∷ mark ∷ []

-- operators between operands: an operand of the next level, and after it nothing, or an operator and what
-- follows the operator
abbrev pub between : ℕ → Grouping → Kind → Symbol → List Symbol → List Production
between i grouping means mark before =
    rule (operand i) kind.Chain (operand (i + 1) ∷ rest i ∷ [])
    ∷ rule (rest i) kind.Rest []
    ∷ rule (rest i) means (before ++ right grouping (operand i) (operand (i + 1)) mark (rest i))
    ∷ []

-- what may follow an operand, the tightest level first
abbrev pub rests : ℕ → List Symbol
rests zero = []
rests (suc i) = rest (suc i) ∷ rests i

-- the productions of the level of this number
abbrev pub level_rules : ℕ → Position → Grouping → List Production
level_rules i Assigning grouping =
    rule expression kind.Named (name ∷ behind_name ∷ [])
    ∷ rule expression kind.Chain (other_operand ∷ behind_operand ∷ [])
    ∷ rule behind_name kind.Assigns (operator_at i ∷ right grouping expression (operand (i + 1)) store behind_name)
    ∷ rule behind_name kind.Takes (load ∷ behind_operand ∷ [])
    ∷ rule behind_operand kind.Rest (rests (length levels - 2))
    ∷ []
level_rules i Choosing grouping = between i grouping kind.Chooses join (operator_at i ∷ expression ∷ colon ∷ [])
level_rules i Deciding grouping = between i grouping kind.Logic decide (operator_at i ∷ [])
level_rules i Between grouping = between i grouping kind.Binary work (operator_at i ∷ [])
level_rules i Before grouping =
    rule (operand i) kind.Named (name ∷ load ∷ [])
    ∷ rule (operand i) kind.Chain (other_operand ∷ [])
    ∷ rule other_operand kind.Number (constant ∷ [])
    ∷ rule other_operand kind.Within (opening ∷ expression ∷ closing ∷ [])
    ∷ rule other_operand kind.Prefix (operator_at i ∷ operand i ∷ turn ∷ [])
    ∷ []

-- the productions of the levels from this number on
abbrev pub rules_from : ℕ → List Level → List Production
rules_from i [] = []
rules_from i (l ∷ others) = level_rules i l.position l.grouping ++ rules_from (i + 1) others

-- a blank text is a whole text too
unfoldable pub productions : List Production
productions =
    rule whole kind.Zero []
    ∷ rule whole kind.Chain (expression ∷ [])
    ∷ (rules_from 0 levels
    ++ rule store kind.Store []
    ∷ rule load kind.Load []
    ∷ rule join kind.Join []
    ∷ rule decide kind.Decide []
    ∷ rule work kind.Do []
    ∷ rule turn kind.Turn []
    ∷ [])

-- The operators of C's integer expressions (XCU 2.6.4; C 6.5), in levels of precedence.
use Rattle.std.specs.Prelude.{ℕ, codes, List, [], ◌∷◌, Option, Some, None}
use Rattle.sh_arith_grammar.specs.declared.operators.Operator.{Operator}
use Rattle.sh_arith_grammar.specs.declared.operators.Operator.TheVariants.{Times, Divide, Remainder, Plus, Minus, ShiftLeft, ShiftRight, Less, LessOrEqual, Greater, GreaterOrEqual, Equal, Unequal, And, Xor, Or, Complement, Not, BothTrue, EitherTrue, Assign}

-- an operator: how it is spelled, and what it does; `?` does nothing of its own
pub record Sign : Type 0 where
  pub spelling : List ℕ
  pub does : Option Operator

abbrev pub sign : List ℕ → Operator → Sign
sign spelling operator = record { spelling = spelling; does = Some operator }

-- the place of a level's operators: before one operand; between two that are both evaluated; between two
-- where the first may decide; after the first of three, with `:` before the third; between a name and the
-- value assigned to it
pub data Position : Type 0 where
  Before : Position
  Between : Position
  Deciding : Position
  Choosing : Position
  Assigning : Position

-- how several operators of one level group: `a-b-c` is `(a-b)-c`, `a=b=c` is `a=(b=c)`
pub data Grouping : Type 0 where
  FromLeft : Grouping
  FromRight : Grouping

pub record Level : Type 0 where
  pub position : Position
  pub grouping : Grouping
  pub signs : List Sign

abbrev pub level : Position → Grouping → List Sign → Level
level position grouping signs = record { position = position; grouping = grouping; signs = signs }

-- the levels, the one that binds loosest first; `+=` does what `+` does
abbrev pub levels : List Level
levels =
    level Assigning FromRight
    (sign (codes "=") Assign ∷ sign (codes "*=") Times ∷ sign (codes "/=") Divide ∷ sign (codes "%=") Remainder ∷ sign (codes "+=") Plus ∷ sign (codes "-=") Minus
    ∷ sign (codes "<<=") ShiftLeft ∷ sign (codes ">>=") ShiftRight ∷ sign (codes "&=") And ∷ sign (codes "^=") Xor ∷ sign (codes "|=") Or ∷ [])
    ∷ level Choosing FromRight (record { spelling = codes "?"; does = None } ∷ [])
    ∷ level Deciding FromLeft (sign (codes "||") EitherTrue ∷ [])
    ∷ level Deciding FromLeft (sign (codes "&&") BothTrue ∷ [])
    ∷ level Between FromLeft (sign (codes "|") Or ∷ [])
    ∷ level Between FromLeft (sign (codes "^") Xor ∷ [])
    ∷ level Between FromLeft (sign (codes "&") And ∷ [])
    ∷ level Between FromLeft (sign (codes "==") Equal ∷ sign (codes "!=") Unequal ∷ [])
    ∷ level Between FromLeft (sign (codes "<") Less ∷ sign (codes "<=") LessOrEqual ∷ sign (codes ">") Greater ∷ sign (codes ">=") GreaterOrEqual ∷ [])
    ∷ level Between FromLeft (sign (codes "<<") ShiftLeft ∷ sign (codes ">>") ShiftRight ∷ [])
    ∷ level Between FromLeft (sign (codes "+") Plus ∷ sign (codes "-") Minus ∷ [])
    ∷ level Between FromLeft (sign (codes "*") Times ∷ sign (codes "/") Divide ∷ sign (codes "%") Remainder ∷ [])
    ∷ level Before FromRight (sign (codes "+") Plus ∷ sign (codes "-") Minus ∷ sign (codes "~") Complement ∷ sign (codes "!") Not ∷ [])
    ∷ []

-- Operators byte by byte.
use Rattle.std.specs.Prelude.{ℕ, Bool, true, false, nat_eq, Option, Some, None, if◌then◌else◌}
use Rattle.sh_token_pieces.specs.declared.operator.Operator.{Operator}
use Rattle.sh_token_pieces.specs.declared.operator.Operator.TheVariants.{And, Semicolon, Pipe, Less, Great, LeftParenthesis, RightParenthesis, Newline, AndIf, OrIf, DoubleSemicolon, DoubleLess, DoubleGreat, LessAnd, GreatAnd, LessGreat, DoubleLessDash, Clobber}

abbrev pub grown_less : ℕ → Option Operator
grown_less b =
    if nat_eq b 60 then Some DoubleLess
    else if nat_eq b 38 then Some LessAnd
    else if nat_eq b 62 then Some LessGreat
    else None

abbrev pub grown_great : ℕ → Option Operator
grown_great b =
    if nat_eq b 62 then Some DoubleGreat
    else if nat_eq b 38 then Some GreatAnd
    else if nat_eq b 124 then Some Clobber
    else None

-- the operator that this one makes with one more byte, if they make one
abbrev pub longer_operator : Operator → ℕ → Option Operator
longer_operator And b = if nat_eq b 38 then Some AndIf else None
longer_operator Semicolon b = if nat_eq b 59 then Some DoubleSemicolon else None
longer_operator Pipe b = if nat_eq b 124 then Some OrIf else None
longer_operator Less b = grown_less b
longer_operator Great b = grown_great b
longer_operator DoubleLess b = if nat_eq b 45 then Some DoubleLessDash else None
longer_operator LeftParenthesis b = None
longer_operator RightParenthesis b = None
longer_operator Newline b = None
longer_operator AndIf b = None
longer_operator OrIf b = None
longer_operator DoubleSemicolon b = None
longer_operator DoubleGreat b = None
longer_operator LessAnd b = None
longer_operator GreatAnd b = None
longer_operator LessGreat b = None
longer_operator DoubleLessDash b = None
longer_operator Clobber b = None

-- whether some byte after it makes a longer operator
abbrev pub may_grow : Operator → Bool
may_grow And = true
may_grow Semicolon = true
may_grow Pipe = true
may_grow Less = true
may_grow Great = true
may_grow DoubleLess = true
may_grow LeftParenthesis = false
may_grow RightParenthesis = false
may_grow Newline = false
may_grow AndIf = false
may_grow OrIf = false
may_grow DoubleSemicolon = false
may_grow DoubleGreat = false
may_grow LessAnd = false
may_grow GreatAnd = false
may_grow LessGreat = false
may_grow DoubleLessDash = false
may_grow Clobber = false

-- the operator of one byte; the newline for each byte that is none
abbrev pub operator_of : ℕ → Operator
operator_of b =
    if nat_eq b 38 then Operator.And
    else if nat_eq b 59 then Operator.Semicolon
    else if nat_eq b 124 then Operator.Pipe
    else if nat_eq b 60 then Operator.Less
    else if nat_eq b 62 then Operator.Great
    else if nat_eq b 40 then Operator.LeftParenthesis
    else if nat_eq b 41 then Operator.RightParenthesis
    else Operator.Newline

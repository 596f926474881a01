-- Decimal numbers in texts.
use Rattle.std.specs.Prelude.{ℕ, List, [], ◌∷◌, ◌+◌, ◌*◌, ◌-◌, ◌&&◌, Bool, Option, Some, None, length, nat_le, if◌then◌else◌}
use Rattle.std.specs.List.{list_all}
use Rattle.std.specs.Char.{is_ascii_digit}

-- the value of decimal digits after others whose value is given; the first digit counts most
abbrev pub value_behind : ℕ → List ℕ → ℕ
value_behind value [] = value
value_behind value (digit ∷ digits) = value_behind (10 * value + (digit - 48)) digits

abbrev pub value_of : List ℕ → ℕ
value_of digits = value_behind 0 digits

-- a number, if it is at most the limit
abbrev pub at_most : ℕ → ℕ → Option ℕ
at_most limit n = if nat_le n limit then Some n else None

-- the operand has one to 18 decimal digits and nothing else
abbrev pub is_number : List ℕ → Bool
is_number operand = nat_le 1 (length operand) && (nat_le (length operand) 18 && list_all is_ascii_digit operand)

abbrev pub number_of : List ℕ → Option ℕ
number_of operand = if is_number operand then Some (value_of operand) else None

-- Integer constants: decimal, octal with a leading 0, hexadecimal with a leading 0x or 0X (XCU 2.6.4, C 6.4.4.1).
use Rattle.std.specs.Prelude.{ℕ, ◌+◌, ◌-◌, ◌*◌, ◌^◌, Option, Some, None, Bool, ◌&&◌, ◌||◌, nat_eq, nat_lt, nat_le, List, [], ◌∷◌, length, if◌then◌else◌}
use Rattle.std.specs.List.{list_all}

pub record Numeral : Type 0 where
  pub radix : ℕ
  pub digits : List ℕ

abbrev pub after_zero : List ℕ → Numeral
after_zero [] = record { radix = 8; digits = 48 ∷ [] }
after_zero (b ∷ bytes) = if nat_eq b 120 || nat_eq b 88 then record { radix = 16; digits = bytes } else record { radix = 8; digits = b ∷ bytes }

-- a word's radix and digits
abbrev pub numeral : List ℕ → Numeral
numeral [] = record { radix = 10; digits = [] }
numeral (b ∷ bytes) = if nat_eq b 48 then after_zero bytes else record { radix = 10; digits = b ∷ bytes }

-- the value of a byte as a digit; 16 for a byte that is no digit
abbrev pub digit_value : ℕ → ℕ
digit_value b =
    if nat_le 48 b && nat_le b 57 then b - 48
    else if nat_le 97 b && nat_le b 102 then b - 87
    else if nat_le 65 b && nat_le b 70 then b - 55
    else 16

abbrev pub is_digit : ℕ → ℕ → Bool
is_digit radix b = nat_lt (digit_value b) radix

-- whether a word is a constant
abbrev pub is_constant : List ℕ → Bool
is_constant word = nat_lt 0 (length (numeral word).digits) && list_all (is_digit (numeral word).radix) (numeral word).digits

-- the number that digits write after the digits of n
abbrev pub number_after : ℕ → ℕ → List ℕ → ℕ
number_after radix n [] = n
number_after radix n (b ∷ digits) = number_after radix (n * radix + digit_value b) digits

-- the number that a constant writes
abbrev pub constant_value : List ℕ → ℕ
constant_value word = number_after (numeral word).radix 0 (numeral word).digits

-- a number, if it is at most 2^63, which is one more than the greatest value
abbrev pub number_in_bounds : ℕ → Option ℕ
number_in_bounds n = if nat_le n (2 ^ 63) then Some n else None

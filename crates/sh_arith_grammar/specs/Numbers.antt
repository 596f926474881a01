-- The number that a variable's value writes: blanks, an optional sign, a constant, blanks.
use Rattle.std.specs.Prelude.{ℕ, ◌^◌, Bool, ◌&&◌, ◌||◌, nat_eq, nat_lt, nat_le, List, [], ◌∷◌, drop, ℤ, pos, neg_ℤ, Option, Some, None, if◌then◌else◌}
use Rattle.std.specs.List.{list_all}
use Rattle.sh_arith_grammar.specs.Constants.{is_constant, constant_value}
use Rattle.sh_arith_grammar.specs.Lexical.{word_length, first_word}

-- space, tab
abbrev pub is_value_blank : ℕ → Bool
is_value_blank b = nat_eq b 32 || nat_eq b 9

abbrev pub without_blanks : List ℕ → List ℕ
without_blanks [] = []
without_blanks (b ∷ bytes) = if is_value_blank b then without_blanks bytes else b ∷ bytes

-- a constant, and then only blanks
abbrev pub is_magnitude : List ℕ → Bool
is_magnitude bytes = is_constant (first_word bytes) && list_all is_value_blank (drop (word_length bytes) bytes)

abbrev pub positive : List ℕ → Option ℤ
positive bytes = if is_magnitude bytes && nat_lt (constant_value (first_word bytes)) (2 ^ 63) then Some (pos (constant_value (first_word bytes))) else None

-- 2^63 is allowed here: it gives the least value
abbrev pub negative : List ℕ → Option ℤ
negative bytes = if is_magnitude bytes && nat_le (constant_value (first_word bytes)) (2 ^ 63) then Some (neg_ℤ (pos (constant_value (first_word bytes)))) else None

abbrev pub signed_number : List ℕ → Option ℤ
signed_number [] = None
signed_number (b ∷ bytes) = if nat_eq b 45 then negative bytes else (if nat_eq b 43 then positive bytes else positive (b ∷ bytes))

-- a value's number, if it is one; an empty value is 0
abbrev pub number_of : List ℕ → Option ℤ
number_of [] = Some (pos 0)
number_of (b ∷ bytes) = signed_number (without_blanks (b ∷ bytes))

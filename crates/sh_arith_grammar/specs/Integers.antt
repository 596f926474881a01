-- The operators on whole numbers, with each result wrapped into 64 bits with a sign (XCU 2.6.4).
use Rattle.std.specs.Prelude.{◌^◌, ℤ, pos, ◌+ℤ◌, ◌-ℤ◌, ◌*ℤ◌, neg_ℤ, unsigned_abs, int_div, int_rem}
use Rattle.std.specs.Int.{w64, int_wrap, int_rem_euclid, int_div_euclid, int_bit_and, int_bit_or, int_bit_xor}

-- into 64 bits: after the greatest value comes the least
abbrev pub wrap : ℤ → ℤ
wrap z = int_wrap w64 z

-- two to the power of a shift count, taken modulo 64
abbrev pub power : ℤ → ℤ
power y = pos (2 ^ unsigned_abs (int_rem_euclid y (pos 64)))

abbrev pub product_of : ℤ → ℤ → ℤ
product_of x y = wrap (x *ℤ y)

abbrev pub sum_of : ℤ → ℤ → ℤ
sum_of x y = wrap (x +ℤ y)

abbrev pub difference_of : ℤ → ℤ → ℤ
difference_of x y = wrap (x -ℤ y)

abbrev pub negation : ℤ → ℤ
negation x = wrap (neg_ℤ x)

abbrev pub shifted_left : ℤ → ℤ → ℤ
shifted_left x y = wrap (x *ℤ power y)

-- rounded down, so that the sign stays
abbrev pub shifted_right : ℤ → ℤ → ℤ
shifted_right x y = int_div_euclid x (power y)

-- rounded towards zero
abbrev pub quotient : ℤ → ℤ → ℤ
quotient x y = wrap (int_div x y)

-- with the dividend's sign
abbrev pub remainder : ℤ → ℤ → ℤ
remainder x y = int_rem x y

-- bit by bit, in two's complement
abbrev pub joined_and : ℤ → ℤ → ℤ
joined_and x y = int_bit_and w64 x y

abbrev pub joined_or : ℤ → ℤ → ℤ
joined_or x y = int_bit_or w64 x y

abbrev pub joined_xor : ℤ → ℤ → ℤ
joined_xor x y = int_bit_xor w64 x y

-- each bit inverted: -x - 1
abbrev pub complement : ℤ → ℤ
complement x = neg_ℤ x -ℤ pos 1

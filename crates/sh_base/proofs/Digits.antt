-- The value of decimal digits: it never falls as more are read, and how many there are bounds it.
use Rattle.std.proofs.Common.{◌≡◌, ◌≤◌, ◌<◌, length, ◌+◌, ◌-◌, ◌*◌, ◌^◌, ℕ, suc, Bool, true, false, ◌&&◌, List, [], ◌∷◌, None, arith, drop, get_or, drop-cons, ap, refl, subst, sym}
use Rattle.std.proofs.lemmas.Bool.Decides.{nat_tests}
use Rattle.std.proofs.Math.Nat.{le_trans, mul_assoc, mul-le-mul_right, pow-le-pow_right, pow-succ'}
use Rattle.std.specs.List.{list_all}
use Rattle.std.specs.Char.{is_ascii_digit}
use Rattle.sh_base.specs.Decimals.{at_most, is_number, number_of, value_behind}

pub value_behind-le : (value : ℕ) (digits : List ℕ) → value ≤ value_behind value digits
value_behind-le value [] = omega arith
value_behind-le value (digit ∷ digits) = let next = value_behind-le (10 * value + (digit - 48)) digits in omega arith

pub over_limit : (n limit : ℕ) → limit < n → None ≡ at_most limit n
over_limit n limit h = grind (arith, nat_tests)

pub beyond : (value i d limit : ℕ) (digits : List ℕ) → i < length digits → limit < 10 * value + (get_or digits i d - 48) → limit < value_behind value (drop i digits)
beyond value i d limit digits h more =
    let step = ap (value_behind value) (drop-cons digits i d h) in
    let after = value_behind-le (10 * value + (get_or digits i d - 48)) (drop (suc i) digits) in
    omega (arith, step)

digit_small : (digit : ℕ) → is_ascii_digit digit ≡ true → digit - 48 ≤ 9
digit_small digit h = grind (arith, nat_tests)

and_left : (a b : Bool) → (a && b) ≡ true → a ≡ true
and_left true b h = refl
and_left false b h = h

and_right : (a b : Bool) → (a && b) ≡ true → b ≡ true
and_right true b h = h
and_right false b h = absurd (cc)

scaled : (value digit power : ℕ) → digit - 48 ≤ 9 → suc (10 * value + (digit - 48)) * power ≤ suc value * (10 * power)
scaled value digit power h =
    let part = mul-le-mul_right {m = suc (10 * value + (digit - 48))} {n = suc value * 10} power (omega (arith, h)) in
    let same = mul_assoc (suc value) 10 power in
    omega (arith, part, same)

pub bounded : (value : ℕ) (digits : List ℕ) → list_all is_ascii_digit digits ≡ true → suc (value_behind value digits) ≤ suc value * 10 ^ length digits
bounded value [] h = omega arith
bounded value (digit ∷ digits) h =
    let rest = bounded (10 * value + (digit - 48)) digits (and_right (is_ascii_digit digit) (list_all is_ascii_digit digits) h) in
    let step = scaled value digit (10 ^ length digits) (digit_small digit (and_left (is_ascii_digit digit) (list_all is_ascii_digit digits) h)) in
    subst (λ power. suc (value_behind (10 * value + (digit - 48)) digits) ≤ suc value * power) (sym (pow-succ' 10 (length digits))) (le_trans rest step)

digits_of : (operand : List ℕ) → is_number operand ≡ true → list_all is_ascii_digit operand ≡ true
digits_of operand h = grind (arith, nat_tests, h)

short : (operand : List ℕ) → is_number operand ≡ true → length operand ≤ 18
short operand h = grind (arith, nat_tests, h)

pub at_most-is : (operand : List ℕ) → is_number operand ≡ true → at_most 999999999999999999 (value_behind 0 operand) ≡ number_of operand
at_most-is operand h =
    let bound = bounded 0 operand (digits_of operand h) in
    let power = pow-le-pow_right {n = 10} (omega arith) {i = length operand} {j = 18} (short operand h) in
    grind (arith, nat_tests, h, bound, power)

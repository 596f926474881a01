-- Whole numbers that are brought into 64 bits.
use Rattle.std.proofs.Common.{◌≡◌, ℕ, zero, suc, ◌-◌, ◌%◌, ◌^◌, ◌<◌, ◌≤◌, ℤ, pos, negsuc, ◌*ℤ◌, FitsSigned, w64, to_z, of_z, refl, sym, ap, ◌∙◌, arith}
use Rattle.std.specs.Prelude.{unsigned_abs, int_div, neg_ℤ}
use Rattle.std.specs.Int.{int_wrap, int_shl, int_wrapping_div, int_rem_euclid}
use Rattle.std.proofs.lemmas.Int.{SFits-int_wrap, wrapping_mul-bits, int_wrap-mul_right, ints, to_z-of_z}
use Rattle.std.proofs.Math.Nat.{div-le_self}
use Rattle.std.proofs.Math.Pow.{pow-lt}
use Rattle.sh_arith_grammar.specs.Integers.{shifted_left}

-- a result that wraps is kept as it is
pub kept : (r z : ℤ) → r ≡ int_wrap w64 z → to_z w64 (of_z w64 r) ≡ int_wrap w64 z
kept r z e = ap (λ x. to_z w64 (of_z w64 x)) e ∙ to_z-of_z w64 (int_wrap w64 z) (SFits-int_wrap w64 z)

wrap_small : (n : ℕ) → n < 2 ^ 64 → int_wrap w64 (pos n) ≡ to_z w64 n
unfolding int_wrap
wrap_small n h = let e : n % 2 ^ 64 ≡ n = omega arith in ap (to_z w64) e

wrap_negative : (n : ℕ) → n < 2 ^ 64 → int_wrap w64 (negsuc n) ≡ to_z w64 (of_z w64 (negsuc n))
unfolding int_wrap
wrap_negative n h = let e : 2 ^ 64 - 1 - n % 2 ^ 64 ≡ 2 ^ 64 - suc n = omega arith in ap (to_z w64) e

pub shl_is : (x : ℤ) (k : ℕ) → FitsSigned w64 x → 2 ^ k < 2 ^ 64 → int_shl w64 x k ≡ int_wrap w64 (x *ℤ pos (2 ^ k))
shl_is x k f h =
    let b : of_z w64 x < 2 ^ 64 = omega (arith, ints) in
    wrapping_mul-bits w64 (of_z w64 x) (2 ^ k) b h
    ∙ (ap (λ y. int_wrap w64 (y *ℤ to_z w64 (2 ^ k))) (to_z-of_z w64 x f)
    ∙ (ap (λ y. int_wrap w64 (x *ℤ y)) (sym (wrap_small (2 ^ k) h)) ∙ int_wrap-mul_right w64 x (pos (2 ^ k))))

small_wraps : (z : ℤ) → unsigned_abs z < 2 ^ 64 → int_wrap w64 z ≡ to_z w64 (of_z w64 z)
small_wraps (pos n) h = wrap_small n h
small_wraps (negsuc n) h = wrap_negative n (omega arith)

abs_neg : (n : ℕ) → unsigned_abs (neg_ℤ (pos n)) ≡ n
abs_neg zero = refl
abs_neg (suc n) = refl

quotient_below : (x y : ℤ) → unsigned_abs (int_div x y) ≤ unsigned_abs x
quotient_below (pos a) (pos b) = div-le_self a b
quotient_below (pos a) (negsuc b) = rw abs_neg (div-le_self a (suc b))
quotient_below (negsuc a) (pos b) = rw abs_neg (div-le_self (suc a) b)
quotient_below (negsuc a) (negsuc b) = div-le_self (suc a) (suc b)

pub div_is : (x y : ℤ) → FitsSigned w64 x → int_wrapping_div w64 x y ≡ int_wrap w64 (int_div x y)
div_is x y f =
    let a : unsigned_abs x ≤ 2 ^ 63 = omega (arith, ints) in
    let b = quotient_below x y in
    let h : unsigned_abs (int_div x y) < 2 ^ 64 = omega (arith, a, b) in
    sym (small_wraps (int_div x y) h)

pub shifted_by : (x y r z : ℤ) → FitsSigned w64 x → r ≡ int_rem_euclid y (pos 64) → unsigned_abs r < 64 → z ≡ int_shl w64 x (unsigned_abs (to_z w64 (of_z w64 r)) % 64) → to_z w64 (of_z w64 z) ≡ shifted_left x y
shifted_by x y r z f e b h =
    let g : FitsSigned w64 r = omega (arith, ints) in
    let k : unsigned_abs r % 64 ≡ unsigned_abs r = omega arith in
    kept z (x *ℤ pos (2 ^ unsigned_abs (int_rem_euclid y (pos 64))))
    (h ∙ (ap (λ v. int_shl w64 x (unsigned_abs v % 64)) (to_z-of_z w64 r g)
    ∙ (ap (int_shl w64 x) k
    ∙ (shl_is x (unsigned_abs r) f (pow-lt b) ∙ ap (λ v. int_wrap w64 (x *ℤ pos (2 ^ unsigned_abs v))) e))))

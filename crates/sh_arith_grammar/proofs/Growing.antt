-- Digits that follow make no number smaller.
use Rattle.std.proofs.Common.{◌≡◌, ℕ, ◌+◌, ◌*◌, ◌^◌, ◌<◌, ◌≤◌, false, List, [], ◌∷◌, sym, ap, ◌∙◌, arith, rules, Some, None}
use Rattle.std.specs.Prelude.{nat_le, if◌then◌else◌}
use Rattle.sh_arith_grammar.specs.Constants.{number_after, digit_value, number_in_bounds}

multiple : (n radix : ℕ) → 1 ≤ radix → n ≤ n * radix
multiple n radix h = grind (arith, h)

grows : (radix n : ℕ) (digits : List ℕ) → 1 ≤ radix → n ≤ number_after radix n digits
grows radix n [] h = omega arith
grows radix n (b ∷ digits) h =
    let i = grows radix (n * radix + digit_value b) digits h in
    let m = multiple n radix h in
    omega (arith, i, m)

above : (n : ℕ) → 2 ^ 63 < n → nat_le n (2 ^ 63) ≡ false
above n h = search (rules, h)

pub past : (radix n b x y : ℕ) (left others whole : List ℕ) → 1 ≤ radix → left ≡ b ∷ others → number_after radix n left ≡ number_after radix 0 whole → x ≡ radix → y ≡ digit_value b → 2 ^ 63 < n * x + y → None ≡ number_in_bounds (number_after radix 0 whole)
past radix n b x y left others whole h e same f g o =
    let m : n * x + y ≡ n * radix + digit_value b = ap (λ z. n * z + y) f ∙ ap (λ z. n * radix + z) g in
    let p : 2 ^ 63 < n * radix + digit_value b = omega (arith, m, o) in
    let i = grows radix (n * radix + digit_value b) others h in
    let t : number_after radix (n * radix + digit_value b) others ≡ number_after radix 0 whole = sym (ap (number_after radix n) e) ∙ same in
    let q : 2 ^ 63 < number_after radix 0 whole = omega (arith, i, t, p) in
    sym (ap (λ x. if x then Some (number_after radix 0 whole) else None) (above (number_after radix 0 whole) q))

-- Sets of classes in 64 bits.
use Rattle.std.proofs.Common.{◌≡◌, ℕ, ◌/◌, ◌%◌, ◌^◌, ◌<◌, ◌≤◌, false, nat_eq, sym, ap, arith}
use Rattle.std.proofs.Math.Nat.{div-eq_of_lt}
use Rattle.std.proofs.Math.Pow.{pow_mono}
use Rattle.sh_grammar.specs.Tabulation.{in_set}

-- no class above 63 is in a set
pub none_past : (set c : ℕ) → set < 2 ^ 64 → 64 ≤ c → false ≡ in_set set c
none_past set c h l =
    let m = pow_mono {i = 64} {j = c} l in
    let z : set / 2 ^ c ≡ 0 = div-eq_of_lt {n = set} {m = 2 ^ c} (omega (arith, m, h)) in
    sym (ap (λ x. nat_eq (x % 2) 1) z)

use Rattle.std.proofs.Common.{w64, FitsSigned}
use Rattle.std.proofs.lemmas.Int.{to_z-of_z}
use Rattle.sh_arith_grammar.proofs.Wrapping.{shifted_by}
use Rattle.sh_arith_grammar.proofs.integer.shift_left.Goals as goal

pub returns : goal.returns
returns c =
    let f : FitsSigned w64 c.args.x = c.ranges.x in
    let g : FitsSigned w64 c.args.y = c.ranges.y in
    let h = simp to_z-of_z at c.wrapping_shl.ensures in
    let e = simp to_z-of_z at c.rem_euclid.ensures.value in
    shifted_by c.args.x c.args.y c.rem_euclid.result c.wrapping_shl.result f e c.rem_euclid.ensures.upper_bound h

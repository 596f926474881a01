use Rattle.std.proofs.Common.{◌∙◌, w64, FitsSigned}
use Rattle.std.proofs.lemmas.Int.{wrapping_neg_is, to_z-of_z}
use Rattle.sh_arith_grammar.proofs.Wrapping.{kept}
use Rattle.sh_arith_grammar.proofs.integer.negate.Goals as goal

pub returns : goal.returns
returns c =
    let f : FitsSigned w64 c.args.x = c.ranges.x in
    let h = simp to_z-of_z at c.wrapping_neg.ensures in
    kept _ _ (h ∙ wrapping_neg_is w64 c.args.x f)

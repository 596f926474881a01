use Rattle.std.proofs.Common.{◌∙◌, w64, FitsSigned}
use Rattle.std.proofs.lemmas.Int.{to_z-of_z}
use Rattle.sh_arith_grammar.proofs.Wrapping.{kept, div_is}
use Rattle.sh_arith_grammar.proofs.integer.divide.Goals as goal

pub returns : goal.returns
returns c =
    let f : FitsSigned w64 c.args.x = c.ranges.x in
    let g : FitsSigned w64 c.args.y = c.ranges.y in
    let h = simp to_z-of_z at c.wrapping_div.ensures in
    kept _ _ (h ∙ div_is c.args.x c.args.y f)

-- How much there is to do in a part. Only contracts and proofs that an expansion ends need this.
use Rattle.std.specs.Prelude.{ℕ, ◌+◌, List, [], ◌∷◌, map}
use Rattle.sh_syntax.specs.declared.tree.Part.{Part}
use Rattle.sh_syntax.specs.declared.tree.Command.TheOpen as layer
use Rattle.sh_syntax.specs.declared.tree.Command.TheFolds as folds
use Rattle.sh_expand.specs.Parts.{U, other_step}

abbrev pub total : List ℕ → ℕ
total [] = 0
total (n ∷ ns) = n + total ns

abbrev pub WeightLayer : (Type 0 → Type 0 → Type 0 → Type 0 → Type 0 → Type 0 → Type 0 → Type 0
    → Type 0 → Type 0 → Type 0 → Type 0 → Type 0 → Type 0 → Type 0 → Type 0 → Type 0) → Type 0
WeightLayer F = F U U ℕ U U U U U U U U U ℕ U U U

abbrev pub weight_step : WeightLayer layer.Part-F → ℕ
weight_step (layer.Literal text) = 2
weight_step (layer.Escaped b) = 2
weight_step (layer.SingleQuoted text) = 2
weight_step (layer.DoubleQuoted w) = 2 + w
weight_step (layer.Parameter p) = 2
weight_step (layer.Length p) = 2
weight_step (layer.Conditional p absence action w) = 2 + w
weight_step (layer.Removal p affix extent w) = 2 + w
weight_step (layer.Substitution program) = 2
weight_step (layer.Backquoted program) = 2
weight_step (layer.Arithmetic w) = 2 + w

abbrev pub weights_step : WeightLayer layer.Parts-F → ℕ
weights_step w = total w.items

unfoldable pub part_weight : Part → ℕ
part_weight = folds.fold-Part U U ℕ U U U U U U U U U ℕ U U U
    other_step other_step weight_step other_step other_step other_step other_step other_step other_step other_step other_step other_step weights_step other_step other_step other_step

abbrev pub parts_weight : List Part → ℕ
parts_weight ps = total (map part_weight ps)

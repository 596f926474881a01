use Rattle.std.proofs.Common.{[], ◌∷◌, refl}
use Rattle.sh_grammar.specs.declared.Action.TheVariants.{Expand, Shift}
use Rattle.sh_grammar.specs.Table.{weight_by}
use Rattle.sh_grammar.specs.Passes.{Witness}
use Rattle.test_rows.proofs.word_grammar.tables.Goals as goal

witness : Witness
witness =
    record {
      follows = 12 ∷ 15 ∷ 15 ∷ [];
      empties = 0 ∷ 0 ∷ 4 ∷ [];
      samples =
          (Expand 0 ∷ []) ∷
          (Expand 2 ∷ Shift (record { class = 0; id = 0 }) ∷ Expand 4 ∷ []) ∷
          (Expand 4 ∷ []) ∷
          [];
      safes = 14 ∷ 14 ∷ 14 ∷ [];
      kinds = 0 ∷ 1 ∷ 2 ∷ [];
    }

pub returns : goal.returns
unfolding witness weight_by
returns c = (witness, record { rules = refl; names = refl; nullables = refl; safes = refl; start = refl; start_ends = refl })

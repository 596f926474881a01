-- Where an expansion stands that waits for an answer.
use Rattle.std.specs.Prelude.{◌≡◌, ℕ, List, [], ◌++◌}
use Rattle.sh_expand.specs.Answers.{words_after}
use Rattle.sh_expand.specs.Expansion.{Need}
use Rattle.sh_expand.specs.FieldProgress.{Waits}
use Rattle.sh_expand.specs.Parts.{expand}
use Rattle.sh_expand.specs.declared.expansion.Expansion.{Expansion}
use Rattle.sh_syntax.specs.declared.tree.CompoundList.{CompoundList}
use Rattle.sh_vars.specs.Environment.{Environment}

-- with the answers `given` it has come to the need of this program, in these variables; they all served a need
pub record IsWaiting (program : CompoundList) (e : Expansion) (env : Environment) (start : Environment) (given : List (List ℕ)) : Type 0 where
  pub needs : expand e.words.words start given ≡ Need program env
  pub waits : Waits e env e.words.words start given
  pub same : (answers : List (List ℕ)) → words_after e.words.words start given answers ≡ words_after e.words.words start [] (given ++ answers)

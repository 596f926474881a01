-- The file to which the last stage of a pipeline writes.
use Rattle.std.specs.Prelude.{List, [], ◌∷◌}
use Rattle.sh_laws_pipelines.specs.Stages.{StageProcess}

-- the last of some stages
abbrev pub last_of : {S : Type 0} → StageProcess S → List (StageProcess S) → StageProcess S
last_of j [] = j
last_of j (k ∷ js) = last_of k js

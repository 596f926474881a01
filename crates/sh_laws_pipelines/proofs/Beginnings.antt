-- The file to which the last stage writes holds a beginning of the pipeline's output.
use Rattle.std.proofs.Common.{◌≡◌, ℕ, List, [], ◌∷◌, ◌++◌, Bool, Option, Some, refl, sym, ◌∙◌, subst}
use Rattle.sh_kernel_descriptors.specs.Machine.{MachineState}
use Rattle.sh_laws_pipelines.specs.Files.{last_of}
use Rattle.sh_laws_pipelines.specs.Stages.{FromPipe, Holds, Source, StageProcess, Stands, stages_of}
use Rattle.sh_laws_pipelines.proofs.Functions.{begins, is_whole}
use Rattle.sh_laws_pipelines.specs.Pipelines.{AreAtStart, Stage, Steps, filterings_of, has_ended, last_end, last_written, output_of, written_by}
use Rattle.sh_stock.specs.Asking.{Meaning}
use Rattle.sh_stock.specs.Filtering.{Begins, Filtering, KeepsFilterLaws}

module _ {S : Type 0} (m : Meaning S) where
  last_behind : (given : List ℕ) (front : List (Stage S)) (j : StageProcess S) (js : List (StageProcess S)) → last_written m given (front ++ stages_of (j ∷ js)) ≡ written_by m (last_of j js).stage
  last_behind given (x ∷ front) j js = last_behind (written_by m x) front j js
  last_behind given [] j [] = refl
  last_behind given [] j (k ∷ js) = last_behind (written_by m j.stage) [] k js

  last_alone : (given : List ℕ) (front : List (Stage S)) (x : Stage S) → last_written m given (front ++ x ∷ []) ≡ written_by m x
  last_alone given [] x = refl
  last_alone given (y ∷ front) x = last_alone (written_by m y) front x

  end_alone : (front : List (Stage S)) (x : Stage S) → last_end (front ++ x ∷ []) ≡ x.end
  end_alone [] x = refl
  end_alone (y ∷ []) x = refl
  end_alone (y ∷ z ∷ front) x = end_alone (z ∷ front) x

  file_of_last : (s : MachineState) (before : Option ℕ) (source : Source) (given : List ℕ) (complete : Bool) (j : StageProcess S) (js : List (StageProcess S)) → Stands m s before source given complete (j ∷ js) → Holds s (last_of j js).to (written_by m (last_of j js).stage)
  file_of_last s before source given complete j [] st = record { file = st.2.file; there = st.2.holds; content = st.2.content }
  file_of_last s before source given complete j (k ∷ js) st = file_of_last s (Some j.pid) (FromPipe j.to) (written_by m j.stage) (has_ended j.stage) k js st.3

  module _ (filtering : List ℕ → List (List ℕ) → Option Filtering) (laws : KeepsFilterLaws m filtering) (input : List ℕ) (start front : List (Stage S)) (at : AreAtStart m filtering start) where
    pub file_begins : (s : MachineState) (before : Option ℕ) (source : Source) (given : List ℕ) (complete : Bool) (j : StageProcess S) (js : List (StageProcess S)) → Steps m input start (front ++ stages_of (j ∷ js)) → Stands m s before source given complete (j ∷ js)
        → (held : List ℕ) × Holds s (last_of j js).to held × Begins held (output_of (filterings_of start) input)
    file_begins s before source given complete j js steps st = (
      written_by m (last_of j js).stage,
      file_of_last s before source given complete j js st,
      subst (λ (l : List ℕ). Begins l (output_of (filterings_of start) input)) (last_behind input front j js) (begins m filtering laws input start (front ++ stages_of (j ∷ js)) at steps),
    )

    pub file_is_whole : (s : MachineState) (number : ℕ) (x : Stage S) (status : ℕ) → Steps m input start (front ++ x ∷ []) → x.end ≡ Some status → Holds s number (written_by m x) → Holds s number (output_of (filterings_of start) input)
    file_is_whole s number x status steps ended h =
        subst (λ (l : List ℕ). Holds s number l) (sym (last_alone input front x) ∙ is_whole m filtering laws input start (front ++ x ∷ []) status at steps (end_alone front x ∙ ended)) h

-- Pipelines are functions of their input.
use Rattle.std.specs.Prelude.{◌≡◌, ℕ, List, true, Option, Some}
use Rattle.std.proofs.Common.{refl, sym, ap, ◌∙◌, subst}
use Rattle.sh_laws_pipelines.proofs.Feeding.{AreFed, begins_itself}
use Rattle.sh_laws_pipelines.proofs.Keeping.{all_start_fed, steps_fed, steps_filters}
use Rattle.sh_laws_pipelines.proofs.Output.{last_begins, last_status, last_whole}
use Rattle.sh_laws_pipelines.specs.Pipelines.{AreAtStart, Stage, Steps, filterings_of, last_end, last_written, output_of, status_of}
use Rattle.sh_stock.specs.Asking.{Meaning}
use Rattle.sh_stock.specs.Filtering.{Begins, Filtering, KeepsFilterLaws}

module _ {S : Type 0} (m : Meaning S) (filtering : List ℕ → List (List ℕ) → Option Filtering) (laws : KeepsFilterLaws m filtering) where
  fed : (input : List ℕ) (stages later : List (Stage S)) → AreAtStart m filtering stages → Steps m input stages later → AreFed m input true later
  fed input stages later at steps = steps_fed m input stages later steps (all_start_fed m filtering laws input true stages at)

  pub begins : (input : List ℕ) (stages later : List (Stage S)) → AreAtStart m filtering stages → Steps m input stages later → Begins (last_written m input later) (output_of (filterings_of stages) input)
  begins input stages later at steps =
      subst (λ (fs : List Filtering). Begins (last_written m input later) (output_of fs input)) (sym (steps_filters m input stages later steps))
      (last_begins m input input true later (fed input stages later at steps) (begins_itself input) (λ h. refl))

  pub is_whole : (input : List ℕ) (stages later : List (Stage S)) (status : ℕ) → AreAtStart m filtering stages → Steps m input stages later → last_end later ≡ Some status → last_written m input later ≡ output_of (filterings_of stages) input
  is_whole input stages later status at steps ended =
      last_whole m input input true later status (fed input stages later at steps) (begins_itself input) (λ h. refl) ended
      ∙ ap (λ (fs : List Filtering). output_of fs input) (sym (steps_filters m input stages later steps))

  pub has_status : (input : List ℕ) (stages later : List (Stage S)) (status : ℕ) → AreAtStart m filtering stages → Steps m input stages later → last_end later ≡ Some status → status_of (filterings_of stages) input ≡ Some status
  has_status input stages later status at steps ended =
      ap (λ (fs : List Filtering). status_of fs input) (steps_filters m input stages later steps)
      ∙ last_status m input input true later status (fed input stages later at steps) (begins_itself input) (λ h. refl) ended

-- The laws of pipelines, as their statements have them.
use Rattle.std.proofs.Common.{◌≡◌, ℕ, zero, suc, List, [], ◌∷◌, Bool, Option, Some, None, slice_get, sym, subst}
use Rattle.sh_exec.specs.Turns.{turn}
use Rattle.sh_kernel.specs.State.{KernelState}
use Rattle.sh_laws.specs.Requests.{ChangesByRequests}
use Rattle.sh_laws_pipelines.proofs.StagesBeside.{is_left, stands_beside}
use Rattle.sh_laws_pipelines.proofs.StageTurns.{takes}
use Rattle.sh_laws_pipelines.specs.Stages.{AreAlive, AreDistinct, GoesOn, HasRoom, IsAlive, IsElsewhere, IsElsewhereBefore, StageProcess, LeavesLast, LeavesSource, NotBefore, NotEnding, ReadsOther, Source, Stands, stages_of, with_turn}
use Rattle.sh_laws_pipelines.specs.Pipelines.{Behind, Ends, Here, Step, course_of, has_ended, written_by}
use Rattle.sh_stock.specs.Asking.{KeepsLaws, Meaning}
use Rattle.sh_stock.specs.declared.asking.Ask.TheVariants.{End}

module _ {S : Type 0} (m : Meaning S) where
  pub goes_on : KeepsLaws m → (s : KernelState) (before : Option ℕ) (source : Source) (given : List ℕ) (all : Bool) (js : List (StageProcess S)) (n : ℕ) (j : StageProcess S) → slice_get js n ≡ Some j → let t = turn m s j.task in
      IsAlive t.machine.machine before → AreAlive t.machine.machine js → AreDistinct js → NotBefore before js → ReadsOther source js → NotEnding m j → HasRoom m j → Stands m s.machine before source given all js
      → GoesOn m s before source given all js n j t.machine.machine t.task
  goes_on laws s before source given all js n j at b a distinct nb others on room st =
      let r = takes m laws s before source given all js n j at b a distinct nb others on room st in record { later = r.later; stands = r.stands; steps = r.goes }

  pub ends_step : (given : List ℕ) (all : Bool) (js : List (StageProcess S)) (n : ℕ) (j : StageProcess S) (status : ℕ) → slice_get js n ≡ Some j → (course_of m j.stage).ask ≡ End status
      → Step m given all (stages_of js) (stages_of (with_turn n (record j.stage { end = Some status }) j.task js))
  ends_step given all [] n j status at asks = cc
  ends_step given all (i ∷ js) zero j status at asks =
      let same : i ≡ j = cc in
      subst (λ (x : StageProcess S). Step m given all (stages_of (x ∷ js)) (stages_of (with_turn zero (record j.stage { end = Some status }) j.task (x ∷ js)))) (sym same)
      (Here given all j.stage (record j.stage { end = Some status }) (stages_of js) (Ends status asks))
  ends_step given all (i ∷ js) (suc n) j status at asks =
      Behind given all i.stage (stages_of js) (stages_of (with_turn n (record j.stage { end = Some status }) j.task js)) (ends_step (written_by m i.stage) (has_ended i.stage) js n j status at asks)

  pub beside : (s t : KernelState) (other : ℕ) (made : Option ℕ) (directory : List ℕ) (c : ChangesByRequests other made directory s t) (before : Option ℕ) (source : Source) (given : List ℕ) (all : Bool) (js : List (StageProcess S)) → IsElsewhereBefore other s.machine t.machine before
      → IsElsewhere other s.machine js → AreAlive t.machine js → LeavesSource (is_left m s t other made directory c) source → LeavesLast (is_left m s t other made directory c) js → Stands m s.machine before source given all js → Stands m t.machine before source given all js
  beside s t other made directory c None source given all js fine elsewhere alive left last st = stands_beside m s t other made directory c None source given all js tt elsewhere alive left last st
  beside s t other made directory c (Some before) source given all js fine elsewhere alive left last st = stands_beside m s t other made directory c (Some before) source given all js fine elsewhere alive left last st

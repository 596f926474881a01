-- The steps of a pipeline keep what holds of its stages.
use Rattle.std.specs.Prelude.{◌≡◌, ℕ, List, [], ◌∷◌, ◌++◌, Bool, true, Option}
use Rattle.std.proofs.Common.{refl, sym, ap, ◌∙◌, subst, append_assoc}
use Rattle.sh_laws_pipelines.proofs.Feeding.{AreFed, IsFed, Nothing, StaysAll, all_fed_more, answer_goes_on, begins_itself, ended_asks, stage_fed}
use Rattle.sh_laws_pipelines.specs.Pipelines.{AreAtStart, Behind, Ends, Here, Idles, IsAtStart, NoSteps, Reads, ReadsEnd, Stage, StageStep, Step, Steps, Stops, Then, Writes, WritesAll, course_of, filterings_of, has_ended, written_by}
use Rattle.sh_stock.specs.Asking.{Meaning}
use Rattle.sh_stock.specs.Filtering.{AllFit, Begins, Course, Filtering, KeepsFilterLaws, course, first_course}
use Rattle.sh_stock.specs.declared.asking.Answer.{Answer}
use Rattle.sh_stock.specs.declared.asking.Ask.{Ask}
use Rattle.sh_stock.specs.declared.asking.Ask.TheVariants.{Read, Write, Stop, Idle, End}

module _ {S : Type 0} (m : Meaning S) where
  -- what a stage has written grows, and stays as it is once the stage has ended
  goes_on : (given : List ℕ) (all : Bool) (s t : Stage S) → StageStep m given all s t → IsFed m given all s → Begins (written_by m s) (written_by m t)
  goes_on given all s t (Reads count byte bytes asks few begins) fed = answer_goes_on m (course_of m s).ask (course_of m s).written s.gone fed.under_way
  goes_on given all s t (ReadsEnd count asks whole no_more) fed = answer_goes_on m (course_of m s).ask (course_of m s).written s.gone fed.under_way
  goes_on given all s t (Writes bytes rest asks) fed = (bytes, append_assoc (course_of m s).written s.gone bytes)
  goes_on given all s t (WritesAll rest asks) fed = answer_goes_on m (course_of m s).ask (course_of m s).written s.gone fed.under_way
  goes_on given all s t (Stops asks) fed = answer_goes_on m (course_of m s).ask (course_of m s).written s.gone fed.under_way
  goes_on given all s t (Idles asks) fed = answer_goes_on m (course_of m s).ask (course_of m s).written s.gone fed.under_way
  goes_on given all s t (Ends status asks) fed = begins_itself (written_by m s)

  asks_end : (given : List ℕ) (all : Bool) (s : Stage S) (ask : Ask) → IsFed m given all s → has_ended s ≡ true → (course_of m s).ask ≡ ask → (status : ℕ) × (ask ≡ End status)
  asks_end given all s ask fed h asks = let e = ended_asks m given all s fed h in (e.0, sym asks ∙ e.1)

  stays : (given : List ℕ) (all : Bool) (s t : Stage S) → StageStep m given all s t → IsFed m given all s → StaysAll (written_by m s) (has_ended s) (written_by m t) (has_ended t)
  stays given all s t (Reads count byte bytes asks few begins) fed h = let e = asks_end given all s (Read count) fed h asks in let both = e.1 in cc
  stays given all s t (ReadsEnd count asks whole no_more) fed h = let e = asks_end given all s (Read count) fed h asks in let both = e.1 in cc
  stays given all s t (Writes bytes rest asks) fed h = let e = asks_end given all s (Write (s.gone ++ (bytes ++ rest))) fed h asks in let both = e.1 in cc
  stays given all s t (WritesAll rest asks) fed h = let e = asks_end given all s (Write (s.gone ++ rest)) fed h asks in let both = e.1 in cc
  stays given all s t (Stops asks) fed h = let e = asks_end given all s Stop fed h asks in let both = e.1 in cc
  stays given all s t (Idles asks) fed h = let e = asks_end given all s Idle fed h asks in let both = e.1 in cc
  stays given all s t (Ends status asks) fed h = (refl, refl)

  pub step_fed : (given : List ℕ) (all : Bool) (stages later : List (Stage S)) → Step m given all stages later → AreFed m given all stages → AreFed m given all later
  step_fed given all stages later (Here given' all' s t rest step) fed =
      (stage_fed m given' all' s t step fed.0, all_fed_more m (written_by m s) (written_by m t) (has_ended s) (has_ended t) rest (goes_on given' all' s t step fed.0) (stays given' all' s t step fed.0) fed.1)
  step_fed given all stages later (Behind given' all' s rest rest' step) fed =
      (fed.0, step_fed (written_by m s) (has_ended s) rest rest' step fed.1)

  pub steps_fed : (input : List ℕ) (stages later : List (Stage S)) → Steps m input stages later → AreFed m input true stages → AreFed m input true later
  steps_fed input stages later (NoSteps same) fed = fed
  steps_fed input stages later (Then one between last steps step) fed = step_fed input true between last step (steps_fed input one between steps fed)

  -- ---- the filters stay
  stage_filter : (given : List ℕ) (all : Bool) (s t : Stage S) → StageStep m given all s t → s.filtering ≡ t.filtering
  stage_filter given all s t (Reads count byte bytes asks few begins) = refl
  stage_filter given all s t (ReadsEnd count asks whole no_more) = refl
  stage_filter given all s t (Writes bytes rest asks) = refl
  stage_filter given all s t (WritesAll rest asks) = refl
  stage_filter given all s t (Stops asks) = refl
  stage_filter given all s t (Idles asks) = refl
  stage_filter given all s t (Ends status asks) = refl

  step_filters : (given : List ℕ) (all : Bool) (stages later : List (Stage S)) → Step m given all stages later → filterings_of stages ≡ filterings_of later
  step_filters given all stages later (Here given' all' s t rest step) = ap (λ (f : Filtering). f ∷ filterings_of rest) (stage_filter given' all' s t step)
  step_filters given all stages later (Behind given' all' s rest rest' step) = ap (λ (fs : List Filtering). s.filtering ∷ fs) (step_filters (written_by m s) (has_ended s) rest rest' step)

  pub steps_filters : (input : List ℕ) (stages later : List (Stage S)) → Steps m input stages later → filterings_of stages ≡ filterings_of later
  steps_filters input stages later (NoSteps same) = refl
  steps_filters input stages later (Then one between last steps step) = steps_filters input one between steps ∙ step_filters input true between last step

  -- ---- the start
  start_fed : (filtering : List ℕ → List (List ℕ) → Option Filtering) → KeepsFilterLaws m filtering → (given : List ℕ) (all : Bool) (s : Stage S) → IsAtStart m filtering s → IsFed m given all s
  start_fed filtering laws given all s at =
      let at_first : course_of m s ≡ first_course m s.program = ap (λ (answers : List Answer). course m s.program answers) at.answers in
      record {
        filter = laws.filters s.name s.operands s.filtering s.program at.filter at.starts;
        parts = laws.parts s.name s.operands s.filtering at.filter;
        fits = subst (λ (answers : List Answer). AllFit m s.program answers) (sym at.answers) tt;
        under_way = Nothing at.gone;
        read = subst (λ (c : Course S). Begins c.read given) (sym at_first) (given, refl);
        end_of_file = subst (λ (c : Course S). c.ended ≡ true → (all ≡ true) × (c.read ≡ given)) (sym at_first) (λ h. cc);
        end = λ status h. let none = at.end in cc;
      }

  pub all_start_fed : (filtering : List ℕ → List (List ℕ) → Option Filtering) → KeepsFilterLaws m filtering → (given : List ℕ) (all : Bool) (stages : List (Stage S)) → AreAtStart m filtering stages → AreFed m given all stages
  all_start_fed filtering laws given all [] at = tt
  all_start_fed filtering laws given all (s ∷ stages) at = (start_fed filtering laws given all s at.0, all_start_fed filtering laws (written_by m s) (has_ended s) stages at.1)

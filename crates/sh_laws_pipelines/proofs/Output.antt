-- What the last stage of a pipeline has written.
use Rattle.std.specs.Prelude.{◌≡◌, ℕ, List, [], ◌∷◌, ◌++◌, Bool, true, false, Some}
use Rattle.std.proofs.Common.{refl, sym, ap, ◌∙◌, append_assoc, append-nil}
use Rattle.sh_laws_pipelines.proofs.Feeding.{AreFed, IsFed, IsUnderWay, Nothing, Part, begins_through, some_of}
use Rattle.sh_laws_pipelines.specs.Pipelines.{Stage, course_of, filterings_of, has_ended, last_end, last_written, output_of, status_of, written_by}
use Rattle.sh_stock.specs.Asking.{Meaning}
use Rattle.sh_stock.specs.Courses.{pending_is_certain}
use Rattle.sh_stock.specs.Filtering.{Begins, EndsWell, Filtering, KeepsParts, certain}
use Rattle.sh_stock.specs.declared.asking.Ask.{Ask}
use Rattle.sh_stock.specs.declared.asking.Ask.TheVariants.{Write, End}

-- what a filter is certain to write is a beginning of its output for the whole input
certain_begins : (f : Filtering) (ended : Bool) (read given whole : List ℕ) (all : Bool) → KeepsParts f → Begins read whole → (all ≡ true → given ≡ whole) → (ended ≡ true → (all ≡ true) × (read ≡ given)) → Begins (certain f ended read) (f.output whole)
certain_begins f true read given whole all parts begins same end =
    let e = end refl in
    let full : read ≡ whole = e.1 ∙ same e.0 in
    ([], append-nil (f.output read) ∙ ap f.output full)
certain_begins f false read given whole all parts begins same end =
    let b = parts.output read begins.0 in
    (b.0, b.1 ∙ ap f.output begins.1)

-- what a filter ends with is for the whole input
ends_for_whole : (f : Filtering) (ended : Bool) (status : ℕ) (read written given whole : List ℕ) (all : Bool) → EndsWell f ended status read written → Begins read whole → (all ≡ true → given ≡ whole) → (ended ≡ true → (all ≡ true) × (read ≡ given))
    → (f.output whole ≡ written) × (f.status whole ≡ status)
ends_for_whole f true status read written given whole all well begins same end =
    let e = end refl in
    let full : read ≡ whole = e.1 ∙ same e.0 in
    (ap f.output (sym full) ∙ well.0, ap f.status (sym full) ∙ well.1)
ends_for_whole f false status read written given whole all well begins same end =
    let w = well begins.0 in
    (ap f.output (sym begins.1) ∙ w.0, ap f.status (sym begins.1) ∙ w.1)

-- where nothing is written nothing is under way
none_gone : (ask : Ask) (gone : List ℕ) (status : ℕ) → IsUnderWay ask gone → ask ≡ End status → gone ≡ []
none_gone ask gone status (Nothing h) e = h
none_gone ask gone status (Part rest h) e = let both : Write (gone ++ rest) ≡ End status = sym h ∙ e in cc

module _ {S : Type 0} (m : Meaning S) where
  certain_by : (given : List ℕ) (all : Bool) (s : Stage S) → IsFed m given all s → IsUnderWay (course_of m s).ask s.gone
      → Begins (written_by m s) (certain s.filtering (course_of m s).ended (course_of m s).read)
  certain_by given all s fed (Nothing h) =
      let c = course_of m s in
      let b = (fed.filter s.answers fed.fits).written in
      (b.0, ap (λ (l : List ℕ). (c.written ++ l) ++ b.0) h ∙ (ap (λ (l : List ℕ). l ++ b.0) (append-nil c.written) ∙ b.1))
  certain_by given all s fed (Part rest h) =
      let c = course_of m s in
      let b = pending_is_certain m s.program s.filtering fed.filter s.answers fed.fits (s.gone ++ rest) h in
      (rest ++ b.0, sym (append_assoc (c.written ++ s.gone) rest b.0) ∙ (ap (λ (l : List ℕ). l ++ b.0) (append_assoc c.written s.gone rest) ∙ b.1))

  -- what a stage has written is a beginning of its output for the whole that its input is a beginning of
  stage_begins : (given whole : List ℕ) (all : Bool) (s : Stage S) → IsFed m given all s → Begins given whole → (all ≡ true → given ≡ whole) → Begins (written_by m s) (s.filtering.output whole)
  stage_begins given whole all s fed begins same =
      let c = course_of m s in
      begins_through (written_by m s) (certain s.filtering c.ended c.read) (s.filtering.output whole) (certain_by given all s fed fed.under_way)
      (certain_begins s.filtering c.ended c.read given whole all fed.parts (begins_through c.read given whole fed.read begins) same fed.end_of_file)

  stage_ends : (given whole : List ℕ) (all : Bool) (s : Stage S) (status : ℕ) → IsFed m given all s → Begins given whole → (all ≡ true → given ≡ whole) → s.end ≡ Some status
      → (s.filtering.output whole ≡ written_by m s) × (s.filtering.status whole ≡ status)
  stage_ends given whole all s status fed begins same h =
      let c = course_of m s in
      let asks = fed.end status h in
      let w = ends_for_whole s.filtering c.ended status c.read c.written given whole all ((fed.filter s.answers fed.fits).ends status asks) (begins_through c.read given whole fed.read begins) same fed.end_of_file in
      (w.0 ∙ (sym (append-nil c.written) ∙ ap (λ (l : List ℕ). c.written ++ l) (sym (none_gone c.ask s.gone status fed.under_way asks))), w.1)

  -- once it has ended it has written all of it
  stage_whole : (given whole : List ℕ) (all : Bool) (s : Stage S) → IsFed m given all s → Begins given whole → (all ≡ true → given ≡ whole) → has_ended s ≡ true → written_by m s ≡ s.filtering.output whole
  stage_whole given whole all s fed begins same h = let e = some_of s.end h in sym (stage_ends given whole all s e.0 fed begins same e.1).0

  -- ---- all stages
  pub last_begins : (given whole : List ℕ) (all : Bool) (stages : List (Stage S)) → AreFed m given all stages → Begins given whole → (all ≡ true → given ≡ whole) → Begins (last_written m given stages) (output_of (filterings_of stages) whole)
  last_begins given whole all [] fed begins same = begins
  last_begins given whole all (s ∷ stages) fed begins same =
      last_begins (written_by m s) (s.filtering.output whole) (has_ended s) stages fed.1 (stage_begins given whole all s fed.0 begins same) (stage_whole given whole all s fed.0 begins same)

  pub last_whole : (given whole : List ℕ) (all : Bool) (stages : List (Stage S)) (status : ℕ) → AreFed m given all stages → Begins given whole → (all ≡ true → given ≡ whole) → last_end stages ≡ Some status
      → last_written m given stages ≡ output_of (filterings_of stages) whole
  last_whole given whole all [] status fed begins same h = cc
  last_whole given whole all (s ∷ []) status fed begins same h = sym (stage_ends given whole all s status fed.0 begins same h).0
  last_whole given whole all (s ∷ t ∷ stages) status fed begins same h =
      last_whole (written_by m s) (s.filtering.output whole) (has_ended s) (t ∷ stages) status fed.1 (stage_begins given whole all s fed.0 begins same) (stage_whole given whole all s fed.0 begins same) h

  pub last_status : (given whole : List ℕ) (all : Bool) (stages : List (Stage S)) (status : ℕ) → AreFed m given all stages → Begins given whole → (all ≡ true → given ≡ whole) → last_end stages ≡ Some status
      → status_of (filterings_of stages) whole ≡ Some status
  last_status given whole all [] status fed begins same h = cc
  last_status given whole all (s ∷ []) status fed begins same h = ap (λ (n : ℕ). Some n) (stage_ends given whole all s status fed.0 begins same h).1
  last_status given whole all (s ∷ t ∷ stages) status fed begins same h =
      last_status (written_by m s) (s.filtering.output whole) (has_ended s) (t ∷ stages) status fed.1 (stage_begins given whole all s fed.0 begins same) (stage_whole given whole all s fed.0 begins same) h

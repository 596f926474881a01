-- What holds of the stages of a pipeline, and is kept by each of their steps.
use Rattle.std.specs.Prelude.{◌≡◌, ℕ, ◌≤◌, List, [], ◌∷◌, ◌++◌, length, Bool, true, is_some, Option, Some, None}
use Rattle.std.proofs.Common.{refl, sym, ap, ◌∙◌, subst, arith, zero-le, append_assoc, append-nil, length-append}
use Rattle.sh_laws_pipelines.specs.Pipelines.{Ends, Idles, Reads, ReadsEnd, Stage, StageStep, Stops, Writes, WritesAll, answered, course_of, has_ended, written_by}
use Rattle.sh_stock.specs.Asking.{Meaning}
use Rattle.sh_stock.specs.Filtering.{AllFit, Begins, Fits, IsFilter, KeepsParts, ended_after, read_after, written_after}
use Rattle.sh_stock.specs.declared.asking.Answer.{Answer}
use Rattle.sh_stock.specs.declared.asking.Answer.TheVariants.{Bytes, Done}
use Rattle.sh_stock.specs.declared.asking.Ask.{Ask}
use Rattle.sh_stock.specs.declared.asking.Ask.TheVariants.{Read, Write, Stop, Idle, End}

-- ---- beginnings
pub begins_itself : (xs : List ℕ) → Begins xs xs
begins_itself xs = ([], append-nil xs)

pub begins_more : (xs ys : List ℕ) → Begins xs (xs ++ ys)
begins_more xs ys = (ys, refl)

pub begins_through : (xs ys zs : List ℕ) → Begins xs ys → Begins ys zs → Begins xs zs
begins_through xs ys zs b c =
    (b.0 ++ c.0, sym (append_assoc xs b.0 c.0) ∙ ap (λ (l : List ℕ). l ++ c.0) b.1 ∙ c.1)

-- nothing begins with itself and a byte more
pub begins_no_shorter : (xs : List ℕ) (y : ℕ) (ys : List ℕ) → Begins (xs ++ y ∷ ys) xs → ⊥
begins_no_shorter xs y ys b =
    let all = ap length b.1 in
    let front = length-append (xs ++ y ∷ ys) b.0 in
    let back = length-append xs (y ∷ ys) in
    omega (arith, all, front, back)

-- ---- a write that is under way
pub data IsUnderWay (ask : Ask) (gone : List ℕ) : Type 0 where
  Nothing : gone ≡ [] → IsUnderWay ask gone
  Part : (rest : List ℕ) → ask ≡ Write (gone ++ rest) → IsUnderWay ask gone

-- what a stage has read is a beginning of what it was given. It has seen the end of file only where no more is to come, and it has read all
pub record IsFed {S : Type 0} (m : Meaning S) (given : List ℕ) (all : Bool) (s : Stage S) : Type 0 where
  pub filter : IsFilter m s.program s.filtering
  pub parts : KeepsParts s.filtering
  pub fits : AllFit m s.program s.answers
  pub under_way : IsUnderWay (course_of m s).ask s.gone
  pub read : Begins (course_of m s).read given
  pub end_of_file : (course_of m s).ended ≡ true → (all ≡ true) × ((course_of m s).read ≡ given)
  pub end : (status : ℕ) → s.end ≡ Some status → (course_of m s).ask ≡ End status

abbrev pub AreFed : {S : Type 0} → Meaning S → List ℕ → Bool → List (Stage S) → Type 0
AreFed m given all [] = Unit {0}
AreFed m given all (s ∷ stages) = IsFed m given all s × AreFed m (written_by m s) (has_ended s) stages

-- no more is to come where all came
abbrev pub StaysAll : List ℕ → Bool → List ℕ → Bool → Type 0
StaysAll given all more all' = all ≡ true → (all' ≡ true) × (given ≡ more)

pub some_of : (o : Option ℕ) → is_some o ≡ true → (status : ℕ) × (o ≡ Some status)
some_of None h = cc
some_of (Some status) h = (status, refl)

module _ {S : Type 0} (m : Meaning S) where
  -- what was given grows
  fed_more : (given more : List ℕ) (all all' : Bool) (s : Stage S) → Begins given more → StaysAll given all more all' → IsFed m given all s → IsFed m more all' s
  fed_more given more all all' s begins stays fed =
      record {
        filter = fed.filter;
        parts = fed.parts;
        fits = fed.fits;
        under_way = fed.under_way;
        read = begins_through (course_of m s).read given more fed.read begins;
        end_of_file = λ h. let e = fed.end_of_file h in let n = stays e.0 in (n.0, e.1 ∙ n.1);
        end = fed.end;
      }

  pub all_fed_more : (given more : List ℕ) (all all' : Bool) (stages : List (Stage S)) → Begins given more → StaysAll given all more all' → AreFed m given all stages → AreFed m more all' stages
  all_fed_more given more all all' [] begins stays fed = tt
  all_fed_more given more all all' (s ∷ stages) begins stays fed = (fed_more given more all all' s begins stays fed.0, fed.1)

  -- ---- what was asked for is answered
  written_more : (ask : Ask) (written : List ℕ) → Begins written (written_after written ask)
  written_more (Read count) written = begins_itself written
  written_more (Write bytes) written = begins_more written bytes
  written_more Stop written = begins_itself written
  written_more Idle written = begins_itself written
  written_more (End status) written = begins_itself written

  pub answer_goes_on : (ask : Ask) (written gone : List ℕ) → IsUnderWay ask gone → Begins (written ++ gone) (written_after written ask ++ [])
  answer_goes_on ask written gone (Nothing h) =
      let b = begins_through written (written_after written ask) (written_after written ask ++ []) (written_more ask written) (begins_more (written_after written ask) []) in
      (b.0, ap (λ (l : List ℕ). (written ++ l) ++ b.0) h ∙ (ap (λ (l : List ℕ). l ++ b.0) (append-nil written) ∙ b.1))
  answer_goes_on ask written gone (Part rest h) =
      (rest, append_assoc written gone rest ∙ (sym (append-nil (written ++ (gone ++ rest))) ∙ ap (λ (a : Ask). written_after written a ++ []) (sym h)))

  -- a stage that has ended asks for nothing else
  pub ended_asks : (given : List ℕ) (all : Bool) (s : Stage S) → IsFed m given all s → has_ended s ≡ true → (status : ℕ) × ((course_of m s).ask ≡ End status)
  ended_asks given all s fed h = let e = some_of s.end h in (e.0, fed.end e.0 e.1)

  answered_fed : (given : List ℕ) (all : Bool) (s : Stage S) (answer : Answer) → IsFed m given all s → ((status : ℕ) → (course_of m s).ask ≡ End status → ⊥)
      → Fits (course_of m s).ask (course_of m s).ended answer → Begins (read_after (course_of m s).read answer) given
      → (ended_after (course_of m s).ended answer ≡ true → (all ≡ true) × (read_after (course_of m s).read answer ≡ given))
      → IsFed m given all (answered s answer)
  answered_fed given all s answer fed ends fits read end =
      record {
        filter = fed.filter;
        parts = fed.parts;
        fits = (fits, fed.fits);
        under_way = Nothing refl;
        read = read;
        end_of_file = end;
        end = λ status h. absurd (ends status (fed.end status h));
      }

  -- ---- each step
  done_fed : (given : List ℕ) (all : Bool) (s : Stage S) → IsFed m given all s → ((status : ℕ) → (course_of m s).ask ≡ End status → ⊥) → Fits (course_of m s).ask (course_of m s).ended Done → IsFed m given all (answered s Done)
  done_fed given all s fed ends fits = answered_fed given all s Done fed ends fits fed.read fed.end_of_file

  fits_some : (given : List ℕ) (all : Bool) (s : Stage S) (count byte : ℕ) (bytes : List ℕ) → IsFed m given all s → (course_of m s).ask ≡ Read count → length (byte ∷ bytes) ≤ count
      → Begins ((course_of m s).read ++ byte ∷ bytes) given → Fits (course_of m s).ask (course_of m s).ended (Bytes (byte ∷ bytes))
  fits_some given all s count byte bytes fed asks few begins =
      let c = course_of m s in
      let more : c.ended ≡ true → (byte ∷ bytes) ≡ [] = λ h. absurd (begins_no_shorter c.read byte bytes (subst (λ (l : List ℕ). Begins (c.read ++ byte ∷ bytes) l) (sym (fed.end_of_file h).1) begins)) in
      subst (λ (a : Ask). Fits a c.ended (Bytes (byte ∷ bytes))) (sym asks) (few, more)

  some_end : (given : List ℕ) (all : Bool) (s : Stage S) (byte : ℕ) (bytes : List ℕ) → IsFed m given all s → Begins ((course_of m s).read ++ byte ∷ bytes) given
      → (course_of m s).ended ≡ true → (all ≡ true) × ((course_of m s).read ++ byte ∷ bytes ≡ given)
  some_end given all s byte bytes fed begins h =
      let c = course_of m s in
      absurd (begins_no_shorter c.read byte bytes (subst (λ (l : List ℕ). Begins (c.read ++ byte ∷ bytes) l) (sym (fed.end_of_file h).1) begins))

  writes_fed : (given : List ℕ) (all : Bool) (s : Stage S) (bytes rest : List ℕ) → IsFed m given all s → (course_of m s).ask ≡ Write (s.gone ++ (bytes ++ rest)) → IsFed m given all (record s { gone = s.gone ++ bytes })
  writes_fed given all s bytes rest fed asks =
      record {
        filter = fed.filter;
        parts = fed.parts;
        fits = fed.fits;
        under_way = Part rest (asks ∙ ap (λ (l : List ℕ). Write l) (sym (append_assoc s.gone bytes rest)));
        read = fed.read;
        end_of_file = fed.end_of_file;
        end = fed.end;
      }

  ends_fed : (given : List ℕ) (all : Bool) (s : Stage S) (status : ℕ) → IsFed m given all s → (course_of m s).ask ≡ End status → IsFed m given all (record s { end = Some status })
  ends_fed given all s status fed asks =
      record {
        filter = fed.filter;
        parts = fed.parts;
        fits = fed.fits;
        under_way = fed.under_way;
        read = fed.read;
        end_of_file = fed.end_of_file;
        end = λ other h. let same : status ≡ other = cc in asks ∙ ap (λ (n : ℕ). End n) same;
      }

  pub stage_fed : (given : List ℕ) (all : Bool) (s t : Stage S) → StageStep m given all s t → IsFed m given all s → IsFed m given all t
  stage_fed given all s t (Reads count byte bytes asks few begins) fed =
      answered_fed given all s (Bytes (byte ∷ bytes)) fed (λ status h. let both : Read count ≡ End status = sym asks ∙ h in cc) (fits_some given all s count byte bytes fed asks few begins) begins (some_end given all s byte bytes fed begins)
  stage_fed given all s t (ReadsEnd count asks whole no_more) fed =
      let c = course_of m s in
      let same : c.read ++ [] ≡ given = append-nil c.read ∙ whole in
      answered_fed given all s (Bytes []) fed (λ status h. let both : Read count ≡ End status = sym asks ∙ h in cc)
      (subst (λ (a : Ask). Fits a c.ended (Bytes [])) (sym asks) (zero-le, λ h. refl)) ([], append-nil (c.read ++ []) ∙ same) (λ h. (no_more, same))
  stage_fed given all s t (Writes bytes rest asks) fed = writes_fed given all s bytes rest fed asks
  stage_fed given all s t (WritesAll rest asks) fed =
      done_fed given all s fed (λ status h. let both : Write (s.gone ++ rest) ≡ End status = sym asks ∙ h in cc) (subst (λ (a : Ask). Fits a (course_of m s).ended Done) (sym asks) tt)
  stage_fed given all s t (Stops asks) fed =
      done_fed given all s fed (λ status h. let both : Stop ≡ End status = sym asks ∙ h in cc) (subst (λ (a : Ask). Fits a (course_of m s).ended Done) (sym asks) tt)
  stage_fed given all s t (Idles asks) fed =
      done_fed given all s fed (λ status h. let both : Idle ≡ End status = sym asks ∙ h in cc) (subst (λ (a : Ask). Fits a (course_of m s).ended Done) (sym asks) tt)
  stage_fed given all s t (Ends status asks) fed = ends_fed given all s status fed asks

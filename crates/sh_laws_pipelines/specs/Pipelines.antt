-- Pipelines of filters (2.9.2): the function that a pipeline is, its stages on their way, and their steps.
use Rattle.std.specs.Prelude.{◌≡◌, ℕ, ◌≤◌, List, [], ◌∷◌, ◌++◌, map, length, Bool, true, is_some, Option, Some, None}
use Rattle.sh_stock.specs.Asking.{Meaning}
use Rattle.sh_stock.specs.Filtering.{Begins, Course, Filtering, course}
use Rattle.sh_stock.specs.declared.asking.Answer.{Answer}
use Rattle.sh_stock.specs.declared.asking.Answer.TheVariants.{Bytes, Done}
use Rattle.sh_stock.specs.declared.asking.Ask.TheVariants.{Read, Write, Stop, Idle, End}

-- what a pipeline writes for its whole input: what each stage writes is the input of the next
abbrev pub output_of : List Filtering → List ℕ → List ℕ
output_of [] input = input
output_of (f ∷ fs) input = output_of fs (f.output input)

-- its exit status is that of its last command
abbrev pub status_of : List Filtering → List ℕ → Option ℕ
status_of [] input = None
status_of (f ∷ []) input = Some (f.status input)
status_of (f ∷ g ∷ gs) input = status_of (g ∷ gs) (f.output input)

-- a stage: the program of a name and operands, the answers that it has got, the latest first; how much has gone of the write that it asks
-- for; and its exit status, once it has ended by itself
pub record Stage (S : Type 0) : Type 0 where
  pub name : List ℕ
  pub operands : List (List ℕ)
  pub filtering : Filtering
  pub program : S
  pub answers : List Answer
  pub gone : List ℕ
  pub end : Option ℕ

abbrev pub course_of : {S : Type 0} → Meaning S → Stage S → Course S
course_of m s = course m s.program s.answers

-- all that has gone of what it writes
abbrev pub written_by : {S : Type 0} → Meaning S → Stage S → List ℕ
written_by m s = (course_of m s).written ++ s.gone

abbrev pub has_ended : {S : Type 0} → Stage S → Bool
has_ended s = is_some s.end

abbrev pub answered : {S : Type 0} → Stage S → Answer → Stage S
answered s answer = record s { answers = answer ∷ s.answers; gone = [] }

-- the stage is a filter that has taken no step
pub record IsAtStart {S : Type 0} (m : Meaning S) (filtering : List ℕ → List (List ℕ) → Option Filtering) (s : Stage S) : Type 0 where
  pub filter : filtering s.name s.operands ≡ Some s.filtering
  pub starts : m.start s.name s.operands ≡ Some s.program
  pub answers : s.answers ≡ []
  pub gone : s.gone ≡ []
  pub end : s.end ≡ None

abbrev pub AreAtStart : {S : Type 0} → Meaning S → (List ℕ → List (List ℕ) → Option Filtering) → List (Stage S) → Type 0
AreAtStart m filtering [] = Unit {0}
AreAtStart m filtering (s ∷ stages) = IsAtStart m filtering s × AreAtStart m filtering stages

-- a step of one stage, which has been given these bytes so far, and no more are to come where `complete` is true. It reads some of them that it
-- hasn't read; or the end of file, which is there once it has read all and no more are to come. Some of what it writes goes, or all that is
-- left of it. It is stopped and continued, idles, or ends
pub data StageStep {S : Type 0} (m : Meaning S) (given : List ℕ) (complete : Bool) (s : Stage S) : Stage S → Type 0 where
  Reads : (count byte : ℕ) (bytes : List ℕ) → (course_of m s).ask ≡ Read count → length (byte ∷ bytes) ≤ count
      → Begins ((course_of m s).read ++ byte ∷ bytes) given → StageStep m given complete s (answered s (Bytes (byte ∷ bytes)))
  ReadsEnd : (count : ℕ) → (course_of m s).ask ≡ Read count → (course_of m s).read ≡ given → complete ≡ true → StageStep m given complete s (answered s (Bytes []))
  Writes : (bytes rest : List ℕ) → (course_of m s).ask ≡ Write (s.gone ++ (bytes ++ rest)) → StageStep m given complete s (record s { gone = s.gone ++ bytes })
  WritesAll : (rest : List ℕ) → (course_of m s).ask ≡ Write (s.gone ++ rest) → StageStep m given complete s (answered s Done)
  Stops : (course_of m s).ask ≡ Stop → StageStep m given complete s (answered s Done)
  Idles : (course_of m s).ask ≡ Idle → StageStep m given complete s (answered s Done)
  Ends : (status : ℕ) → (course_of m s).ask ≡ End status → StageStep m given complete s (record s { end = Some status })

-- a step of a pipeline is one of any of its stages. A stage is given what the stage before it has written, and no more is to come once that has
-- ended
pub data Step {S : Type 0} (m : Meaning S) : List ℕ → Bool → List (Stage S) → List (Stage S) → Type 0 where
  Here : (given : List ℕ) (complete : Bool) (s t : Stage S) (stages : List (Stage S)) → StageStep m given complete s t → Step m given complete (s ∷ stages) (t ∷ stages)
  Behind : (given : List ℕ) (complete : Bool) (s : Stage S) (stages later : List (Stage S)) → Step m (written_by m s) (has_ended s) stages later → Step m given complete (s ∷ stages) (s ∷ later)

-- any number of steps, in any order; the first stage reads the whole input
pub data Steps {S : Type 0} (m : Meaning S) (input : List ℕ) : List (Stage S) → List (Stage S) → Type 0 where
  NoSteps : (stages : List (Stage S)) → Steps m input stages stages
  Then : (stages between later : List (Stage S)) → Steps m input stages between → Step m input true between later → Steps m input stages later

abbrev pub filterings_of : {S : Type 0} → List (Stage S) → List Filtering
filterings_of {S} stages = map (λ (s : Stage S). s.filtering) stages

-- what the last stage has written, and its exit status once it has ended by itself; a pipeline of no stages gives its input
abbrev pub last_written : {S : Type 0} → Meaning S → List ℕ → List (Stage S) → List ℕ
last_written m input [] = input
last_written m input (s ∷ stages) = last_written m (written_by m s) stages

abbrev pub last_end : {S : Type 0} → List (Stage S) → Option ℕ
last_end [] = None
last_end (s ∷ []) = s.end
last_end (s ∷ t ∷ stages) = last_end (t ∷ stages)

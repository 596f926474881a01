-- Filters: programs whose output and status are functions of their input alone, however it is cut into reads.
use Rattle.std.specs.Prelude.{◌≡◌, ℕ, ◌≤◌, List, [], ◌∷◌, ◌++◌, Bool, true, false, length, Option, Some, IsSome}
use Rattle.sh_stock.specs.Asking.{Meaning}
use Rattle.sh_stock.specs.declared.asking.Answer.{Answer}
use Rattle.sh_stock.specs.declared.asking.Answer.TheVariants.{Started, Bytes, Done, Failed}
use Rattle.sh_stock.specs.declared.asking.Ask.{Ask}
use Rattle.sh_stock.specs.declared.asking.Ask.TheVariants.{Read, Write, Stop, Idle, End}

-- what a filter writes for its whole input, the status it ends with then, and what it is certain to write,
-- whatever follows, once it has read a prefix of the input
pub record Filtering : Type 0 where
  pub output : List ℕ → List ℕ
  pub status : List ℕ → ℕ
  pub part : List ℕ → List ℕ

abbrev pub Begins : List ℕ → List ℕ → Type 0
Begins prefix whole = (rest : List ℕ) × (prefix ++ rest ≡ whole)

-- what is certain stays certain
pub record KeepsParts (f : Filtering) : Type 0 where
  pub part : (x y : List ℕ) → Begins (f.part x) (f.part (x ++ y))
  pub output : (x y : List ℕ) → Begins (f.part x) (f.output (x ++ y))

-- how far a program is: what it has read, whether to the end of file, what it has written, and what it asks now
pub record Course (S : Type 0) : Type 0 where
  pub program : S
  pub ask : Ask
  pub read : List ℕ
  pub ended : Bool
  pub written : List ℕ

abbrev pub read_after : List ℕ → Answer → List ℕ
read_after read Started = read
read_after read (Bytes bytes) = read ++ bytes
read_after read Done = read
read_after read Failed = read

-- a read of no bytes is the end of file
abbrev pub ended_after : Bool → Answer → Bool
ended_after ended Started = ended
ended_after ended (Bytes []) = true
ended_after ended (Bytes (byte ∷ bytes)) = ended
ended_after ended Done = ended
ended_after ended Failed = ended

abbrev pub written_after : List ℕ → Ask → List ℕ
written_after written (Read n) = written
written_after written (Write bytes) = written ++ bytes
written_after written Stop = written
written_after written Idle = written
written_after written (End status) = written

-- a program after its first turn
abbrev pub first_course : {S : Type 0} → Meaning S → S → Course S
first_course m program =
    record {
      program = (m.turn program Started).program;
      ask = (m.turn program Started).ask;
      read = [];
      ended = false;
      written = [];
    }

-- the course once the ask is done and answered
abbrev pub after : {S : Type 0} → Meaning S → Course S → Answer → Course S
after m c answer =
    record {
      program = (m.turn c.program answer).program;
      ask = (m.turn c.program answer).ask;
      read = read_after c.read answer;
      ended = ended_after c.ended answer;
      written = written_after c.written c.ask;
    }

-- the course after these answers; the list has the latest answer first
abbrev pub course : {S : Type 0} → Meaning S → S → List Answer → Course S
course m program [] = first_course m program
course m program (answer ∷ answers) = after m (course m program answers) answer

-- the answers to a read that doesn't fail: any bytes, at most as many as it asks for; after the end of file
-- none
abbrev pub FitsRead : ℕ → Bool → Answer → Type 0
FitsRead n ended Started = ⊥
FitsRead n ended (Bytes bytes) = (length bytes ≤ n) × (ended ≡ true → bytes ≡ [])
FitsRead n ended Done = ⊥
FitsRead n ended Failed = ⊥

abbrev pub IsDone : Answer → Type 0
IsDone Started = ⊥
IsDone (Bytes bytes) = ⊥
IsDone Done = Unit {0}
IsDone Failed = ⊥

-- the answers to an ask that doesn't fail; an end has none
abbrev pub Fits : Ask → Bool → Answer → Type 0
Fits (Read n) ended answer = FitsRead n ended answer
Fits (Write bytes) ended answer = IsDone answer
Fits Stop ended answer = IsDone answer
Fits Idle ended answer = IsDone answer
Fits (End status) ended answer = ⊥

abbrev pub AllFit : {S : Type 0} → Meaning S → S → List Answer → Type 0
AllFit m program [] = Unit {0}
AllFit m program (answer ∷ answers) =
    Fits (course m program answers).ask (course m program answers).ended answer × AllFit m program answers

-- what is certain to be written: the whole output once the end of file was read
abbrev pub certain : Filtering → Bool → List ℕ → List ℕ
certain f true read = f.output read
certain f false read = f.part read

-- a filter that ends has written its output, and ends with its status. After the end of file these are for
-- what it read. Where it ends earlier, they are for every input that begins with what it read
abbrev pub EndsWell : Filtering → Bool → ℕ → List ℕ → List ℕ → Type 0
EndsWell f true status read written = (f.output read ≡ written) × (f.status read ≡ status)
EndsWell f false status read written =
    (y : List ℕ) → (f.output (read ++ y) ≡ written) × (f.status (read ++ y) ≡ status)

-- what holds of each course of a filter
pub record Holds {S : Type 0} (f : Filtering) (c : Course S) : Type 0 where
  pub written : Begins c.written (certain f c.ended c.read)
  pub ends : (status : ℕ) → c.ask ≡ End status → EndsWell f c.ended status c.read c.written

-- a program is a filter: however the input is cut into reads, as long as no ask fails
abbrev pub IsFilter : {S : Type 0} → Meaning S → S → Filtering → Type 0
IsFilter m program f = (answers : List Answer) → AllFit m program answers → Holds f (course m program answers)

-- the laws of filters, for the names and operands that make one
pub record KeepsFilterLaws {S : Type 0} (m : Meaning S) (filtering : List ℕ → List (List ℕ) → Option Filtering) : Type 0 where
  pub parts : (name : List ℕ) (operands : List (List ℕ)) (f : Filtering) → filtering name operands ≡ Some f → KeepsParts f
  pub starts : (name : List ℕ) (operands : List (List ℕ)) (f : Filtering) → filtering name operands ≡ Some f → IsSome (m.start name operands)
  pub filters : (name : List ℕ) (operands : List (List ℕ)) (f : Filtering) (program : S) → filtering name operands ≡ Some f → m.start name operands ≡ Some program → IsFilter m program f

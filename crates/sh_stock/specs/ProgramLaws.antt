-- The stock programs keep the laws of programs: a read asks for at least one byte, and a write has at least
-- one.
use Rattle.std.specs.Prelude.{ℕ, ◌≤◌, ◌&&◌, ◌++◌, List, [], ◌∷◌, Bool, true, false, not, length, if◌then◌else◌, decimal}
use Rattle.std.specs.List.{list_any}
use Rattle.std.proofs.Common.{arith, subst, length-append}
use Rattle.sh_stock.specs.Asking.{KeepsLaws}
use Rattle.sh_stock.specs.Lines.{contains, is_empty, is_newline, kept_lines, unfinished_line}
use Rattle.sh_stock.specs.Programs.{cat_turn, count_read, count_turn, ending_turn, ends, having_goes_on, having_read, having_turn, head_turn, program_turn, programs, readstop_read, readstop_turn, reads_one, spin_turn, stops, writes, writes_any, writing_turn, yes_turn}
use Rattle.sh_stock.specs.declared.asking.Answer.{Answer}
use Rattle.sh_stock.specs.declared.asking.Answer.TheVariants.{Started, Bytes, Done, Failed}
use Rattle.sh_stock.specs.declared.asking.Ask.{Ask}
use Rattle.sh_stock.specs.declared.asking.Ask.TheVariants.{Read, Write, Stop, Idle, End}
use Rattle.sh_stock.specs.declared.program.Search.{Search}
use Rattle.sh_stock.specs.declared.program.Program.{Program}
use Rattle.sh_stock.specs.declared.program.Program.TheVariants.{Ending, Writing, Cat, Yes, Spin, Head, Having, Count, ReadStop}

abbrev IsAllowed : Ask → Type 0
IsAllowed (Read n) = 1 ≤ n
IsAllowed (Write bytes) = 1 ≤ length bytes
IsAllowed Stop = Unit {0}
IsAllowed Idle = Unit {0}
IsAllowed (End status) = Unit {0}

any-allowed : (bytes : List ℕ) (next : Program) → IsAllowed (writes_any bytes next).ask
any-allowed [] next = tt
any-allowed (byte ∷ bytes) next = omega arith

ending-allowed : (status : ℕ) (answer : Answer) → IsAllowed (ending_turn status answer).ask
ending-allowed status Started = tt
ending-allowed status (Bytes bytes) = tt
ending-allowed status Done = tt
ending-allowed status Failed = tt

writing-allowed : (text : List ℕ) (answer : Answer) → IsAllowed (writing_turn text answer).ask
writing-allowed text Started = any-allowed text (Ending 0)
writing-allowed text (Bytes bytes) = any-allowed text (Ending 0)
writing-allowed text Done = any-allowed text (Ending 0)
writing-allowed text Failed = tt

cat-allowed : (answer : Answer) → IsAllowed (cat_turn answer).ask
cat-allowed Started = omega arith
cat-allowed (Bytes bytes) = any-allowed bytes Cat
cat-allowed Done = omega arith
cat-allowed Failed = tt

yes-allowed : (answer : Answer) → IsAllowed (yes_turn answer).ask
yes-allowed Started = omega arith
yes-allowed (Bytes bytes) = omega arith
yes-allowed Done = omega arith
yes-allowed Failed = tt

spin-allowed : (answer : Answer) → IsAllowed (spin_turn answer).ask
spin-allowed Started = tt
spin-allowed (Bytes bytes) = tt
spin-allowed Done = tt
spin-allowed Failed = tt

head-allowed : (lines : ℕ) (answer : Answer) → IsAllowed (head_turn lines answer).ask
head-allowed lines Started = omega arith
head-allowed lines (Bytes bytes) = any-allowed _ _
head-allowed lines Done = omega arith
head-allowed lines Failed = tt

-- an unfinished line that is written has bytes
last-allowed : (line : List ℕ) (holds : Bool) (status : ℕ) → IsAllowed (if not (is_empty line) && holds then writes line (Ending 0) else ends status).ask
last-allowed [] holds status = tt
last-allowed (byte ∷ bytes) true status = omega arith
last-allowed (byte ∷ bytes) false status = tt

goes_on-allowed : (search : Search) (kept : List ℕ) → IsAllowed (having_goes_on search kept).ask
goes_on-allowed search [] = omega arith
goes_on-allowed search (byte ∷ bytes) = omega arith

having_read-allowed : (search : Search) (bytes : List ℕ) → IsAllowed (having_read search bytes).ask
having_read-allowed search [] = last-allowed search.line (contains search.text search.line) (if search.found then 0 else 1)
having_read-allowed search (byte ∷ bytes) = goes_on-allowed (record search { line = unfinished_line search.line (byte ∷ bytes) }) (kept_lines search.text search.line (byte ∷ bytes))

having-allowed : (search : Search) (answer : Answer) → IsAllowed (having_turn search answer).ask
having-allowed search Started = omega arith
having-allowed search (Bytes bytes) = having_read-allowed search bytes
having-allowed search Done = omega arith
having-allowed search Failed = tt

count_read-allowed : (count : ℕ) (bytes : List ℕ) → IsAllowed (count_read count bytes).ask
count_read-allowed count [] = let whole = length-append (decimal count) (10 ∷ []) in omega arith
count_read-allowed count (byte ∷ bytes) = omega arith

count-allowed : (count : ℕ) (answer : Answer) → IsAllowed (count_turn count answer).ask
count-allowed count Started = omega arith
count-allowed count (Bytes bytes) = count_read-allowed count bytes
count-allowed count Done = omega arith
count-allowed count Failed = tt

by_newline-allowed : (line : List ℕ) (newline : Bool) → IsAllowed (if newline then stops (Writing line) else reads_one (ReadStop line)).ask
by_newline-allowed line true = tt
by_newline-allowed line false = omega arith

readstop_read-allowed : (line bytes : List ℕ) → IsAllowed (readstop_read line bytes).ask
readstop_read-allowed line [] = tt
readstop_read-allowed line (byte ∷ bytes) = by_newline-allowed (line ++ byte ∷ bytes) (list_any is_newline (byte ∷ bytes))

readstop-allowed : (line : List ℕ) (answer : Answer) → IsAllowed (readstop_turn line answer).ask
readstop-allowed line Started = omega arith
readstop-allowed line (Bytes bytes) = readstop_read-allowed line bytes
readstop-allowed line Done = omega arith
readstop-allowed line Failed = tt

program-allowed : (program : Program) (answer : Answer) → IsAllowed (program_turn program answer).ask
program-allowed (Ending status) answer = ending-allowed status answer
program-allowed (Writing text) answer = writing-allowed text answer
program-allowed Cat answer = cat-allowed answer
program-allowed Yes answer = yes-allowed answer
program-allowed Spin answer = spin-allowed answer
program-allowed (Head lines) answer = head-allowed lines answer
program-allowed (Having search) answer = having-allowed search answer
program-allowed (Count count) answer = count-allowed count answer
program-allowed (ReadStop line) answer = readstop-allowed line answer

pub programs-laws : KeepsLaws programs
programs-laws = record {
  reads = λ program answer n h. subst IsAllowed h (program-allowed program answer);
  writes = λ program answer bytes h. subst IsAllowed h (program-allowed program answer);
}

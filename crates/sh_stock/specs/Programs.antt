-- The stock programs: what each asks in its first turn, after a read (which gives no bytes at end of file),
-- after a write or a stop, and after a read or a write that failed.
use Rattle.std.specs.Prelude.{ℕ, List, [], ◌∷◌, ◌++◌, ◌+◌, ◌-◌, ◌^◌, true, false, ◌&&◌, ◌==◌, not, min, length, codes, decimal, Option, Some, None, if◌then◌else◌}
use Rattle.std.specs.List.{join_with_byte, list_any}
use Rattle.sh_base.specs.Decimals.{is_number, value_of}
use Rattle.std.specs.Str.{bytes_eq}
use Rattle.sh_stock.specs.Asking.{Meaning}
use Rattle.sh_stock.specs.Lines.{first_lines, newlines, unfinished_line, contains, kept_lines, is_empty, is_newline}
use Rattle.sh_stock.specs.declared.asking.Answer.{Answer}
use Rattle.sh_stock.specs.declared.asking.Answer.TheVariants.{Started, Bytes, Done, Failed}
use Rattle.sh_stock.specs.declared.asking.Ask.TheVariants.{Read, Write, Stop, Idle, End}
use Rattle.sh_stock.specs.declared.asking.Turn.{Turn}
use Rattle.sh_stock.specs.declared.name.Name.{Name}
use Rattle.sh_stock.specs.declared.name.Name.TheVariants as name
use Rattle.sh_stock.specs.declared.program.Search.{Search}
use Rattle.sh_stock.specs.declared.program.Program.{Program}
use Rattle.sh_stock.specs.declared.program.Program.TheVariants.{Ending, Writing, Cat, Yes, Spin, Head, Having, Count, ReadStop}

abbrev pub reads : Program → Turn Program
reads program = record { program = program; ask = Read 1024 }

abbrev pub reads_one : Program → Turn Program
reads_one program = record { program = program; ask = Read 1 }

abbrev pub writes : List ℕ → Program → Turn Program
writes bytes next = record { program = next; ask = Write bytes }

abbrev pub stops : Program → Turn Program
stops next = record { program = next; ask = Stop }

abbrev pub ends : ℕ → Turn Program
ends status = record { program = Ending status; ask = End status }

-- writes bytes; where there are none, ends with 0
abbrev pub writes_any : List ℕ → Program → Turn Program
writes_any [] next = ends 0
writes_any (byte ∷ bytes) next = writes (byte ∷ bytes) next

abbrev pub ending_turn : ℕ → Answer → Turn Program
ending_turn status Started = ends status
ending_turn status (Bytes bytes) = ends status
ending_turn status Done = ends status
ending_turn status Failed = ends 1

-- writes a text, if it has bytes, and ends with 0
abbrev pub writing_turn : List ℕ → Answer → Turn Program
writing_turn text Started = writes_any text (Ending 0)
writing_turn text (Bytes bytes) = writes_any text (Ending 0)
writing_turn text Done = writes_any text (Ending 0)
writing_turn text Failed = ends 1

-- writes what it read
abbrev pub cat_turn : Answer → Turn Program
cat_turn Started = reads Cat
cat_turn (Bytes bytes) = writes_any bytes Cat
cat_turn Done = reads Cat
cat_turn Failed = ends 1

-- writes `y` and a newline for ever
abbrev pub yes_turn : Answer → Turn Program
yes_turn Started = writes (codes "y\n") Yes
yes_turn (Bytes bytes) = writes (codes "y\n") Yes
yes_turn Done = writes (codes "y\n") Yes
yes_turn Failed = ends 1

abbrev pub idles : Turn Program
idles = record { program = Spin; ask = Idle }

-- idle for ever
abbrev pub spin_turn : Answer → Turn Program
spin_turn Started = idles
spin_turn (Bytes bytes) = idles
spin_turn Done = idles
spin_turn Failed = ends 1

-- head with this many lines left to write
abbrev pub head_of : ℕ → Program
head_of lines = if lines == 0 then Ending 0 else Head lines

-- writes up to and including the newline of the last line that is left, and then ends
abbrev pub head_turn : ℕ → Answer → Turn Program
head_turn lines Started = reads (Head lines)
head_turn lines (Bytes bytes) = writes_any (first_lines lines bytes) (head_of (lines - newlines bytes))
head_turn lines Done = reads (Head lines)
head_turn lines Failed = ends 1

-- having writes lines, if there are any, and reads on
abbrev pub having_goes_on : Search → List ℕ → Turn Program
having_goes_on search [] = reads (Having search)
having_goes_on search (byte ∷ bytes) = writes (byte ∷ bytes) (Having (record search { found = true }))

-- at end of file an unfinished line that contains the text is written without a newline
abbrev pub having_ends : Search → Turn Program
having_ends search =
    if not (is_empty search.line) && contains search.text search.line
    then writes search.line (Ending 0)
    else ends (if search.found then 0 else 1)

abbrev pub having_read : Search → List ℕ → Turn Program
having_read search [] = having_ends search
having_read search (byte ∷ bytes) =
    having_goes_on (record search { line = unfinished_line search.line (byte ∷ bytes) }) (kept_lines search.text search.line (byte ∷ bytes))

abbrev pub having_turn : Search → Answer → Turn Program
having_turn search Started = reads (Having search)
having_turn search (Bytes bytes) = having_read search bytes
having_turn search Done = reads (Having search)
having_turn search Failed = ends 1

-- the greatest number that `count` writes
abbrev pub count_limit : ℕ
count_limit = 2 ^ 128 - 1

abbrev pub count_text : ℕ → List ℕ
count_text count = decimal count ++ 10 ∷ []

abbrev pub count_read : ℕ → List ℕ → Turn Program
count_read count [] = writes (count_text count) (Ending 0)
count_read count (byte ∷ bytes) = reads (Count (min count_limit (count + length (byte ∷ bytes))))

abbrev pub count_turn : ℕ → Answer → Turn Program
count_turn count Started = reads (Count count)
count_turn count (Bytes bytes) = count_read count bytes
count_turn count Done = reads (Count count)
count_turn count Failed = ends 1

-- readstop with its line so far, when it has read these bytes
abbrev pub readstop_read : List ℕ → List ℕ → Turn Program
readstop_read line [] = stops (Writing line)
readstop_read line (byte ∷ bytes) =
    if list_any is_newline (byte ∷ bytes)
    then stops (Writing (line ++ byte ∷ bytes))
    else reads_one (ReadStop (line ++ byte ∷ bytes))

-- reads a line byte by byte, asks to be stopped, and when continued writes the line
abbrev pub readstop_turn : List ℕ → Answer → Turn Program
readstop_turn line Started = reads_one (ReadStop line)
readstop_turn line (Bytes bytes) = readstop_read line bytes
readstop_turn line Done = reads_one (ReadStop line)
readstop_turn line Failed = ends 1

abbrev pub program_turn : Program → Answer → Turn Program
program_turn (Ending status) answer = ending_turn status answer
program_turn (Writing text) answer = writing_turn text answer
program_turn Cat answer = cat_turn answer
program_turn Yes answer = yes_turn answer
program_turn Spin answer = spin_turn answer
program_turn (Head lines) answer = head_turn lines answer
program_turn (Having search) answer = having_turn search answer
program_turn (Count count) answer = count_turn count answer
program_turn (ReadStop line) answer = readstop_turn line answer

-- the program that wrong operands give
abbrev pub usage_error : Program
usage_error = Ending 2

-- a program that takes no operands, started with these
abbrev pub alone : Program → List (List ℕ) → Program
alone program [] = program
alone program (operand ∷ operands) = usage_error

abbrev pub echo_text : List (List ℕ) → List ℕ
echo_text operands = join_with_byte 32 operands ++ 10 ∷ []

-- head -n NUMBER
abbrev pub head_started_by : List ℕ → List ℕ → Program
head_started_by option number =
    if bytes_eq option (codes "-n") && is_number number then head_of (value_of number) else usage_error

abbrev pub head_started : List (List ℕ) → Program
head_started [] = usage_error
head_started (option ∷ []) = usage_error
head_started (option ∷ number ∷ []) = head_started_by option number
head_started (option ∷ number ∷ other ∷ others) = usage_error

-- having TEXT
abbrev pub having_started : List (List ℕ) → Program
having_started [] = usage_error
having_started (text ∷ []) = Having (record { text = text; line = []; found = false })
having_started (text ∷ other ∷ others) = usage_error

abbrev pub program_of : Name → List (List ℕ) → Program
program_of name.Cat operands = alone Cat operands
program_of name.Echo operands = Writing (echo_text operands)
program_of name.True operands = alone (Ending 0) operands
program_of name.False operands = alone (Ending 1) operands
program_of name.Yes operands = alone Yes operands
program_of name.Spin operands = alone Spin operands
program_of name.Head operands = head_started operands
program_of name.Having operands = having_started operands
program_of name.Count operands = alone (Count 0) operands
program_of name.ReadStop operands = alone (ReadStop []) operands

abbrev pub started_by : Option Name → List (List ℕ) → Option Program
started_by None operands = None
started_by (Some name) operands = Some (program_of name operands)

-- the program of a name
abbrev pub name_of : List ℕ → Option Name
name_of word =
    if bytes_eq word (codes "cat") then Some name.Cat
    else if bytes_eq word (codes "echo") then Some name.Echo
    else if bytes_eq word (codes "true") then Some name.True
    else if bytes_eq word (codes "false") then Some name.False
    else if bytes_eq word (codes "yes") then Some name.Yes
    else if bytes_eq word (codes "spin") then Some name.Spin
    else if bytes_eq word (codes "head") then Some name.Head
    else if bytes_eq word (codes "having") then Some name.Having
    else if bytes_eq word (codes "count") then Some name.Count
    else if bytes_eq word (codes "readstop") then Some name.ReadStop
    else None

abbrev pub programs : Meaning Program
programs = record { start = λ word operands. started_by (name_of word) operands; turn = program_turn }

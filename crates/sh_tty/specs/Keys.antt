-- What each key does in canonical input (XBD 11.1.6, 11.1.9).
use Rattle.std.specs.Prelude.{ℕ, ◌-◌, List, [], ◌∷◌, ◌++◌, Bool, ◌==◌, ◌||◌, nat_lt, nat_le, length, take, drop, Option, Some, None, if◌then◌else◌}
use Rattle.sh_signal.specs.declared.signal.Signal.{Signal}
use Rattle.sh_signal.specs.declared.signal.Signal.TheVariants as signal
use Rattle.sh_tty.specs.declared.key.SignalKey.{SignalKey}
use Rattle.sh_tty.specs.declared.key.SignalKey.TheVariants.{Interrupt, Quit, Suspend}
use Rattle.sh_tty.specs.declared.key.Key.{Key}
use Rattle.sh_tty.specs.declared.key.Key.TheVariants.{Newline, EndOfFile, Erase, Raise, Text, Dropped}
use Rattle.sh_tty.specs.declared.entry.Entry.{Entry}
use Rattle.sh_tty.specs.declared.entry.Entry.TheVariants as entry

-- tab, and bytes from 20 (hexadecimal) up, are text; other control bytes are dropped
abbrev pub text_or_dropped : ℕ → Key
text_or_dropped b = if b == 9 || nat_le 32 b then Text b else Dropped

-- newline, EOF 04, ERASE 7f, INTR 03, QUIT 1c, SUSP 1a
abbrev pub key_of : ℕ → Key
key_of b =
    if b == 10 then Newline
    else if b == 4 then EndOfFile
    else if b == 127 then Erase
    else if b == 3 then Raise Interrupt
    else if b == 28 then Raise Quit
    else if b == 26 then Raise Suspend
    else text_or_dropped b

-- INTR raises SIGINT, QUIT SIGQUIT and SUSP SIGTSTP
abbrev pub raised_by : SignalKey → Signal
raised_by Interrupt = signal.Interrupt
raised_by Quit = signal.Quit
raised_by Suspend = signal.TerminalStop

abbrev pub signal_of : Key → Option Signal
signal_of Newline = None
signal_of EndOfFile = None
signal_of Erase = None
signal_of (Raise key) = Some (raised_by key)
signal_of (Text b) = None
signal_of Dropped = None

-- how many bytes a line may have before its newline (MAX_CANON)
abbrev pub line_limit : ℕ
line_limit = 4095

abbrev pub has_room : List ℕ → Bool
has_room line = nat_lt (length line) line_limit

-- a signal key is echoed as `^`, its letter and a newline
abbrev pub signal_echo : SignalKey → List ℕ
signal_echo Interrupt = 94 ∷ 67 ∷ 10 ∷ []
signal_echo Quit = 94 ∷ 92 ∷ 10 ∷ []
signal_echo Suspend = 94 ∷ 90 ∷ 10 ∷ []

-- what the terminal shows of a key, where this is the line so far
abbrev pub echo : Key → List ℕ → List ℕ
echo Newline line = 10 ∷ []
echo EndOfFile line = []
echo Erase line = if length line == 0 then [] else 8 ∷ 32 ∷ 8 ∷ []
echo (Raise key) line = signal_echo key
echo (Text b) line = if has_room line then b ∷ [] else []
echo Dropped line = []

-- the line that is being typed, after a key
abbrev pub line_after : Key → List ℕ → List ℕ
line_after Newline line = []
line_after EndOfFile line = []
line_after Erase line = take (length line - 1) line
line_after (Raise key) line = line
line_after (Text b) line = if has_room line then line ++ b ∷ [] else line
line_after Dropped line = line

-- what a key hands over: a newline, the line with it; key 04, the line so far, or an end of file where that
-- is empty
abbrev pub new_entries : Key → List ℕ → List Entry
new_entries Newline line = entry.Line (line ++ 10 ∷ []) ∷ []
new_entries EndOfFile line = if length line == 0 then entry.EndOfFile ∷ [] else entry.Line line ∷ []
new_entries Erase line = []
new_entries (Raise key) line = []
new_entries (Text b) line = []
new_entries Dropped line = []

-- what is left of the entries after a read of up to n bytes: it takes from the first line, or an end of file
abbrev pub entries_after_read : ℕ → List Entry → List Entry
entries_after_read n [] = []
entries_after_read n (entry.EndOfFile ∷ entries) = entries
entries_after_read n (entry.Line bytes ∷ entries) = if nat_le (length bytes) n then entries else entry.Line (drop n bytes) ∷ entries

-- the bytes that such a read gets, if it need not wait
abbrev pub read_of : ℕ → List Entry → Option (List ℕ)
read_of n [] = None
read_of n (entry.EndOfFile ∷ entries) = Some []
read_of n (entry.Line bytes ∷ entries) = Some (take n bytes)

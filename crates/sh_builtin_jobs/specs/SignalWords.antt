-- The signals that words of `kill` name (XCU kill, OPTIONS), and the lines by which it lists them.
use Rattle.std.specs.Prelude.{ℕ, zero, suc, ◌-◌, List, [], ◌∷◌, ◌++◌, ◌==◌, Option, Some, None, Result, Ok, Err, codes, map, if◌then◌else◌}
use Rattle.std.specs.Char.{to_ascii_uppercase}
use Rattle.std.specs.Option.{option_or}
use Rattle.std.specs.Str.{bytes_eq}
use Rattle.sh_base.specs.Decimals.{number_of}
use Rattle.sh_builtin_environment.specs.declared.outcome.BuiltinFault.{BuiltinFault}
use Rattle.sh_builtin_environment.specs.declared.outcome.BuiltinFault.TheVariants.{BadName}
use Rattle.sh_signal.specs.Signals.{name_of, signal_with_name, signal_with_number, signals}
use Rattle.sh_signal.specs.declared.signal.Signal.{Signal}

-- what is sent: a signal, or nothing where it is 0
abbrev pub Sent : Type 0
Sent = Result (Option Signal) BuiltinFault

-- a name without SIG, in letters of either case
abbrev pub signal_named : List ℕ → Option Signal
signal_named name = signal_with_name (map to_ascii_uppercase name)

abbrev pub known_signal : (word : List ℕ) → Option Signal → Sent
known_signal word None = Err (BadName word)
known_signal word (Some signal) = Ok (Some signal)

-- ---- -s NAME
abbrev pub sent_by_name : (word name : List ℕ) → Sent
sent_by_name word name = if bytes_eq name (codes "0") then Ok None else known_signal word (signal_named name)

-- ---- -N
abbrev pub sent_by_number : (word : List ℕ) → ℕ → Sent
sent_by_number word number = if number == 0 then Ok None else known_signal word (signal_with_number number)

-- ---- -NAME; else what is behind an s is the argument of -s
abbrev pub sent_attached : (word text : List ℕ) → Sent
sent_attached word [] = Err (BadName word)
sent_attached word (byte ∷ name) = if byte == 115 then sent_by_name word name else Err (BadName word)

abbrev pub sent_by_text : (word text : List ℕ) → Option Signal → Sent
sent_by_text word text None = sent_attached word text
sent_by_text word text (Some signal) = Ok (Some signal)

abbrev pub sent_by : (word text : List ℕ) → Option ℕ → Sent
sent_by word text None = sent_by_text word text (signal_named text)
sent_by word text (Some number) = sent_by_number word number

-- an option of a hyphen and this text
abbrev pub sent_by_option : (word text : List ℕ) → Sent
sent_by_option word text = sent_by word text (number_of text)

-- ---- -l N: the number of a signal, or the exit status of a process that it ended, which is 128 more
abbrev pub signal_of_status : ℕ → Option Signal
signal_of_status status = option_or (signal_with_number status) (signal_with_number (status - 128))

-- ---- the lines of -l
abbrev pub signal_line : Signal → List ℕ
signal_line signal = name_of signal ++ 10 ∷ []

abbrev pub lines_of : List Signal → List ℕ
lines_of [] = []
lines_of (signal ∷ others) = signal_line signal ++ lines_of others

-- those of the signals with numbers below one
abbrev pub line_numbered : Option Signal → List ℕ
line_numbered None = []
line_numbered (Some signal) = signal_line signal

abbrev pub lines_below : ℕ → List ℕ
lines_below zero = []
lines_below (suc number) = lines_below number ++ line_numbered (signal_with_number number)

-- all of them, in the order of their numbers
unfoldable pub signal_lines : List ℕ
signal_lines = lines_of signals

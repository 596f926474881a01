-- The file of events: lines `run K [N]`, `next [N]`, `key HH` and `type TEXT`. Empty lines are skipped, and the last newline may be missing.
use Rattle.std.specs.Prelude.{ℕ, ◌+◌, ◌-◌, ◌*◌, List, [], ◌∷◌, ◌++◌, ◌&&◌, if◌then◌else◌, Bool, Option, Some, None, Result, Ok, Err, codes, drop, length, map, nat_le, nat_lt, replicate, option_map, take}
use Rattle.std.specs.List.{list_all}
use Rattle.std.specs.Str.{bytes_eq}
use Rattle.std.specs.Char.{is_ascii_digit}
use Rattle.sh_base.specs.Decimals.{at_most, value_of}
use Rattle.psh_common.specs.Lines.{parts}
use Rattle.sh_exec.specs.declared.event.Event.{Event}
use Rattle.sh_exec.specs.declared.event.Event.TheVariants.{Run, Next, Key}
use Rattle.psh_common.specs.declared.events.Turns.{Turns}
use Rattle.psh_common.specs.declared.events.EventFault.{EventFault}
use Rattle.psh_common.specs.declared.events.EventFault.TheVariants.{BadEvent}

-- a number of one to ten decimal digits, of at most this value
abbrev pub number : ℕ → List ℕ → Option ℕ
number most digits =
    if nat_lt 0 (length digits) && (nat_le (length digits) 10 && list_all is_ascii_digit digits) then at_most most (value_of digits) else None

-- K, which place: from 0 to 2147483647
abbrev pub place_of : List ℕ → Option ℕ
place_of digits = number 2147483647 digits

abbrev pub positive : Option ℕ → Option ℕ
positive None = None
positive (Some n) = if nat_lt 0 n then Some n else None

-- N, how often: from 1 to 1000000
abbrev pub times_of : List ℕ → Option ℕ
times_of digits = positive (number 1000000 digits)

abbrev pub so_often : Event → Option ℕ → Option Turns
so_often event None = None
so_often event (Some n) = Some (record { event = event; times = n })

abbrev pub run_so_often : Option ℕ → Option ℕ → Option Turns
run_so_often None times = None
run_so_often (Some place) times = so_often (Run place) times

-- what follows `run`
abbrev pub run_turns : List (List ℕ) → Option Turns
run_turns [] = None
run_turns (k ∷ []) = run_so_often (place_of k) (Some 1)
run_turns (k ∷ n ∷ []) = run_so_often (place_of k) (times_of n)
run_turns (k ∷ n ∷ word ∷ words) = None

-- what follows `next`
abbrev pub next_turns : List (List ℕ) → Option Turns
next_turns [] = so_often Next (Some 1)
next_turns (n ∷ []) = so_often Next (times_of n)
next_turns (n ∷ word ∷ words) = None

-- what a hexadecimal digit of either case stands for
abbrev pub digit_of : ℕ → Option ℕ
digit_of b =
    if is_ascii_digit b then Some (b - 48)
    else if nat_le 97 b && nat_le b 102 then Some (b - 87)
    else if nat_le 65 b && nat_le b 70 then Some (b - 55)
    else None

abbrev pub key_once : ℕ → Turns
key_once byte = record { event = Key byte; times = 1 }

abbrev pub key_with : Option ℕ → Option ℕ → Option Turns
key_with None low = None
key_with (Some high) None = None
key_with (Some high) (Some low) = Some (key_once (16 * high + low))

-- HH, a byte in two hexadecimal digits
abbrev pub key_of : List ℕ → Option Turns
key_of [] = None
key_of (high ∷ []) = None
key_of (high ∷ low ∷ []) = key_with (digit_of high) (digit_of low)
key_of (high ∷ low ∷ more ∷ digits) = None

-- what follows `key`
abbrev pub key_turns : List (List ℕ) → Option Turns
key_turns [] = None
key_turns (digits ∷ []) = key_of digits
key_turns (digits ∷ word ∷ words) = None

abbrev pub named_turns : List (List ℕ) → Option Turns
named_turns [] = None
named_turns (name ∷ words) =
    if bytes_eq name (codes "run") then run_turns words
    else if bytes_eq name (codes "next") then next_turns words
    else if bytes_eq name (codes "key") then key_turns words
    else None

-- the event of a line, and how often it comes; one space is between two words
abbrev pub turns_of : List ℕ → Option Turns
turns_of line = named_turns (parts 32 line)

-- ---- all lines
abbrev pub Outcome : Type 0
Outcome = Result (List Turns) EventFault

abbrev pub behind : List Turns → Outcome → Outcome
behind all (Ok others) = Ok (all ++ others)
behind all (Err fault) = Err fault

-- `type TEXT`: each byte after the one space is a key
abbrev pub is_typed : List ℕ → Bool
is_typed line = bytes_eq (take 5 line) (codes "type ")

abbrev pub typed_turns : List ℕ → List Turns
typed_turns text = map key_once text

abbrev pub named_line : List ℕ → Option (List Turns)
named_line line = if is_typed line then Some (typed_turns (drop 5 line)) else option_map (λ turns. turns ∷ []) (turns_of line)

-- what a line has: nothing where it is empty, else one event, or the keys that are typed
abbrev pub line_turns : List ℕ → Option (List Turns)
line_turns [] = Some []
line_turns (b ∷ text) = named_line (b ∷ text)

abbrev pub with_line : ℕ → Option (List Turns) → Outcome → Outcome
with_line line None others = Err (BadEvent line)
with_line line (Some all) others = behind all others

-- how many bytes a line has, with its newline where another line follows
abbrev pub size_of : List ℕ → List (List ℕ) → ℕ
size_of text [] = length text
size_of text (next ∷ texts) = length text + 1

-- the events of lines, after so many lines and so many bytes; or the first line that is no event, or that has
-- a byte after the first 2^28 (268435456). Lines are counted from 1
abbrev pub events_in : ℕ → ℕ → List (List ℕ) → Outcome
events_in before place [] = Ok []
events_in before place (text ∷ texts) =
    if nat_lt 268435456 (place + size_of text texts) then Err (BadEvent (before + 1))
    else with_line (before + 1) (line_turns text) (events_in (before + 1) (place + size_of text texts) texts)

-- the events of a file, or the first line that is no event
unfoldable pub events_of : List ℕ → Outcome
events_of bytes = events_in 0 0 (parts 10 bytes)

-- each event so often
abbrev pub each_event : List Turns → List Event
each_event [] = []
each_event (turns ∷ all) = replicate turns.times turns.event ++ each_event all

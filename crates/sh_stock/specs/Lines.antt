-- Lines of bytes (XBD 3.185): each ends with a newline, except a last one that isn't finished.
use Rattle.std.specs.Prelude.{◌≡◌, ℕ, map, List, [], ◌∷◌, ◌++◌, ◌+◌, Bool, true, false, ◌||◌, ◌==◌, nat_eq, ◌-◌, if◌then◌else◌}
use Rattle.std.specs.List.{starts_with, filter}
use Rattle.std.specs.List.{flat_map}

abbrev pub is_newline : ℕ → Bool
is_newline byte = byte == 10

abbrev pub is_empty : List ℕ → Bool
is_empty [] = true
is_empty (byte ∷ bytes) = false

-- how many newlines there are
abbrev pub newlines : List ℕ → ℕ
newlines [] = 0
newlines (byte ∷ bytes) = if is_newline byte then newlines bytes + 1 else newlines bytes

-- the bytes up to and including the newline that ends line n; all bytes where fewer lines end
abbrev pub first_lines : ℕ → List ℕ → List ℕ
first_lines n [] = []
first_lines n (byte ∷ bytes) =
    if n == 0 then [] else byte ∷ first_lines (if is_newline byte then n - 1 else n) bytes

-- the lines that are whole once these bytes follow the unfinished line `line`, without their newlines
abbrev pub whole_lines : List ℕ → List ℕ → List (List ℕ)
whole_lines line [] = []
whole_lines line (byte ∷ bytes) =
    if is_newline byte then line ∷ whole_lines [] bytes else whole_lines (line ++ byte ∷ []) bytes

-- the line that is unfinished then
abbrev pub unfinished_line : List ℕ → List ℕ → List ℕ
unfinished_line line [] = line
unfinished_line line (byte ∷ bytes) =
    if is_newline byte then unfinished_line [] bytes else unfinished_line (line ++ byte ∷ []) bytes

-- whether a text is somewhere in a line
abbrev pub contains : List ℕ → List ℕ → Bool
contains text [] = is_empty text
contains text (byte ∷ bytes) = starts_with nat_eq (byte ∷ bytes) text || contains text bytes

-- a line with its newline
abbrev pub with_newline : List ℕ → List ℕ
with_newline line = line ++ 10 ∷ []

-- the lines that contain a text, of those that are whole once these bytes follow the unfinished line `line`
abbrev pub kept_lines : List ℕ → List ℕ → List ℕ → List ℕ
kept_lines text line bytes = flat_map with_newline (filter (contains text) (whole_lines line bytes))

-- the unfinished line, if there is one
abbrev pub last_of : List ℕ → List (List ℕ)
last_of [] = []
last_of (byte ∷ bytes) = (byte ∷ bytes) ∷ []

-- the lines where bytes follow the unfinished line `line`; each has its newline, except an unfinished last
-- one
abbrev pub lines_behind : List ℕ → List ℕ → List (List ℕ)
lines_behind line bytes = map with_newline (whole_lines line bytes) ++ last_of (unfinished_line line bytes)

-- a text is a part of a line
abbrev pub IsPart : List ℕ → List ℕ → Type 0
IsPart text line = (before : List ℕ) × (after : List ℕ) × (before ++ (text ++ after) ≡ line)

-- no line has a newline inside
abbrev pub HaveNone : List (List ℕ) → Type 0
HaveNone [] = Unit {0}
HaveNone (line ∷ lines) = (newlines line ≡ 0) × HaveNone lines

-- the lines without their newlines
abbrev pub contents : List ℕ → List (List ℕ)
contents bytes = whole_lines [] bytes ++ last_of (unfinished_line [] bytes)

-- Here-documents (XCU 2.7.4): their delimiters, and where their bodies end.
use Rattle.std.specs.Prelude.{ℕ, Bool, true, false, ◌&&◌, not, nat_eq, List, [], ◌∷◌, ◌++◌, Option, Some, None, if◌then◌else◌}
use Rattle.std.specs.List.{list_any}
use Rattle.std.specs.Str.{bytes_eq}
use Rattle.sh_token_pieces.specs.declared.character.Character.{Character}
use Rattle.sh_token_pieces.specs.declared.character.Character.TheVariants.{Plain, Quoted, Raw}
use Rattle.sh_token_pieces.specs.declared.operator.Operator.{Operator}
use Rattle.sh_token_pieces.specs.declared.piece.Piece.{Piece}
use Rattle.sh_token_pieces.specs.declared.piece.Piece.TheVariants.{Escaped, SingleQuoted, DoubleQuotesOpen, DoubleQuotesClose}
use Rattle.sh_token_pieces.specs.declared.here.Tabs.{Tabs}
use Rattle.sh_token_pieces.specs.declared.here.Delimiter.{Delimiter}
use Rattle.sh_token_pieces.specs.Spelling.{spell_piece}

-- the bytes of characters, joined lines left out
abbrev pub bytes_of : List Character → List ℕ
bytes_of [] = []
bytes_of (Plain b ∷ cs) = b ∷ bytes_of cs
bytes_of (Quoted b ∷ cs) = 92 ∷ b ∷ bytes_of cs
bytes_of (Raw b ∷ cs) = b ∷ bytes_of cs

abbrev pub source : Piece → List ℕ
source m = bytes_of (spell_piece m)

-- a piece without its quotes (2.6.7)
abbrev pub without_quotes : Piece → List ℕ
without_quotes (Escaped b) = b ∷ []
without_quotes (SingleQuoted bs) = bs
without_quotes DoubleQuotesOpen = []
without_quotes DoubleQuotesClose = []
without_quotes m = source m

abbrev pub is_quoting : Piece → Bool
is_quoting (Escaped b) = true
is_quoting (SingleQuoted bs) = true
is_quoting DoubleQuotesOpen = true
is_quoting m = false

-- a delimiter isn't expanded: it is the word as it is written, its quotes removed
abbrev pub delimiter_text : List Piece → List ℕ
delimiter_text [] = []
delimiter_text (m ∷ ms) = without_quotes m ++ delimiter_text ms

abbrev pub tabs_of : Operator → Option Tabs
tabs_of Operator.DoubleLess = Some Tabs.Kept
tabs_of Operator.DoubleLessDash = Some Tabs.Stripped
tabs_of o = None

abbrev pub delimiter_of : Tabs → List Piece → Delimiter
delimiter_of tabs ms = record { text = delimiter_text ms; is_quoted = list_any is_quoting ms; tabs = tabs }

-- bytes as lines, without their newlines; `line` is what came before on the first line, and the last line is
-- unfinished
abbrev pub lines : List ℕ → List ℕ → List (List ℕ)
lines line [] = line ∷ []
lines line (b ∷ bs) = if nat_eq b 10 then line ∷ lines [] bs else lines (line ++ b ∷ []) bs

abbrev pub without_tabs : List ℕ → List ℕ
without_tabs [] = []
without_tabs (b ∷ bs) = if nat_eq b 9 then without_tabs bs else b ∷ bs

abbrev pub line_in : Tabs → List ℕ → List ℕ
line_in Tabs.Kept line = line
line_in Tabs.Stripped line = without_tabs line

-- the line is the delimiter alone
abbrev pub is_end_line : Delimiter → List ℕ → Bool
is_end_line d line = bytes_eq (line_in d.tabs line) d.text

-- the line ends with a backslash that no other backslash quotes: it is joined with the next one (XCU 2.2.1)
abbrev pub ends_escaped : List ℕ → Bool
ends_escaped [] = false
ends_escaped (b ∷ []) = nat_eq b 92
ends_escaped (b ∷ c ∷ bs) = if nat_eq b 92 then ends_escaped bs else ends_escaped (c ∷ bs)

-- in a body that is expanded such a line is joined with the next one, which then is no end line
abbrev pub joins_next : Delimiter → List ℕ → Bool
joins_next d line = not d.is_quoted && ends_escaped line

abbrev pub is_nothing : List (List ℕ) → Bool
is_nothing [] = true
is_nothing ([] ∷ []) = true
is_nothing ([] ∷ l ∷ ls) = false
is_nothing ((b ∷ bs) ∷ ls) = false

-- the lines are the bodies of these here-documents, each up to and with its end line; joined: the first line
-- is joined to the line before
abbrev pub are_bodies : List Delimiter → Bool → List (List ℕ) → Bool
are_bodies [] joined ls = is_nothing ls
are_bodies (d ∷ ds) joined [] = false
are_bodies (d ∷ ds) joined (l ∷ []) = false
are_bodies (d ∷ ds) joined (l ∷ k ∷ ls) =
    if not joined && is_end_line d l then are_bodies ds false (k ∷ ls) else are_bodies (d ∷ ds) (joins_next d l) (k ∷ ls)

-- Parts of texts.
use Rattle.std.specs.Prelude.{ℕ, ◌-◌, Bool, List, [], ◌∷◌, length, take, drop, if◌then◌else◌}
use Rattle.std.specs.Char.{is_ascii_digit}
use Rattle.sh_token_pieces.specs.declared.piece.Piece.{Piece}
use Rattle.sh_parse_words.specs.Places.{behind_piece}
use Rattle.sh_parse_words.specs.Backquotes.{without_escapes}

-- the bytes from a place up to another
abbrev pub text_between : List ℕ → ℕ → ℕ → List ℕ
text_between text start stop = take (stop - start) (drop start text)

-- the bytes without the first and the last
abbrev pub inside : List ℕ → List ℕ
inside bytes = take (length bytes - 2) (drop 1 bytes)

-- the text of the commands between backquotes, from the bytes with both backquotes; quoted: they are in
-- double quotes
abbrev pub backquotes_text : Bool → List ℕ → List ℕ
backquotes_text quoted bytes = without_escapes quoted (inside bytes)

-- the digits among the bytes: a number without its joined lines
abbrev pub digits_in : List ℕ → List ℕ
digits_in [] = []
digits_in (b ∷ bs) = if is_ascii_digit b then b ∷ digits_in bs else digits_in bs

-- what comes after pieces with which the bytes begin
abbrev pub behind_pieces : List Piece → List ℕ → List ℕ
behind_pieces [] bytes = bytes
behind_pieces (m ∷ ms) bytes = behind_pieces ms (behind_piece m bytes)

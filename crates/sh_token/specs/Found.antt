-- What the scanner finds in a text: its first token, or why there is none.
use Rattle.std.specs.Prelude.{true, ℕ, suc, ◌-◌, Bool, not, List, [], ◌∷◌, length, drop, reverse, position, Option, Some, None}
use Rattle.sh_token_pieces.specs.declared.piece.Piece.{Piece}
use Rattle.sh_token.specs.declared.token.TokenKind.{TokenKind}
use Rattle.sh_token_pieces.specs.Pieces.{is_gap}
use Rattle.sh_token.specs.Tokens.{word_kind}
use Rattle.sh_token.specs.FirstToken.{FirstToken, Found, Unfinished, DeepAt}
use Rattle.sh_token_pieces.specs.declared.context.Context.TheVariants.{Body}
use Rattle.sh_token.specs.Body.{BodyPieces, AllOf, OpenAt, TooDeepAt}
use Rattle.sh_token_scanner.specs.Run.{Scanned, Ended, Deep, Open, scan_of, scanned_in}

abbrev pub is_of_token : Piece → Bool
is_of_token m = not (is_gap m)

abbrev pub place_or : ℕ → Option ℕ → ℕ
place_or n None = n
place_or n (Some place) = place

-- how many pieces are before the token
abbrev pub gap_length : List Piece → ℕ
gap_length ms = place_or (length ms) (position is_of_token ms)

-- the kind of the token whose last piece is this, after these pieces
abbrev pub kind_by : Piece → List Piece → TokenKind
kind_by (Piece.Operator o) ms = TokenKind.Operator o
kind_by (Piece.WordClose r) ms = word_kind r (drop (suc (gap_length ms)) ms)
kind_by (Piece.Byte b) ms = TokenKind.End
kind_by (Piece.Escaped b) ms = TokenKind.End
kind_by (Piece.Backslash b) ms = TokenKind.End
kind_by (Piece.SingleQuoted bs) ms = TokenKind.End
kind_by Piece.DoubleQuotesOpen ms = TokenKind.End
kind_by Piece.DoubleQuotesClose ms = TokenKind.End
kind_by Piece.Dollar ms = TokenKind.End
kind_by (Piece.Variable bs) ms = TokenKind.End
kind_by (Piece.Parameter b) ms = TokenKind.End
kind_by (Piece.BraceOpen bs) ms = TokenKind.End
kind_by Piece.BraceClose ms = TokenKind.End
kind_by Piece.ArithmeticOpen ms = TokenKind.End
kind_by Piece.ArithmeticClose ms = TokenKind.End
kind_by Piece.CommandsOpen ms = TokenKind.End
kind_by Piece.CommandsClose ms = TokenKind.End
kind_by (Piece.Backquoted bs) ms = TokenKind.End
kind_by Piece.WordOpen ms = TokenKind.End
kind_by (Piece.Blank b) ms = TokenKind.End
kind_by (Piece.Comment bs) ms = TokenKind.End
kind_by (Piece.Bodies bs) ms = TokenKind.End

abbrev pub kind_from : List Piece → TokenKind
kind_from [] = TokenKind.End
kind_from (m ∷ before) = kind_by m (reverse before)

-- the kind of the token that these pieces are
abbrev pub kind_of : List Piece → TokenKind
kind_of ms = kind_from (reverse ms)

-- the answer in a text with these bytes
abbrev pub token_of : List ℕ → Scanned → FirstToken
token_of bytes (Ended s prefix rest) = Found (kind_of s.done) (length bytes - length prefix) (length bytes - length rest)
token_of bytes (Deep rest) = DeepAt (length bytes - length rest)
token_of bytes (Open form) = Unfinished

-- the first token of these bytes, in which so many levels may be open
unfoldable pub first_token : Bool → ℕ → List ℕ → FirstToken
first_token e limit bytes = token_of bytes (scan_of e limit bytes)

-- the pieces of a body with these bytes
abbrev pub of_body : List ℕ → Scanned → BodyPieces
of_body bytes (Ended s prefix rest) = AllOf s.done
of_body bytes (Deep rest) = TooDeepAt (length bytes - length rest)
of_body bytes (Open form) = OpenAt (length bytes - length form)

unfoldable pub pieces_of_body : ℕ → List ℕ → BodyPieces
pieces_of_body limit bytes = of_body bytes (scanned_in Body true limit bytes)

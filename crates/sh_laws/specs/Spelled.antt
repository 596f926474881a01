-- How the pieces of a word, or of a here-document's body, spell its parts (XCU 2.2, 2.6): bytes that stand
-- for themselves are a literal part, as many as are in a row; each other form is a part; and what is inside a
-- form is spelled as a word is.
use Rattle.std.specs.Prelude.{◌≡◌, ℕ, suc, Bool, true, false, List, [], ◌∷◌, ◌++◌, length, Option, Some, None, Ok}
use Rattle.std.specs.Option.{option_map}
use Rattle.sh_token_pieces.specs.declared.piece.Piece.{Piece}
use Rattle.sh_token_pieces.specs.declared.piece.Piece.TheVariants as piece
use Rattle.sh_syntax.specs.declared.tree.CompoundList.{CompoundList}
use Rattle.sh_syntax.specs.declared.tree.Part.{Part}
use Rattle.sh_syntax.specs.declared.tree.Part.TheVariants as part
use Rattle.sh_syntax.specs.declared.tree.Parameter.TheVariants.{Variable}
use Rattle.sh_parse_words.specs.declared.parameter.Braces.{Braces}
use Rattle.sh_parse_words.specs.Building.{braces_part, braces_quote, with_literal, parts_of}
use Rattle.sh_parse_words.specs.Parameters.{braces_of, short}
use Rattle.sh_parse_words.specs.Places.{behind_joins, place_of}
use Rattle.sh_parse_leaves.specs.Sources.{backquotes_text, behind_pieces, text_between}
use Rattle.sh_parse_leaves.specs.Words.{Reader, begins_closed}

-- the bytes for which a piece stands
abbrev pub bytes_of : Piece → Option (List ℕ)
bytes_of (piece.Byte c) = Some (c ∷ [])
bytes_of (piece.Backslash c) = Some (92 ∷ c ∷ [])
bytes_of piece.Dollar = Some (36 ∷ [])
bytes_of m = None

-- the part that a piece is by itself
abbrev pub part_of : Piece → Option Part
part_of (piece.Escaped c) = Some (part.Escaped c)
part_of (piece.SingleQuoted bytes) = Some (part.SingleQuoted bytes)
part_of (piece.Variable name) = Some (part.Parameter (Variable name))
part_of (piece.Parameter c) = option_map (λ p. part.Parameter p) (short c)
part_of m = None

abbrev pub is_plain : Piece → Bool
is_plain piece.CommandsOpen = false
is_plain piece.CommandsClose = false
is_plain m = true

-- pieces after which so many of the command substitutions that they open are still open
pub data Unclosed : List Piece → ℕ → Type 0 where
  empty : Unclosed [] 0
  plain : (ms : List Piece) (depth : ℕ) (m : Piece) → Unclosed ms depth → is_plain m ≡ true → Unclosed (ms ++ m ∷ []) depth
  opens : (ms : List Piece) (depth : ℕ) → Unclosed ms depth → Unclosed (ms ++ piece.CommandsOpen ∷ []) (suc depth)
  closes : (ms : List Piece) (depth : ℕ) → Unclosed ms (suc depth) → Unclosed (ms ++ piece.CommandsClose ∷ []) depth

-- pieces that close each command substitution that they open, and no other
abbrev pub Balanced : List Piece → Type 0
Balanced ms = Unclosed ms 0

-- the place in a text at which these of its bytes begin, and the one of the next character
abbrev pub here : List ℕ → List ℕ → ℕ
here text bytes = place_of (length text) bytes

abbrev pub next : List ℕ → List ℕ → ℕ
next text bytes = place_of (length text) (behind_joins bytes)

-- the bytes that are left of the text begin with these pieces, which spell these parts and then these bytes
-- that stand for themselves. `quoted`: all of it is in double quotes (2.2.3); `left`: so many levels may
-- open. The commands of a substitution are what is read of its text (2.6.3)
pub data Spelled (read : Reader) (text : List ℕ) : Bool → ℕ → List Piece → List ℕ → List Part → List ℕ → Type 0 where
  nothing : (quoted : Bool) (left : ℕ) (bytes : List ℕ) → Spelled read text quoted left [] bytes [] []
  stands : (quoted : Bool) (left : ℕ) (ms : List Piece) (bytes : List ℕ) (ps : List Part) (literal : List ℕ)
      → Spelled read text quoted left ms bytes ps literal
      → (m : Piece) (more : List ℕ) → bytes_of m ≡ Some more
      → Spelled read text quoted left (ms ++ m ∷ []) bytes ps (literal ++ more)
  single : (quoted : Bool) (left : ℕ) (ms : List Piece) (bytes : List ℕ) (ps : List Part) (literal : List ℕ)
      → Spelled read text quoted left ms bytes ps literal
      → (m : Piece) (p : Part) → part_of m ≡ Some p
      → Spelled read text quoted left (ms ++ m ∷ []) bytes (with_literal ps literal ++ p ∷ []) []
  -- `".."`
  quotes : (quoted : Bool) (left : ℕ) (ms : List Piece) (bytes : List ℕ) (ps : List Part) (literal : List ℕ)
      → Spelled read text quoted left ms bytes ps literal
      → (inside : List Piece) (qs : List Part) (rest : List ℕ)
      → Spelled read text true left inside (behind_pieces (ms ++ piece.DoubleQuotesOpen ∷ []) bytes) qs rest
      → Spelled read text quoted left (ms ++ piece.DoubleQuotesOpen ∷ (inside ++ piece.DoubleQuotesClose ∷ [])) bytes
      (with_literal ps literal ++ part.DoubleQuoted (parts_of (with_literal qs rest)) ∷ []) []
  -- `${..}`: what it asks for, and the word in it
  braces : (quoted : Bool) (left : ℕ) (ms : List Piece) (bytes : List ℕ) (ps : List Part) (literal : List ℕ)
      → Spelled read text quoted (suc left) ms bytes ps literal
      → (head : List ℕ) (form : Braces) (inside : List Piece) (qs : List Part) (rest : List ℕ)
      → braces_of head (begins_closed (inside ++ piece.BraceClose ∷ [])) ≡ Some form
      → Spelled read text (braces_quote form quoted) left inside (behind_pieces (ms ++ piece.BraceOpen head ∷ []) bytes) qs rest
      → Spelled read text quoted (suc left) (ms ++ piece.BraceOpen head ∷ (inside ++ piece.BraceClose ∷ [])) bytes
      (with_literal ps literal ++ braces_part form (parts_of (with_literal qs rest)) ∷ []) []
  -- `$((..))`; in it a `"` is no quote (2.6.4)
  arithmetic : (quoted : Bool) (left : ℕ) (ms : List Piece) (bytes : List ℕ) (ps : List Part) (literal : List ℕ)
      → Spelled read text quoted (suc left) ms bytes ps literal
      → (inside : List Piece) (qs : List Part) (rest : List ℕ)
      → Spelled read text false left inside (behind_pieces (ms ++ piece.ArithmeticOpen ∷ []) bytes) qs rest
      → Spelled read text quoted (suc left) (ms ++ piece.ArithmeticOpen ∷ (inside ++ piece.ArithmeticClose ∷ [])) bytes
      (with_literal ps literal ++ part.Arithmetic (parts_of (with_literal qs rest)) ∷ []) []
  -- `$(..)`
  commands : (quoted : Bool) (left : ℕ) (ms : List Piece) (bytes : List ℕ) (ps : List Part) (literal : List ℕ)
      → Spelled read text quoted (suc left) ms bytes ps literal
      → (inside : List Piece) (program : CompoundList) → Balanced inside
      → read left (text_between text
      (here text (behind_pieces (ms ++ piece.CommandsOpen ∷ []) bytes))
      (next text (behind_pieces (ms ++ piece.CommandsOpen ∷ inside) bytes))) ≡ Ok program
      → Spelled read text quoted (suc left) (ms ++ piece.CommandsOpen ∷ (inside ++ piece.CommandsClose ∷ [])) bytes
      (with_literal ps literal ++ part.Substitution program ∷ []) []
  -- backquotes
  backquotes : (quoted : Bool) (left : ℕ) (ms : List Piece) (bytes : List ℕ) (ps : List Part) (literal : List ℕ)
      → Spelled read text quoted (suc left) ms bytes ps literal
      → (between : List ℕ) (program : CompoundList)
      → read left (backquotes_text quoted (text_between text
      (next text (behind_pieces ms bytes))
      (here text (behind_pieces (ms ++ piece.Backquoted between ∷ []) bytes)))) ≡ Ok program
      → Spelled read text quoted (suc left) (ms ++ piece.Backquoted between ∷ []) bytes
      (with_literal ps literal ++ part.Backquoted program ∷ []) []

-- the same of a whole word or body, where so many levels may open
pub record AreSpelled (read : Reader) (text : List ℕ) (left : ℕ) (ms : List Piece) (bytes : List ℕ) (parts : List Part) : Type 0 where
  pub before : List Part
  pub literal : List ℕ
  pub spelled : Spelled read text false left ms bytes before literal
  pub same : parts ≡ with_literal before literal

-- ---- pieces that close each form that they open
abbrev pub has_value : {A : Type 0} → Option A → Bool
has_value None = false
has_value (Some x) = true

abbrev pub is_alone : Piece → Bool
is_alone (piece.Byte c) = true
is_alone (piece.Escaped c) = true
is_alone (piece.Backslash c) = true
is_alone (piece.SingleQuoted bytes) = true
is_alone piece.Dollar = true
is_alone (piece.Variable name) = true
is_alone (piece.Parameter c) = has_value (short c)
is_alone (piece.Backquoted bytes) = true
is_alone m = false

pub data Nested : List Piece → Type 0 where
  none : Nested []
  alone : (ms : List Piece) (m : Piece) → Nested ms → is_alone m ≡ true → Nested (ms ++ m ∷ [])
  within_quotes : (ms inside : List Piece) → Nested ms → Nested inside → Nested (ms ++ piece.DoubleQuotesOpen ∷ (inside ++ piece.DoubleQuotesClose ∷ []))
  within_braces : (ms inside : List Piece) (head : List ℕ) → Nested ms → Nested inside → Nested (ms ++ piece.BraceOpen head ∷ (inside ++ piece.BraceClose ∷ []))
  within_arithmetic : (ms inside : List Piece) → Nested ms → Nested inside → Nested (ms ++ piece.ArithmeticOpen ∷ (inside ++ piece.ArithmeticClose ∷ []))
  within_commands : (ms inside : List Piece) → Nested ms → Balanced inside → Nested (ms ++ piece.CommandsOpen ∷ (inside ++ piece.CommandsClose ∷ []))

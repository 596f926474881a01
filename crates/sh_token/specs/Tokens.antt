-- The token at a place of a text (XCU 2.3), and a text in which too many levels open.
use Rattle.std.specs.Prelude.{◌≡◌, ℕ, Bool, true, false, ◌&&◌, nat_eq, nat_lt, List, [], ◌∷◌, ◌++◌, length, if◌then◌else◌}
use Rattle.std.specs.List.{list_all}
use Rattle.sh_token_grammar.specs.declared.class.TokenClass.{TokenClass}
use Rattle.sh_token_grammar.specs.Classes.{class_number}
use Rattle.sh_token_pieces.specs.declared.character.Character.TheVariants.{Plain}
use Rattle.sh_token_pieces.specs.declared.operator.Operator.{Operator}
use Rattle.sh_token_pieces.specs.declared.context.Context.{Context}
use Rattle.sh_token_pieces.specs.declared.context.Context.TheVariants.{Top, Word}
use Rattle.sh_token_pieces.specs.declared.piece.Piece.{Piece}
use Rattle.sh_token_pieces.specs.declared.piece.Piece.TheVariants.{WordOpen, WordClose}
use Rattle.sh_token_pieces.specs.Characters.{joins, Written}
use Rattle.sh_token_pieces.specs.Pieces.{in_word, top_of, levels, is_gap, is_text, fits, exceeds, IsPiece, ArePieces, contexts_behind, ends_none}
use Rattle.sh_token_pieces.specs.Spelling.{spell_piece}
use Rattle.sh_token_pieces.specs.TokenClasses.{class_of_word}
use Rattle.sh_token.specs.declared.token.TokenKind.{TokenKind}

-- digits directly before < or > are the number of a file descriptor (XCU 2.10.1)
abbrev pub is_number : Bool → List Piece → Bool
is_number r ms = nat_eq (class_number (class_of_word r ms)) (class_number TokenClass.Number)

abbrev pub word_kind : Bool → List Piece → TokenKind
word_kind r ms = if is_number r ms then TokenKind.Number else TokenKind.Word ms

abbrev pub begins_join : List ℕ → Bool
begins_join [] = false
begins_join (b ∷ []) = false
begins_join (b ∷ c ∷ bs) = nat_eq b 92 && nat_eq c 10

-- joined lines, and then the prefix
pub record Joined (bytes prefix : List ℕ) : Type 0 where
  pub lines : ℕ
  pub is : bytes ≡ joins lines ++ prefix
  pub over : begins_join prefix ≡ false

-- the bytes begin with a token of this kind, and the rest is left; e: they are the last of the input; limit:
-- how many levels may be open; the gap is what is before the token
pub data IsToken (e : Bool) (limit : ℕ) (gap : List Piece) (prefix rest : List ℕ) : TokenKind → Type 0 where
  ending : e ≡ true → prefix ≡ [] → rest ≡ [] → IsToken e limit gap prefix rest TokenKind.End
  operator : (o : Operator) → IsPiece e limit gap Top [] (Piece.Operator o) prefix rest → IsToken e limit gap prefix rest (TokenKind.Operator o)
  -- the word's pieces; after none of them the word is over
  word : (ms : List Piece) → (r : Bool) → (x : Context) → (xs : List Context) → (middle : List ℕ) → ArePieces e limit gap (Top ∷ []) (WordOpen ∷ ms) prefix middle
      → ends_none gap (Top ∷ []) (WordOpen ∷ ms) ≡ true → contexts_behind gap (Top ∷ []) (WordOpen ∷ ms) ≡ x ∷ xs → IsPiece e limit (gap ++ WordOpen ∷ ms) x xs (WordClose r) middle rest
      → is_text (top_of xs) ≡ true → IsToken e limit gap prefix rest (word_kind r ms)

-- the bytes have blanks, comments and joined lines, then, where `prefix` begins, a token of this kind, and
-- then the rest
pub record HasToken (e : Bool) (limit : ℕ) (bytes prefix rest : List ℕ) (kind : TokenKind) : Type 0 where
  pub gap : List Piece
  pub middle : List ℕ
  pub blank : list_all is_gap gap ≡ true
  pub between : ArePieces e limit [] (Top ∷ []) gap bytes middle
  pub joined : Joined middle prefix
  pub token : IsToken e limit gap prefix rest kind

-- `${`, `$(` or a backquote comes first
pub data OpensLevel (e : Bool) (bytes : List ℕ) : Type 0 where
  braces : (after : List ℕ) → Written e (Plain 36 ∷ Plain 123 ∷ []) bytes after → OpensLevel e bytes
  parenthesis : (after : List ℕ) → Written e (Plain 36 ∷ Plain 40 ∷ []) bytes after → OpensLevel e bytes
  backquote : (after : List ℕ) → Written e (Plain 96 ∷ []) bytes after → OpensLevel e bytes

-- the piece is there, and it ends a token of a substitution that opens a level too many
pub record Exceeds (e : Bool) (limit : ℕ) (done : List Piece) (x : Context) (xs : List Context) (m : Piece) (bytes : List ℕ) : Type 0 where
  pub after : List ℕ
  pub written : Written e (spell_piece m) bytes after
  pub fits : fits e x m after ≡ true
  pub exceeds : exceeds limit done x xs m ≡ true

-- a level too many opens at `place`, after these pieces and in these contexts
pub data OpensTooMany (e : Bool) (limit : ℕ) (done : List Piece) (place : List ℕ) : List Context → Type 0 where
  -- by a form
  form : (xs : List Context) → in_word (top_of xs) ≡ true → nat_lt (levels xs) limit ≡ false → OpensLevel e place → OpensTooMany e limit done place xs
  -- by a token of a substitution with which a compound command begins: an operator, or a word of these pieces
  operator : (o : Operator) → (x : Context) → (xs : List Context) → Exceeds e limit done x xs (Piece.Operator o) place → OpensTooMany e limit done place (x ∷ xs)
  word : (ms : List Piece) → (r : Bool) → (xs : List Context) → (middle : List ℕ) → ArePieces e limit done xs (WordOpen ∷ ms) place middle
      → contexts_behind done xs (WordOpen ∷ ms) ≡ Word (length done) ∷ xs → Exceeds e limit (done ++ WordOpen ∷ ms) (Word (length done)) xs (WordClose r) middle
      → OpensTooMany e limit done place xs

-- in the first token of the text, what begins at `place` opens a level more than may be open
pub record IsTooDeep (e : Bool) (limit : ℕ) (bytes place : List ℕ) : Type 0 where
  pub gap : List Piece
  pub middle : List ℕ
  pub prefix : List ℕ
  pub blank : list_all is_gap gap ≡ true
  pub between : ArePieces e limit [] (Top ∷ []) gap bytes middle
  pub joined : Joined middle prefix
  pub pieces : List Piece
  pub last : List ℕ
  pub before : ArePieces e limit gap (Top ∷ []) (WordOpen ∷ pieces) prefix last
  pub going : ends_none gap (Top ∷ []) (WordOpen ∷ pieces) ≡ true
  pub placed : Joined last place
  pub opens : OpensTooMany e limit (gap ++ WordOpen ∷ pieces) place (contexts_behind gap (Top ∷ []) (WordOpen ∷ pieces))

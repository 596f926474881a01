-- What the tokens of a command substitution are to the grammar, and to its here-documents.
use Rattle.std.specs.Prelude.{ℕ, Bool, true, false, ◌&&◌, List, [], ◌∷◌, ◌++◌, take, position, nat_eq, Option, Some, None, if◌then◌else◌}
use Rattle.std.specs.List.{list_all}
use Rattle.sh_token_grammar.specs.declared.class.TokenClass.{TokenClass}
use Rattle.sh_token_grammar.specs.Classes.{class_of_text}
use Rattle.sh_base.specs.Names.{is_name}
use Rattle.std.specs.Char.{is_ascii_digit}
use Rattle.sh_token_pieces.specs.declared.operator.Operator.{Operator}
use Rattle.sh_token_pieces.specs.declared.piece.Piece.{Piece}
use Rattle.sh_token_pieces.specs.declared.piece.Piece.TheVariants.{Byte}
use Rattle.sh_token_pieces.specs.Taken.{followed_by}
use Rattle.sh_token_pieces.specs.declared.here.Tabs.{Tabs}
use Rattle.sh_token_pieces.specs.declared.here.Delimiter.{Delimiter}
use Rattle.sh_token_pieces.specs.Here.{tabs_of, delimiter_of}
use Rattle.sh_token_pieces.specs.Nested.{Nested}

-- what the pieces of a word are to the grammar: the bytes at its beginning that stand for themselves, and
-- whether these are all of it
abbrev pub literal_prefix : List Piece → List ℕ
literal_prefix [] = []
literal_prefix (Byte b ∷ ms) = b ∷ literal_prefix ms
literal_prefix (m ∷ ms) = []

abbrev pub is_byte : Piece → Bool
is_byte (Byte b) = true
is_byte m = false

abbrev pub is_name_before : List ℕ → Option ℕ → Bool
is_name_before bytes None = false
is_name_before bytes (Some k) = is_name (take k bytes)

abbrev pub equals_place : List ℕ → Option ℕ
equals_place bytes = position (λ b. nat_eq b 61) bytes

-- the bytes begin with a name and `=` (XCU 2.10.2 rule 7)
abbrev pub assigns : List ℕ → Bool
assigns bytes = is_name_before bytes (equals_place bytes)

-- digits alone before < or > are a descriptor number (2.10.1)
abbrev pub class_of_literal : Bool → List ℕ → TokenClass
class_of_literal redirection bytes =
    if redirection && list_all is_ascii_digit bytes then TokenClass.Number else if assigns bytes then TokenClass.Assignment else class_of_text bytes

abbrev pub class_of_word : Bool → List Piece → TokenClass
class_of_word redirection ms =
    if list_all is_byte ms then class_of_literal redirection (literal_prefix ms)
    else if assigns (literal_prefix ms) then TokenClass.Assignment else TokenClass.Other

abbrev pub class_of_operator : Operator → TokenClass
class_of_operator Operator.And = TokenClass.And
class_of_operator Operator.Semicolon = TokenClass.Semicolon
class_of_operator Operator.Pipe = TokenClass.Pipe
class_of_operator Operator.Less = TokenClass.Redirection
class_of_operator Operator.Great = TokenClass.Redirection
class_of_operator Operator.LeftParenthesis = TokenClass.LeftParenthesis
class_of_operator Operator.RightParenthesis = TokenClass.RightParenthesis
class_of_operator Operator.Newline = TokenClass.Newline
class_of_operator Operator.AndIf = TokenClass.AndIf
class_of_operator Operator.OrIf = TokenClass.OrIf
class_of_operator Operator.DoubleSemicolon = TokenClass.DoubleSemicolon
class_of_operator Operator.DoubleLess = TokenClass.Redirection
class_of_operator Operator.DoubleGreat = TokenClass.Redirection
class_of_operator Operator.LessAnd = TokenClass.Redirection
class_of_operator Operator.GreatAnd = TokenClass.Redirection
class_of_operator Operator.LessGreat = TokenClass.Redirection
class_of_operator Operator.DoubleLessDash = TokenClass.Redirection
class_of_operator Operator.Clobber = TokenClass.Redirection

-- a token of a substitution: an operator; a word of these pieces, which `<` or `>` follows if r; or a newline
-- with the bodies after it
pub data Told : Type 0 where
  OfOperator : (o : Operator) → Told
  OfWord : (r : Bool) → (ms : List Piece) → Told
  OfBodies : Told

abbrev pub class_of : Told → TokenClass
class_of (OfOperator o) = class_of_operator o
class_of (OfWord r ms) = class_of_word r ms
class_of OfBodies = TokenClass.Newline

-- `<<` and `<<-` make a delimiter of the word after them
abbrev pub expected_behind : Told → Option Tabs
expected_behind (OfOperator o) = tabs_of o
expected_behind (OfWord r ms) = None
expected_behind OfBodies = None

abbrev pub with_delimiter : Option Tabs → List Piece → List Delimiter → List Delimiter
with_delimiter None ms due = due
with_delimiter (Some tabs) ms due = due ++ delimiter_of tabs ms ∷ []

abbrev pub due_behind : Told → Option Tabs → List Delimiter → List Delimiter
due_behind (OfOperator o) expected due = due
due_behind (OfWord r ms) expected due = with_delimiter expected ms due
due_behind OfBodies expected due = []

abbrev pub with_told : Told → Nested → Nested
with_told c ts = record { tokens = followed_by (class_of c) ts.tokens; expected = expected_behind c; due = due_behind c ts.expected ts.due }

-- What the grammar sees of tokens (XCU 2.10.2).
use Rattle.std.specs.Prelude.{List, map, false}
use Rattle.sh_grammar.specs.declared.Token.{Token as Input}
use Rattle.sh_token_grammar.specs.declared.class.TokenClass.{TokenClass}
use Rattle.sh_token_grammar.specs.Classes.{class_number}
use Rattle.sh_token_pieces.specs.TokenClasses.{class_of_operator, class_of_word}
use Rattle.sh_token.specs.declared.token.TokenKind.{TokenKind}
use Rattle.sh_parse_documents.specs.declared.item.Item.{Item}

abbrev pub class_of_kind : TokenKind → TokenClass
class_of_kind (TokenKind.Operator o) = class_of_operator o
class_of_kind TokenKind.Number = TokenClass.Number
class_of_kind (TokenKind.Word ms) = class_of_word false ms
class_of_kind TokenKind.End = TokenClass.End

-- a token as the grammar sees it: its class, and its place in the text
abbrev pub input_of : Item → Input
input_of t = record { class = class_number (class_of_kind t.token.kind); id = t.token.span.start }

abbrev pub inputs_of : List Item → List Input
inputs_of tokens = map input_of tokens

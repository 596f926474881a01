-- What a token is to the tree (XCU 2.10.2).
use Rattle.std.specs.Prelude.{ℕ, suc, ◌&&◌, List, [], ◌∷◌, ◌++◌, take, drop, Option, Some, None, Result, Ok, if◌then◌else◌}
use Rattle.std.specs.List.{list_all}
use Rattle.sh_base.specs.declared.span.Span.{Span}
use Rattle.sh_base.specs.Names.{is_name}
use Rattle.sh_token_pieces.specs.declared.piece.Piece.{Piece}
use Rattle.sh_token_pieces.specs.declared.operator.Operator.{Operator}
use Rattle.sh_token_pieces.specs.TokenClasses.{literal_prefix, is_byte, assigns, equals_place}
use Rattle.sh_token.specs.declared.token.TokenKind.{TokenKind}
use Rattle.sh_syntax.specs.declared.tree.Part.{Part}
use Rattle.sh_syntax.specs.declared.tree.Part.TheVariants as part
use Rattle.sh_syntax.specs.declared.tree.Parts.{Parts}
use Rattle.sh_syntax.specs.declared.tree.Word.{Word}
use Rattle.sh_syntax.specs.declared.tree.Command.TheViews as view
use Rattle.sh_syntax.specs.declared.tree.RedirectOperator.TheVariants as redirect
use Rattle.sh_syntax.specs.declared.tree.HereDocumentOperator.TheVariants as here
use Rattle.sh_parse_actions.specs.declared.leaf.Leaf.{Leaf}
use Rattle.sh_parse_actions.specs.declared.leaf.Leaf.TheVariants as leaf
use Rattle.sh_parse_words.specs.declared.fault.PartFault.{PartFault}
use Rattle.sh_parse_words.specs.Building.{parts_of}
use Rattle.sh_parse_leaves.specs.Results.{and_then}
use Rattle.sh_parse_leaves.specs.Sources.{text_between, digits_in, behind_pieces}
use Rattle.sh_parse_leaves.specs.Words.{Reader, Within, within, parts_in}

-- the leaf of an operator; the body of a here-document is put in later
abbrev pub operator_leaf : Operator → Leaf
operator_leaf Operator.And = leaf.Operator
operator_leaf Operator.Semicolon = leaf.Operator
operator_leaf Operator.Pipe = leaf.Operator
operator_leaf Operator.Less = leaf.Redirection redirect.Input
operator_leaf Operator.Great = leaf.Redirection redirect.Output
operator_leaf Operator.LeftParenthesis = leaf.Operator
operator_leaf Operator.RightParenthesis = leaf.Operator
operator_leaf Operator.Newline = leaf.Operator
operator_leaf Operator.AndIf = leaf.Operator
operator_leaf Operator.OrIf = leaf.Operator
operator_leaf Operator.DoubleSemicolon = leaf.Operator
operator_leaf Operator.DoubleLess = leaf.HereDocument here.AsWritten (parts_of [])
operator_leaf Operator.DoubleGreat = leaf.Redirection redirect.Append
operator_leaf Operator.LessAnd = leaf.Redirection redirect.DuplicateInput
operator_leaf Operator.GreatAnd = leaf.Redirection redirect.DuplicateOutput
operator_leaf Operator.LessGreat = leaf.Redirection redirect.ReadWrite
operator_leaf Operator.DoubleLessDash = leaf.HereDocument here.TabsStripped (parts_of [])
operator_leaf Operator.Clobber = leaf.Redirection redirect.Clobber

abbrev pub word_of : Parts → List ℕ → Word
word_of parts source = view.roll-Word (record { parts = parts; source = source })

-- bytes before parts
abbrev pub with_prefix : List ℕ → List Part → List Part
with_prefix prefix [] = part.Literal prefix ∷ []
with_prefix prefix (part.Literal bytes ∷ ps) = part.Literal (prefix ++ bytes) ∷ ps
with_prefix prefix (p ∷ ps) = part.Literal prefix ∷ p ∷ ps

abbrev pub items_of : Parts → List Part
items_of parts = (view.out-Parts parts).items

-- the length of the name, where the bytes begin with a name and `=` (XCU 2.10.2 rule 7)
abbrev pub name_size : List ℕ → Option ℕ
name_size prefix = if assigns prefix then equals_place prefix else None

-- the leaf of an assignment: the parts of its word are the name and the `=`, and then the parts after the `=`
unfoldable pub assignment_leaf : List ℕ → ℕ → Parts → List ℕ → Leaf
assignment_leaf prefix size value source =
    leaf.Assignment (word_of (parts_of (with_prefix (take (suc size) prefix) (items_of value))) source) (take size prefix) value

-- the leaf of a word that is no assignment
unfoldable pub plain_leaf : List Piece → List ℕ → Parts → List ℕ → Leaf
plain_leaf ms prefix parts source =
    if list_all is_byte ms && is_name prefix then leaf.Name (word_of parts source) prefix else leaf.Word (word_of parts source)

-- the leaf of a word that begins with the literal bytes `prefix`; with a size, those begin with a name of that
-- size and `=`
abbrev pub leaf_by : Within → List Piece → Span → List ℕ → Option ℕ → Result Leaf PartFault
leaf_by around ms span prefix None =
    and_then (parts_in around.read around.left around.text ms (drop span.start around.text))
    (λ parts. Ok (plain_leaf ms prefix parts (text_between around.text span.start span.«end»)))
leaf_by around ms span prefix (Some size) =
    and_then (parts_in around.read around.left around.text (drop (suc size) ms) (behind_pieces (take (suc size) ms) (drop span.start around.text)))
    (λ value. Ok (assignment_leaf prefix size value (text_between around.text span.start span.«end»)))

-- the leaf of a word of these pieces, which is at this place of the text; so many levels may open in it
unfoldable pub word_leaf : Reader → ℕ → List ℕ → List Piece → Span → Result Leaf PartFault
word_leaf read left text ms span = leaf_by (within read left text) ms span (literal_prefix ms) (name_size (literal_prefix ms))

abbrev pub leaf_of : Reader → ℕ → List ℕ → TokenKind → Span → Result Leaf PartFault
leaf_of read left text (TokenKind.Operator o) span = Ok (operator_leaf o)
leaf_of read left text TokenKind.Number span = Ok (leaf.Number (digits_in (text_between text span.start span.«end»)))
leaf_of read left text (TokenKind.Word ms) span = word_leaf read left text ms span
leaf_of read left text TokenKind.End span = Ok leaf.Operator

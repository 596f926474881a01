-- The tokens of each form of a tree (XCU 2.6 to 2.9, 2.10.2): words as in the source, `;` or `&` after each
-- AND-OR list of a compound list, `;` for what separates the words of a `for` from its `do`. No other newline
-- and no body of a here-document is shown. A step gives the tokens of one form from the tokens of its parts.
use Rattle.std.specs.Prelude.{List, [], ◌∷◌, ◌++◌, Option, Some, None, codes}
use Rattle.std.specs.List.{flat_map}
use Rattle.sh_syntax.specs.Tokens.{Token, Spelled}
use Rattle.sh_syntax.specs.Spelling.{case_end_tokens, connector_spelling, here_spelling, loop_spelling, number_tokens, operator_spelling, optional, separator_spelling, sign}
use Rattle.sh_syntax.specs.declared.tree.Command.TheOpen as layer

abbrev pub Tokens : Type 0
Tokens = List Token

-- one form of a type, its parts replaced by their tokens
abbrev pub Layer : (Type 0 → Type 0 → Type 0 → Type 0 → Type 0 → Type 0 → Type 0 → Type 0
    → Type 0 → Type 0 → Type 0 → Type 0 → Type 0 → Type 0 → Type 0 → Type 0 → Type 0) → Type 0
Layer F = F Tokens Tokens Tokens Tokens Tokens Tokens Tokens Tokens Tokens Tokens Tokens Tokens Tokens Tokens Tokens Tokens

-- the tokens of the parts, one part after another
abbrev pub all : List Tokens → Tokens
all = flat_map (λ x. x)

abbrev pub compound_list_step : Layer layer.CompoundList-F → Tokens
compound_list_step list = all list.items

abbrev pub list_item_step : Layer layer.ListItem-F → Tokens
list_item_step list_item = list_item.list ++ sign (separator_spelling list_item.separator)

abbrev pub and_or_step : Layer layer.AndOr-F → Tokens
and_or_step list = list.first ++ all list.rest

abbrev pub connected_step : Layer layer.Connected-F → Tokens
connected_step connected = sign (connector_spelling connected.connector) ++ connected.pipeline

abbrev pub behind_bar : Tokens → Tokens
behind_bar tokens = sign (codes "|") ++ tokens

abbrev pub pipeline_step : Layer layer.Pipeline-F → Tokens
pipeline_step pipeline =
    optional pipeline.is_negated (codes "!") ++ pipeline.first
    ++ flat_map behind_bar pipeline.rest

abbrev pub command_step : Layer layer.Command-F → Tokens
command_step (layer.Simple items) = all items
command_step (layer.Compound compound) = compound
command_step (layer.Function name body) = Spelled name.source ∷ (sign (codes "(") ++ sign (codes ")") ++ body)

abbrev pub item_step : Layer layer.SimpleItem-F → Tokens
item_step (layer.Assignment name value source) = Spelled source ∷ []
item_step (layer.Word word) = word
item_step (layer.Redirect redirect) = redirect

abbrev pub redirect_step : Layer layer.Redirect-F → Tokens
redirect_step redirect = number_tokens redirect.number ++ redirect.target

abbrev pub target_step : Layer layer.Target-F → Tokens
target_step (layer.Named operator word) = sign (operator_spelling operator) ++ word
target_step (layer.Here operator delimiter body) = sign (here_spelling operator) ++ delimiter

abbrev pub word_step : Layer layer.Word-F → Tokens
word_step word = Spelled word.source ∷ []

abbrev pub compound_step : Layer layer.Compound-F → Tokens
compound_step compound = compound.form ++ all compound.redirects

abbrev pub else_tokens : Option Tokens → Tokens
else_tokens None = []
else_tokens (Some list) = sign (codes "else") ++ list

abbrev pub form_step : Layer layer.CompoundForm-F → Tokens
form_step (layer.Group list) = sign (codes "{") ++ list ++ sign (codes "}")
form_step (layer.Subshell list) = sign (codes "(") ++ list ++ sign (codes ")")
form_step (layer.If condition body else_ifs else_body) =
    sign (codes "if") ++ condition ++ sign (codes "then") ++ body ++ all else_ifs ++ else_tokens else_body
    ++ sign (codes "fi")
form_step (layer.Loop kind condition body) =
    sign (loop_spelling kind) ++ condition ++ sign (codes "do") ++ body ++ sign (codes "done")
form_step (layer.For name words body) =
    sign (codes "for") ++ sign name.source ++ sign (codes "in") ++ all words ++ sign (codes ";")
    ++ sign (codes "do") ++ body ++ sign (codes "done")
form_step (layer.ForParameters name is_separated body) =
    sign (codes "for") ++ sign name.source ++ optional is_separated (codes ";")
    ++ sign (codes "do") ++ body ++ sign (codes "done")
form_step (layer.Case word items) =
    sign (codes "case") ++ word ++ sign (codes "in") ++ all items ++ sign (codes "esac")

abbrev pub else_if_step : Layer layer.ElseIf-F → Tokens
else_if_step else_if = sign (codes "elif") ++ else_if.condition ++ sign (codes "then") ++ else_if.body

abbrev pub case_item_step : Layer layer.CaseItem-F → Tokens
case_item_step item =
    optional item.has_parenthesis (codes "(") ++ item.pattern ++ flat_map behind_bar item.more_patterns ++ sign (codes ")")
    ++ item.body ++ case_end_tokens item.end

-- the parts of a word aren't shown by themselves: the source of the word is shown
abbrev pub parts_step : Layer layer.Parts-F → Tokens
parts_step parts = []

abbrev pub part_step : Layer layer.Part-F → Tokens
part_step part = []

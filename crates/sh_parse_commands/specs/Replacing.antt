-- Aliases while commands are read (XCU 2.3.1): a word that may be the name of a command, and that names an alias, is replaced by the tokens of
-- the alias's value.
use Rattle.std.specs.Prelude.{ℕ, ◌&&◌, ◌||◌, not, Bool, List, [], ◌∷◌, ◌++◌, Option, Some, None, Result, Ok, if◌then◌else◌}
use Rattle.std.specs.List.{list_all, list_any}
use Rattle.std.specs.Str.{bytes_eq}
use Rattle.sh_grammar.specs.declared.Token.{Token as Input}
use Rattle.sh_token_grammar.specs.declared.class.TokenClass.{TokenClass}
use Rattle.sh_token_grammar.specs.Classes.{class_number, is_reserved}
use Rattle.sh_token_pieces.specs.TokenClasses.{literal_prefix, is_byte}
use Rattle.sh_token_pieces.specs.declared.here.Delimiter.{Delimiter}
use Rattle.sh_token.specs.declared.token.TokenKind.{TokenKind}
use Rattle.sh_parse_documents.specs.declared.item.Item.{Item}
use Rattle.sh_parse_documents.specs.Waiting.{Waiting, behind_token, due_at}
use Rattle.sh_parse_words.specs.declared.fault.PartFault.{PartFault}
use Rattle.sh_aliases.specs.declared.alias.Alias.{Alias}
use Rattle.sh_aliases.specs.Aliases.{AliasTable, alias_named, ends_in_blank}
use Rattle.sh_parse_leaves.specs.Results.{and_then, fault_moved}
use Rattle.sh_parse_leaves.specs.Words.{Reader, within}
use Rattle.sh_parse_commands.specs.Judging.{Judged, with_input, takes, with_item}

-- ---- which word is replaced
-- the name of a command may stand after these tokens: there the grammar takes a token that nothing else matches
abbrev pub command_name : Input
command_name = record { class = class_number TokenClass.CommandName; id = 0 }

abbrev pub may_name_command : Judged → Bool
may_name_command j = takes (with_input j command_name)

-- the text of a word of which nothing is quoted or expanded
abbrev pub unquoted_text : TokenKind → Option (List ℕ)
unquoted_text (TokenKind.Operator o) = None
unquoted_text TokenKind.Number = None
unquoted_text (TokenKind.Word ms) = if list_all is_byte ms then Some (literal_prefix ms) else None
unquoted_text TokenKind.End = None

-- where the name of a command may stand, a word that is no reserved word; and any word behind an alias whose value ends in a blank
abbrev pub is_eligible : Judged → (text : List ℕ) → Bool
is_eligible j text = j.is_behind_blank || (not (is_reserved text) && may_name_command j)

-- an alias isn't replaced inside of its own value; from: the names of the aliases from which the token came
abbrev pub alias_outside : AliasTable → (from : List (List ℕ)) → (name : List ℕ) → Option Alias
alias_outside table from name = if list_any (λ other. bytes_eq other name) from then None else alias_named table name

abbrev pub alias_of_word : AliasTable → (from : List (List ℕ)) → Judged → Option (List ℕ) → Option Alias
alias_of_word table from j None = None
alias_of_word table from j (Some text) = if is_eligible j text then alias_outside table from text else None

-- the alias that this token is replaced by, after those
unfoldable pub alias_at : AliasTable → (from : List (List ℕ)) → Judged → Item → Option Alias
alias_at table from j item = alias_of_word table from j (unquoted_text item.token.kind)

-- ---- tokens of which some are replaced
-- where tokens stand: the names of the aliases from which they came, how many levels may open in them, and the text that has them
pub record Origin : Type 0 where
  pub from : List (List ℕ)
  pub left : ℕ
  pub text : List ℕ

abbrev pub origin : List (List ℕ) → ℕ → List ℕ → Origin
origin from left text = record { from = from; left = left; text = text }

-- the origin of the tokens of an alias's value
abbrev pub value_origin : Origin → Alias → Origin
value_origin o alias = origin (o.from ++ alias.name ∷ []) o.left alias.value

-- how what is inside of a token is read: the texts of its substitutions, by the aliases from which the token came; and the tokens of a value
-- that are in its place
pub record Inside : Type 0 where
  pub read : (from : List (List ℕ)) → Reader
  pub value : Origin → List Item → Judged → Result Judged PartFault

-- after the value of an alias the next word is looked at too, if the value ends in a blank. A value without tokens leaves that as it was
abbrev pub behind_value : Alias → Judged → Judged
behind_value alias j = record j { is_behind_blank = j.is_behind_blank || ends_in_blank alias.value }

-- a fault in the value is told at the place of the word
abbrev pub with_value : Inside → Origin → (place : ℕ) → Alias → Judged → Result Judged PartFault
with_value inside o place alias j =
    fault_moved (λ at. place) (and_then (inside.value (value_origin o alias) alias.items j) (λ k. Ok (behind_value alias k)))

abbrev pub with_token_by : Inside → Origin → List Delimiter → Item → Judged → Option Alias → Result Judged PartFault
with_token_by inside o due item j None = with_item (within (inside.read o.from) o.left o.text) due item j
with_token_by inside o due item j (Some alias) = with_value inside o item.token.span.start alias j

-- one more token, or what replaces it; these here-documents are due at it
unfoldable pub with_token : AliasTable → Inside → Origin → List Delimiter → Item → Judged → Result Judged PartFault
with_token table inside o due item j = with_token_by inside o due item j (alias_at table o.from j item)

-- more tokens; w: what is awaited before them
abbrev pub with_tokens : AliasTable → Inside → Origin → Waiting → List Item → Judged → Result Judged PartFault
with_tokens table inside o w [] j = Ok j
with_tokens table inside o w (i ∷ is) j =
    and_then (with_token table inside o (due_at i.token.kind w) i j) (λ k. with_tokens table inside o (behind_token i.token.kind w) is k)

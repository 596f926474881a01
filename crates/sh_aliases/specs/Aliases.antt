-- Aliases (XBD 3.10, XCU 2.3.1, alias): names, each with a value that stands in its place where commands are read.
use Rattle.std.specs.Prelude.{ℕ, List, [], ◌∷◌, ◌==◌, ◌&&◌, ◌||◌, ◌-◌, Bool, true, false, not, Option, Some, None, if◌then◌else◌, length, slice_get}
use Rattle.std.specs.List.{filter, find, list_all, list_any}
use Rattle.std.specs.Char.{is_ascii_digit, is_ascii_lowercase, is_ascii_uppercase}
use Rattle.std.specs.Option.{option_map_or}
use Rattle.std.specs.Ordering.{is_lt, nat_cmp}
use Rattle.std.specs.declared.cmp.Ordering.{Ordering}
use Rattle.std.specs.declared.cmp.Ordering.TheVariants.{Less, Equal, Greater}
use Rattle.std.specs.Cmp.Lexicographic.{slice_cmp}
use Rattle.std.specs.Str.{bytes_eq}
use Rattle.sh_aliases.specs.declared.alias.Alias.{Alias}
use Rattle.sh_parse_documents.specs.Stream.{Ending, AtEnd, Cut, Items, items_of}
use Rattle.sh_parse_documents.specs.declared.item.Item.{Item}
use Rattle.sh_parse_documents.specs.TokenKind.{TokenKind}
use Rattle.sh_token_pieces.specs.Bytes.{is_blank}
use Rattle.sh_token_pieces.specs.declared.operator.Operator.{Operator}

-- ---- names of aliases (XBD 3.10): letters, digits and these bytes, one at least: ! % , - @ _
abbrev pub is_alias_sign : ℕ → Bool
is_alias_sign b = b == 33 || (b == 37 || (b == 44 || (b == 45 || (b == 64 || b == 95))))

abbrev pub is_alias_byte : ℕ → Bool
is_alias_byte b = is_ascii_lowercase b || (is_ascii_uppercase b || (is_ascii_digit b || is_alias_sign b))

abbrev pub is_alias_name : List ℕ → Bool
is_alias_name [] = false
is_alias_name (b ∷ bs) = is_alias_byte b && list_all is_alias_byte bs

-- ---- values: whole by themselves, so that an alias is a row of tokens wherever its name stands
-- a newline token would end the line in which the name stands, and a here-document has its body outside of the value
abbrev pub operator_fits : Operator → Bool
operator_fits Operator.Newline = false
operator_fits Operator.DoubleLess = false
operator_fits Operator.DoubleLessDash = false
operator_fits o = true

abbrev pub token_fits : TokenKind → Bool
token_fits (TokenKind.Operator o) = operator_fits o
token_fits (TokenKind.Word pieces) = true
token_fits TokenKind.Number = true
token_fits TokenKind.End = true

abbrev pub fits : Item → Bool
fits item = token_fits item.token.kind

abbrev pub is_at_end : Ending → Bool
is_at_end AtEnd = true
is_at_end (Cut at) = false

-- no token goes on past the end of the value
abbrev pub are_whole : Items → Bool
are_whole found = is_at_end found.ending && list_all fits found.items

abbrev pub has_nul : List ℕ → Bool
has_nul value = list_any (λ b. b == 0) value

abbrev pub alias_with : (name : List ℕ) → (value : List ℕ) → Items → Option Alias
alias_with name value found = if are_whole found then Some (record { name = name; value = value; items = found.items }) else None

-- the alias of a name and a value, with the value's tokens
unfoldable pub alias_of : (name : List ℕ) → (value : List ℕ) → Option Alias
alias_of name value = if is_alias_name name && not (has_nul value) then alias_with name value (items_of true value) else None

-- ---- a value that ends in a blank: the word after the name may be an alias too (2.3.1)
abbrev pub last_byte : List ℕ → Option ℕ
last_byte value = slice_get value (length value - 1)

abbrev pub ends_in_blank : List ℕ → Bool
ends_in_blank value = option_map_or is_blank (last_byte value) false

-- ---- the aliases of a shell, in the order of their names by byte
abbrev pub AliasTable : Type 0
AliasTable = List Alias

abbrev pub no_aliases : AliasTable
no_aliases = []

abbrev pub has_name : List ℕ → Alias → Bool
has_name name alias = bytes_eq alias.name name

abbrev pub alias_named : AliasTable → List ℕ → Option Alias
alias_named table name = find (has_name name) table

abbrev pub without_alias : AliasTable → List ℕ → AliasTable
without_alias table name = filter (λ alias. not (has_name name alias)) table

abbrev pub name_order : List ℕ → List ℕ → Ordering
name_order name other = slice_cmp nat_cmp name other

-- at an alias whose name comes before the new one's, is the same, or comes behind it; `rest`: the new one among the others
abbrev pub placed_by : Ordering → (new : Alias) → (first : Alias) → (others : AliasTable) → (rest : AliasTable) → AliasTable
placed_by Less new first others rest = first ∷ rest
placed_by Equal new first others rest = new ∷ others
placed_by Greater new first others rest = new ∷ first ∷ others

-- an alias takes the place of one of its name, or comes between those with names before and behind its own
abbrev pub with_alias : AliasTable → Alias → AliasTable
with_alias [] alias = alias ∷ []
with_alias (first ∷ others) alias = placed_by (name_order first.name alias.name) alias first others (with_alias others alias)

-- whether each name comes before the next one
abbrev pub is_before : Alias → AliasTable → Bool
is_before alias [] = true
is_before alias (next ∷ others) = is_lt (name_order alias.name next.name)

abbrev pub is_sorted : AliasTable → Bool
is_sorted [] = true
is_sorted (alias ∷ others) = is_before alias others && is_sorted others

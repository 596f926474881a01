-- Declaration utilities (XCU 2.9.1.1): after the name of one, where that isn't quoted, a word of the form NAME=.. is expanded as an
-- assignment.
use Rattle.std.specs.Prelude.{ℕ, List, [], ◌∷◌, ◌==◌, ◌&&◌, ◌||◌, Option, Some, None, Bool, false, codes, position, take, if◌then◌else◌}
use Rattle.std.specs.Str.{bytes_eq}
use Rattle.sh_base.specs.Names.{is_name}
use Rattle.sh_exec_parts.specs.Simple.{Opened, words_of}
use Rattle.sh_expand.specs.Context.{Context}
use Rattle.sh_expand.specs.Context.TheVariants.{Fields, Operand}
use Rattle.sh_syntax.specs.declared.tree.Part.{Part}
use Rattle.sh_syntax.specs.declared.tree.Parts.{Parts}
use Rattle.sh_syntax.specs.declared.tree.SimpleItem.{SimpleItem}
use Rattle.sh_syntax.specs.declared.tree.Command.TheOpen as layer
use Rattle.sh_syntax.specs.declared.tree.Command.TheViews as view

-- ---- unquoted text
abbrev pub literal_in : Opened layer.Part-F → Option (List ℕ)
literal_in (layer.Literal text) = Some text
literal_in (layer.Escaped byte) = None
literal_in (layer.SingleQuoted text) = None
literal_in (layer.DoubleQuoted word) = None
literal_in (layer.Parameter p) = None
literal_in (layer.Length p) = None
literal_in (layer.Conditional p absence action word) = None
literal_in (layer.Removal p affix extent word) = None
literal_in (layer.Substitution program) = None
literal_in (layer.Backquoted program) = None
literal_in (layer.Arithmetic word) = None

abbrev pub literal_of : Part → Option (List ℕ)
literal_of part = literal_in (view.out-Part part)

-- that a word is, and that it begins with
abbrev pub whole_literal : List Part → Option (List ℕ)
whole_literal [] = None
whole_literal (part ∷ []) = literal_of part
whole_literal (part ∷ next ∷ parts) = None

abbrev pub first_literal : List Part → Option (List ℕ)
first_literal [] = None
first_literal (part ∷ parts) = literal_of part

-- ---- the command name
abbrev pub is_declaration : Option (List ℕ) → Bool
is_declaration None = false
is_declaration (Some name) = bytes_eq name (codes "export") || bytes_eq name (codes "readonly")

-- behind `command` its first argument is looked at (XCU command)
abbrev pub is_command : Option (List ℕ) → Bool
is_command None = false
is_command (Some name) = bytes_eq name (codes "command")

abbrev pub literal_name : Parts → Option (List ℕ)
literal_name name = whole_literal (view.out-Parts name).items

abbrev pub declares_by : List Parts → Bool
declares_by [] = false
declares_by (name ∷ arguments) = if is_command (literal_name name) then declares_by arguments else is_declaration (literal_name name)

unfoldable pub declares : List SimpleItem → Bool
declares items = declares_by (words_of items)

-- ---- a word that begins with a name and `=`
abbrev pub named_by : List ℕ → Option ℕ → Bool
named_by text None = false
named_by text (Some place) = is_name (take place text)

abbrev pub assigns_by : Option (List ℕ) → Bool
assigns_by None = false
assigns_by (Some text) = named_by text (position (λ b. b == 61) text)

unfoldable pub assigns : Parts → Bool
assigns word = assigns_by (first_literal (view.out-Parts word).items)

abbrev pub word_context : (declares : Bool) → Parts → Context
word_context declares word = if declares && assigns word then Operand else Fields

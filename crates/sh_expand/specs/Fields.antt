-- The fields of expanded words: field splitting (XCU 2.6.5), pathname expansion (2.6.6) and quote removal (2.6.7).
use Rattle.std.specs.Prelude.{ℕ, List, [], ◌∷◌, map, if◌then◌else◌}
use Rattle.std.specs.List.{flat_map}
use Rattle.sh_vars.specs.Environment.{Environment, separators_of}
use Rattle.sh_files.specs.Nodes.{FileMap}
use Rattle.sh_expand_fields.specs.declared.item.Item.{Item}
use Rattle.sh_expand_fields.specs.Classes.{class_of}
use Rattle.sh_expand_fields.specs.Found.{pathnames}
use Rattle.sh_expand_fields.specs.Splitting.{field_splitting}
use Rattle.sh_expand_fields.specs.Text.{text_of}
use Rattle.sh_expand_parts.specs.declared.context.Context.{Context}
use Rattle.sh_expand_parts.specs.declared.context.Context.TheVariants as context
use Rattle.sh_expand_parts.specs.declared.closing.ExpandedWord.{ExpandedWord}

-- the paths that a field gives; under `set -f`, the field itself without its quotes
abbrev pub field_paths : FileMap → Environment → List Item → List (List ℕ)
field_paths files env field = if env.options.no_glob then text_of field ∷ [] else pathnames files env.directory field

abbrev pub split_fields : Environment → List Item → List (List Item)
split_fields env items = field_splitting (map (class_of (separators_of env)) items)

-- only a command's words are split and expanded to paths
abbrev pub fields_as : FileMap → Environment → Context → List Item → List (List ℕ)
fields_as files env context.Fields items = flat_map (field_paths files env) (split_fields env items)
fields_as files env context.Inner items = text_of items ∷ []
fields_as files env context.Quoted items = text_of items ∷ []
fields_as files env context.Single items = text_of items ∷ []
fields_as files env context.Assignment items = text_of items ∷ []
fields_as files env context.Operand items = text_of items ∷ []
fields_as files env context.QuotedSingle items = text_of items ∷ []

abbrev pub word_fields : FileMap → Environment → ExpandedWord → List (List ℕ)
word_fields files env word = fields_as files env word.context word.items

abbrev pub all_fields : FileMap → Environment → List ExpandedWord → List (List ℕ)
all_fields files env words = flat_map (word_fields files env) words

-- The items of a word so far, and what values (XCU 2.5.2) and quotes (2.2.3) put there.
use Rattle.std.specs.Prelude.{ℕ, List, [], ◌∷◌, ◌++◌, ◌||◌, Bool, true, false, map, Option, Some, None}
use Rattle.sh_vars.specs.Environment.{Environment, separators_of}
use Rattle.sh_expand_fields.specs.declared.item.Item.{Item}
use Rattle.sh_expand_fields.specs.declared.item.Item.TheVariants as item
use Rattle.sh_expand_fields.specs.Classes.{first_of}
use Rattle.sh_expand_parts.specs.Contexts.{value_item}
use Rattle.sh_expand_parts.specs.declared.context.Context.{Context}
use Rattle.sh_expand_parts.specs.declared.context.Context.TheVariants.{Fields, Inner, Quoted, Single, Assignment, Operand, QuotedSingle}
use Rattle.sh_expand_parts.specs.declared.draft.Draft.{Draft}
use Rattle.sh_expand_parts.specs.declared.value.Value.{Value}
use Rattle.sh_expand_parts.specs.declared.value.Value.TheVariants as value

-- items, without a `$@` that gave no field
abbrev pub plain : List Item → Draft
plain items = record { items = items; void = false }

abbrev pub nothing : Draft
nothing = plain []

-- one after the other
abbrev pub concatenation : Draft → Draft → Draft
concatenation a b = record { items = a.items ++ b.items; void = a.void || b.void }

-- what is between double quotes makes a field also where it is empty, unless a `$@` in it gave no field
abbrev pub quoted_if : Bool → List Item → Draft
quoted_if true [] = nothing
quoted_if true (x ∷ xs) = plain (item.Null ∷ x ∷ xs)
quoted_if false xs = plain (item.Null ∷ xs)

abbrev pub quoted_draft : Draft → Draft
quoted_draft d = quoted_if d.void d.items

-- the byte between joined parameters: the first of IFS, a space where IFS is unset, none where it is empty
abbrev pub joiner : Environment → Option ℕ
joiner env = first_of (separators_of env)

-- what is between a text and the further ones
abbrev pub between_bytes : Option ℕ → List (List ℕ) → List ℕ
between_bytes None others = []
between_bytes (Some b) [] = []
between_bytes (Some b) (u ∷ us) = b ∷ []

abbrev pub between_items : List (List ℕ) → List Item
between_items [] = []
between_items (u ∷ us) = item.Break ∷ []

-- texts joined, with a byte between each two if there is one
abbrev pub text_of_all : Option ℕ → List (List ℕ) → List ℕ
text_of_all between [] = []
text_of_all between (t ∷ ts) = t ++ (between_bytes between ts ++ text_of_all between ts)

-- texts with a break between each two
abbrev pub apart : (List ℕ → List Item) → List (List ℕ) → List Item
apart items [] = []
apart items (t ∷ ts) = items t ++ (between_items ts ++ apart items ts)

-- the items of one text
abbrev pub text_items : Context → List ℕ → List Item
text_items context text = map (value_item context) text

-- a parameter of `"$@"`, which is a field also where it is empty
abbrev pub field_items : List ℕ → List Item
field_items text = item.Null ∷ map item.Quoted text

abbrev pub quoted_each : List (List ℕ) → Draft
quoted_each [] = record { items = []; void = true }
quoted_each (t ∷ ts) = plain (apart field_items (t ∷ ts))

-- `$@`: fields; where one text is needed, with a space between each two parameters
abbrev pub each_parameter : Context → List (List ℕ) → Draft
each_parameter Fields ts = plain (apart (text_items Fields) ts)
each_parameter Inner ts = plain (apart (text_items Inner) ts)
each_parameter Quoted ts = quoted_each ts
each_parameter Single ts = plain (text_items Single (text_of_all (Some 32) ts))
each_parameter Assignment ts = plain (text_items Assignment (text_of_all (Some 32) ts))
each_parameter Operand ts = plain (text_items Operand (text_of_all (Some 32) ts))
each_parameter QuotedSingle ts = plain (text_items QuotedSingle (text_of_all (Some 32) ts))

-- `$*`: as `$@` where it is unquoted and split; one text otherwise
abbrev pub all_parameters : Context → Option ℕ → List (List ℕ) → Draft
all_parameters Fields between ts = plain (apart (text_items Fields) ts)
all_parameters Inner between ts = plain (apart (text_items Inner) ts)
all_parameters Quoted between ts = plain (text_items Quoted (text_of_all between ts))
all_parameters Single between ts = plain (text_items Single (text_of_all between ts))
all_parameters Assignment between ts = plain (text_items Assignment (text_of_all between ts))
all_parameters Operand between ts = plain (text_items Operand (text_of_all between ts))
all_parameters QuotedSingle between ts = plain (text_items QuotedSingle (text_of_all between ts))

-- the items of a value
abbrev pub value_draft : Context → Option ℕ → Value → Draft
value_draft context between value.Unset = nothing
value_draft context between (value.Scalar text) = plain (text_items context text)
value_draft context between (value.Each texts) = each_parameter context texts
value_draft context between (value.Joined texts) = all_parameters context between texts

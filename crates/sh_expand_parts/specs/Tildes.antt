-- Tilde expansion (XCU 2.6.1) of the unquoted bytes of a word. A tilde is HOME where a prefix may begin and
-- the end of the word or a slash follows. In an assignment a colon may follow too, and a prefix may begin
-- after each colon.
use Rattle.std.specs.Prelude.{ℕ, List, [], ◌∷◌, ◌++◌, ◌==◌, ◌&&◌, ◌||◌, Bool, true, false, not, map, codes, Option, Some, None}
use Rattle.sh_vars.specs.Environment.{Environment, value_of}
use Rattle.sh_expand_fields.specs.declared.item.Item.{Item}
use Rattle.sh_expand_fields.specs.declared.item.Item.TheVariants as item
use Rattle.sh_expand_parts.specs.Contexts.{literal_item}
use Rattle.sh_expand_parts.specs.declared.context.Context.{Context}
use Rattle.sh_expand_parts.specs.declared.context.Context.TheVariants.{Fields, Inner, Quoted, Single, Assignment, Operand, QuotedSingle}
use Rattle.sh_expand_parts.specs.Drafts.{plain}
use Rattle.sh_expand_parts.specs.declared.draft.Draft.{Draft}
use Rattle.sh_expand_parts.specs.declared.literal.Prefixes.{Prefixes}

abbrev pub prefixes : Bool → Bool → Bool → Prefixes
prefixes here colon equals = record { here = here; behind_colon = colon; behind_equals = equals }

-- where prefixes may begin in a part of a word, by whether it is the first part; in `NAME=value` none begins
-- at the name
abbrev pub prefixes_in : Context → (first : Bool) → Prefixes
prefixes_in Fields first = prefixes first false false
prefixes_in Inner first = prefixes first false false
prefixes_in Quoted first = prefixes false false false
prefixes_in Single first = prefixes first false false
prefixes_in Assignment first = prefixes first true false
prefixes_in Operand first = prefixes false true first
prefixes_in QuotedSingle first = prefixes false false false

-- where prefixes may begin after this byte; of the equals signs only the first counts
abbrev pub next_prefixes : Prefixes → ℕ → Prefixes
next_prefixes p b = prefixes ((p.behind_colon && b == 58) || (p.behind_equals && b == 61)) p.behind_colon (p.behind_equals && not (b == 61))

-- whether a prefix ends before these bytes: at the end of the word, at a slash or, in an assignment, at a
-- colon
abbrev pub ends_prefix : Prefixes → (last : Bool) → List ℕ → Bool
ends_prefix p last [] = last
ends_prefix p last (b ∷ bs) = b == 47 || (p.behind_colon && b == 58)

abbrev pub is_prefix : Prefixes → (last : Bool) → ℕ → List ℕ → Bool
is_prefix p last b behind = (p.here && b == 126) && ends_prefix p last behind

-- HOME as if quoted, so that it makes a field also where it is empty; where HOME is unset, the tilde stays
abbrev pub byte_items : Context → (home : Option (List ℕ)) → (is_prefix : Bool) → ℕ → List Item
byte_items context (Some home) true b = item.Null ∷ map item.Quoted home
byte_items context (Some home) false b = literal_item context b ∷ []
byte_items context None prefix b = literal_item context b ∷ []

-- the items of a run of bytes; `last` says whether the word ends with them
abbrev pub literal_items : Context → (home : Option (List ℕ)) → (last : Bool) → Prefixes → List ℕ → List Item
literal_items context home last p [] = []
literal_items context home last p (b ∷ bs) =
    byte_items context home (is_prefix p last b bs) b ++ literal_items context home last (next_prefixes p b) bs

-- the beginning of a part that is a run of unquoted bytes
abbrev pub literal_begun : Context → Environment → (first last : Bool) → List ℕ → Draft
literal_begun context env first last bytes =
    plain (literal_items context (value_of env (codes "HOME")) last (prefixes_in context first) bytes)

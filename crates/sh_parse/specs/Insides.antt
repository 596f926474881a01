-- Where the items of a text are; and what each answer tells of its text. It tells how many bytes are read,
-- where the text ends, that more is asked for only before the end, and that the place of a fault, and the
-- decision place after which reading goes on, are in the text or at its end.
use Rattle.std.specs.Prelude.{◌≡◌, ◌⊎◌, ℕ, ◌<◌, ◌≤◌, Bool, false, List, [], ◌∷◌, length, Ok, Err}
use Rattle.sh_parse_documents.specs.declared.item.Item.{Item}
use Rattle.sh_parse.specs.Reading.{Answer}
use Rattle.sh_parse.specs.declared.Reading.TheVariants.{Complete, Blank, More}
use Rattle.sh_parse.specs.declared.ParseFault.TheVariants.{Refused, Unclosed, BadSubstitution, TooDeep, NoMemory}

abbrev pub IsInside : Bool → List ℕ → Answer → Type 0
IsInside e text (Ok (Complete tree used)) = (0 < used) × (used ≤ length text)
IsInside e text (Ok (Blank used)) = ((0 < used) ⊎ (text ≡ [])) × (used ≤ length text)
IsInside e text (Ok More) = e ≡ false
IsInside e text (Err (Unclosed at)) = at ≡ length text
IsInside e text (Err (Refused at used)) = (at ≤ length text) × (0 < used) × (used ≤ length text)
IsInside e text (Err (BadSubstitution at used)) = (at ≤ length text) × (0 < used) × (used ≤ length text)
IsInside e text (Err (TooDeep at used)) = (at ≤ length text) × (0 < used) × (used ≤ length text)
IsInside e text (Err (NoMemory _)) = Unit {0}

-- the items come one after another, from `at` on, in a text of so many bytes
abbrev pub AreInside : ℕ → ℕ → List Item → Type 0
AreInside at size [] = Unit {0}
AreInside at size (t ∷ items) =
    (at ≤ t.token.span.start) × (t.token.span.start < t.token.span.«end») × (t.token.span.«end» ≤ t.«end») × (t.«end» ≤ size) × AreInside t.«end» size items

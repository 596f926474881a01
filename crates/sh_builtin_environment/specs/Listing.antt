-- Variables as built-ins list them (XCU 2.15 `export`, `readonly`, `set`): lines that a shell can read again.
use Rattle.std.specs.Prelude.{ℕ, List, [], ◌∷◌, ◌++◌, ◌==◌, Bool, true, false, Option, Some, None, codes, if◌then◌else◌}
use Rattle.std.specs.FinMap.{entries}
use Rattle.sh_builtin_environment.specs.declared.listing.Listing.{Listing}
use Rattle.sh_builtin_environment.specs.declared.listing.Listing.TheVariants.{Values, Marked}
use Rattle.sh_builtin_environment.specs.declared.attribute.Attribute.TheVariants.{Export, ReadOnly}
use Rattle.sh_vars.specs.Environment.{Environment, Variable}

-- ---- a value is put in single quotes, and each single quote in it becomes '\'' (2.2.1, 2.2.2)
abbrev pub quoted_byte : ℕ → List ℕ
quoted_byte b = if b == 39 then 39 ∷ 92 ∷ 39 ∷ 39 ∷ [] else b ∷ []

abbrev pub quoted_bytes : List ℕ → List ℕ
quoted_bytes [] = []
quoted_bytes (b ∷ bs) = quoted_byte b ++ quoted_bytes bs

abbrev pub in_quotes : List ℕ → List ℕ
in_quotes value = 39 ∷ quoted_bytes value ++ 39 ∷ []

-- ---- a line: the built-in that makes the variable so, its name, and its value if it is set
abbrev pub word_of : Listing → List ℕ
word_of Values = []
word_of (Marked Export) = codes "export "
word_of (Marked ReadOnly) = codes "readonly "

abbrev pub value_text : Option (List ℕ) → List ℕ
value_text None = []
value_text (Some value) = 61 ∷ in_quotes value

unfoldable pub line : Listing → List ℕ → Variable → List ℕ
line how name variable = word_of how ++ name ++ value_text variable.value ++ 10 ∷ []

-- ---- `set` lists the variables that are set, the others those that they mark
abbrev pub is_set : Option (List ℕ) → Bool
is_set None = false
is_set (Some value) = true

abbrev pub is_listed : Listing → Variable → Bool
is_listed Values variable = is_set variable.value
is_listed (Marked Export) variable = variable.exported
is_listed (Marked ReadOnly) variable = variable.read_only

abbrev pub lines : Listing → List (List ℕ × Variable) → List ℕ
lines how [] = []
lines how (entry ∷ others) = if is_listed how entry.1 then line how entry.0 entry.1 ++ lines how others else lines how others

-- in the order of the names' bytes
abbrev pub listing_text : Listing → Environment → List ℕ
listing_text how env = lines how (entries env.variables)

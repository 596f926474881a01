-- The bytes that separate fields (XCU 2.5.3): those of IFS; where it is unset, a space, a tab and a newline.
use Rattle.std.specs.Prelude.{ℕ, List, [], ◌∷◌, Option, Some, None}

abbrev pub default_separators : List ℕ
default_separators = 32 ∷ 9 ∷ 10 ∷ []

-- by the value of IFS, None where it is unset, None where it is unset
abbrev pub separators_by : Option (List ℕ) → List ℕ
separators_by None = default_separators
separators_by (Some bytes) = bytes

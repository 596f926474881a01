-- Texts in parts: lines, and the words of a line.
use Rattle.std.specs.Prelude.{ℕ, List, [], ◌==◌, Option, Some, None}
use Rattle.std.specs.List.{slice_split}

-- what is between the separators
abbrev pub parts : ℕ → List ℕ → List (List ℕ)
parts separator bytes = slice_split (λ b. b == separator) bytes

-- the parts of what is still to come, if there is something
abbrev pub further_parts : ℕ → Option (List ℕ) → List (List ℕ)
further_parts separator None = []
further_parts separator (Some bytes) = parts separator bytes

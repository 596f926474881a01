-- The operands of the utility `[`, which stand before its `]` (XCU test).
use Rattle.std.specs.Prelude.{ℕ, List, [], ◌∷◌, Option, Some, None, codes, if◌then◌else◌}
use Rattle.std.specs.Str.{bytes_eq}

abbrev pub behind : List ℕ → Option (List (List ℕ)) → Option (List (List ℕ))
behind word None = None
behind word (Some words) = Some (word ∷ words)

abbrev pub bracket_operands : List (List ℕ) → Option (List (List ℕ))
bracket_operands [] = None
bracket_operands (word ∷ []) = if bytes_eq word (codes "]") then Some [] else None
bracket_operands (word ∷ next ∷ words) = behind word (bracket_operands (next ∷ words))

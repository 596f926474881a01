-- How far the bodies of here-documents go (XCU 2.7.4).
use Rattle.std.specs.Prelude.{◌≡◌, ◌⊎◌, ℕ, suc, ◌≤◌, Bool, true, false, ◌&&◌, not, nat_eq, List, [], ◌∷◌, ◌++◌, length, take, Option, Some, None, if◌then◌else◌}
use Rattle.std.specs.Option.{option_map}
use Rattle.sh_token_pieces.specs.declared.here.Delimiter.{Delimiter}
use Rattle.sh_token_pieces.specs.Here.{lines, is_end_line, joins_next, are_bodies}

-- the first n bytes are the bodies of these here-documents, each up to and with its end line
abbrev pub AreWhole : List Delimiter → List ℕ → ℕ → Type 0
AreWhole due bytes n = are_bodies due false (lines [] (take n bytes)) ≡ true

-- no first bytes are whole bodies; so the end of the input ends the bodies, after an end line without a
-- newline or within a body without an end line
abbrev pub AreCut : Bool → List Delimiter → List ℕ → ℕ → Type 0
AreCut e due bytes n = (e ≡ true) × (n ≡ length bytes) × ((k : ℕ) → AreWhole due bytes k → ⊥)

-- the bodies are the first n bytes; e: the bytes are the last of the input
abbrev pub AreBodies : Bool → List Delimiter → List ℕ → ℕ → Type 0
AreBodies e due bytes n = (AreWhole due bytes n × n ≤ length bytes) ⊎ AreCut e due bytes n

-- the same as a value, line by line; `line` is what came before on the first line; joined: the line before is
-- joined with the first line
abbrev pub size_from : Bool → List Delimiter → Bool → List ℕ → List ℕ → Option ℕ
size_from e [] joined line bytes = Some 0
size_from e (d ∷ ds) joined line [] = if e then Some 0 else None
size_from e (d ∷ ds) joined line (b ∷ bytes) =
    option_map suc (if nat_eq b 10
    then if not joined && is_end_line d line then size_from e ds false [] bytes else size_from e (d ∷ ds) (joins_next d line) [] bytes
    else size_from e (d ∷ ds) joined (line ++ b ∷ []) bytes)

abbrev pub bodies_size : Bool → List Delimiter → List ℕ → Option ℕ
bodies_size e due bytes = size_from e due false [] bytes

-- The cutting of one body, for the proof.
use Rattle.std.specs.Prelude.{ℕ, ◌-◌, List, ◌++◌, length}
use Rattle.sh_parse_documents.specs.Documents.{Line, lines_from, Cut}

-- the lines of bytes that end at a place
abbrev pub lines_before : ℕ → List ℕ → List Line
lines_before stop bytes = lines_from (stop - length bytes) bytes

-- a body with the bytes that it has already before it
abbrev pub behind_taken : List ℕ → List ℕ → Cut → Cut
behind_taken text places c = record c { text = text ++ c.text; places = places ++ c.places }

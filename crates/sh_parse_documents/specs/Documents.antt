-- The bodies of here-documents, with the places of their bytes in the text (XCU 2.7.4).
use Rattle.std.specs.Prelude.{ℕ, zero, suc, ◌+◌, ◌-◌, Bool, false, ◌&&◌, not, List, [], ◌∷◌, ◌++◌, length, take, drop, unwrap_or, slice_get, if◌then◌else◌}
use Rattle.sh_token_pieces.specs.declared.here.Delimiter.{Delimiter}
use Rattle.sh_token_pieces.specs.Here.{lines, line_in, is_end_line, joins_next}
use Rattle.sh_parse_documents.specs.declared.document.Document.{Document}

-- a line without its newline, and the place of its first byte in the text
pub record Line : Type 0 where
  pub start : ℕ
  pub bytes : List ℕ

abbrev pub lines_at : ℕ → List (List ℕ) → List Line
lines_at n [] = []
lines_at n (l ∷ ls) = record { start = n; bytes = l } ∷ lines_at (suc (n + length l)) ls

-- the lines of these bytes, which are in the text from a place on; after the last line is no newline
abbrev pub lines_from : ℕ → List ℕ → List Line
lines_from start bytes = lines_at start (lines [] bytes)

-- what a body takes of a line, with the newline that it may have: all of a line that is joined to the line
-- before, else all but the tabs that `<<-` strips
abbrev pub body_line : Delimiter → Bool → List ℕ → List ℕ
body_line d joined line = if joined then line else line_in d.tabs line

-- the places of so many bytes one after another
abbrev pub places_from : ℕ → ℕ → List ℕ
places_from n zero = []
places_from n (suc k) = n ∷ places_from (suc n) k

-- the places of what is kept, which is at the end of the line
abbrev pub kept_places : Delimiter → Bool → ℕ → List ℕ → List ℕ
kept_places d joined start line = places_from (start + (length line - length (body_line d joined line))) (length (body_line d joined line))

-- a body, the place of each of its bytes, the place at which it ends, and the lines after its end line
pub record Cut : Type 0 where
  pub text : List ℕ
  pub places : List ℕ
  pub «end» : ℕ
  pub rest : List Line

-- no more of a body
abbrev pub over : ℕ → List Line → Cut
over place ls = record { text = []; places = []; «end» = place; rest = ls }

-- a line, and the rest of the body after it
abbrev pub with_line : Delimiter → Bool → ℕ → List ℕ → Cut → Cut
with_line d joined start line c = record c { text = body_line d joined line ++ c.text; places = kept_places d joined start line ++ c.places }

-- the body of a here-document: the lines up to, not including, its end line, which the end of the bytes may
-- end too; or all lines where none is its end line. The bytes end at the place `stop`; joined: the line
-- before is joined with the first line
abbrev pub cut_of : ℕ → Delimiter → Bool → List Line → Cut
cut_of stop d joined [] = over stop (lines_from stop [])
cut_of stop d joined (l ∷ []) = if not joined && is_end_line d l.bytes
    then over l.start (lines_from stop [])
    else with_line d joined l.start l.bytes (over stop (lines_from stop []))
cut_of stop d joined (l ∷ k ∷ ls) = if not joined && is_end_line d l.bytes
    then over l.start (k ∷ ls)
    else with_line d joined l.start (l.bytes ++ 10 ∷ []) (cut_of stop d (joins_next d l.bytes) (k ∷ ls))

abbrev pub document_of : Delimiter → Cut → Document
document_of d c = record { is_quoted = d.is_quoted; text = c.text; places = c.places; «end» = c.«end» }

-- one body after another
abbrev pub cut_all : ℕ → List Delimiter → List Line → List Document
cut_all stop [] ls = []
cut_all stop (d ∷ ds) ls = document_of d (cut_of stop d false ls) ∷ cut_all stop ds (cut_of stop d false ls).rest

-- the bodies of these here-documents, in order, in the bytes that are in the text from the place `start` on
unfoldable pub documents : List Delimiter → ℕ → List ℕ → List Document
documents due start bytes = cut_all (start + length bytes) due (lines_from start bytes)

-- the bytes of a text from one place up to, not including, another
abbrev pub between : ℕ → ℕ → List ℕ → List ℕ
between start stop text = take (stop - start) (drop start text)

-- the place in the text of the byte at an offset of a body; at the end of the body and past it, the place at
-- which it ends
unfoldable pub place_at : Document → ℕ → ℕ
place_at d offset = unwrap_or (slice_get d.places offset) d.«end»

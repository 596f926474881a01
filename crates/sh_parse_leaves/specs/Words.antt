-- The parts of a word (XCU 2.2, 2.6), with the commands of its substitutions, which are read as texts of
-- their own (XCU 2.6.3).
use Rattle.std.specs.Prelude.{ℕ, ◌+◌, Bool, true, false, List, [], ◌∷◌, length, Option, Some, None, Result, Ok, Err, if◌then◌else◌}
use Rattle.std.specs.Option.{unwrap_or}
use Rattle.sh_token_pieces.specs.declared.piece.Piece.{Piece}
use Rattle.sh_token_pieces.specs.declared.piece.Piece.TheVariants as piece
use Rattle.sh_syntax.specs.declared.tree.CompoundList.{CompoundList}
use Rattle.sh_syntax.specs.declared.tree.Parts.{Parts}
use Rattle.sh_parse_words.specs.declared.build.Request.{Request}
use Rattle.sh_parse_words.specs.declared.build.Substitution.{Substitution}
use Rattle.sh_parse_words.specs.declared.build.Substitution.TheVariants as substitution
use Rattle.sh_parse_words.specs.declared.fault.PartFault.{PartFault}
use Rattle.sh_parse_words.specs.declared.fault.PartFault.TheVariants as fault
use Rattle.sh_parse_words.specs.Building.{Building, empty_building, whole_parts, parts_of, take_piece, with_program}
use Rattle.sh_parse_words.specs.Parameters.{machine_number}
use Rattle.sh_parse_words.specs.Places.{behind_joins, behind_piece, place_of}
use Rattle.sh_parse_leaves.specs.Results.{and_then, fault_moved}
use Rattle.sh_parse_leaves.specs.Sources.{text_between, backquotes_text}

-- the list of commands of a text, in which so many levels may open
abbrev pub Reader : Type 0
Reader = ℕ → List ℕ → Result CompoundList PartFault

-- what tokens and words are read within: the text, how many levels may open in it, and how the texts of its
-- substitutions are read
pub record Within : Type 0 where
  pub read : Reader
  pub left : ℕ
  pub text : List ℕ

abbrev pub within : Reader → ℕ → List ℕ → Within
within read left text = record { read = read; left = left; text = text }

-- a text, and what is left of it
pub record Unread : Type 0 where
  pub text : List ℕ
  pub bytes : List ℕ

abbrev pub unread : List ℕ → List ℕ → Unread
unread text bytes = record { text = text; bytes = bytes }

-- the text of a substitution, and the place in the text around it of a fault at a place of this text: a fault
-- in backquotes has the place of the opening backquote
abbrev pub text_by : Substitution → List ℕ → List ℕ
text_by substitution.Commands bytes = bytes
text_by substitution.Backquotes bytes = backquotes_text false bytes
text_by substitution.QuotedBackquotes bytes = backquotes_text true bytes

unfoldable pub text_of : Request → List ℕ → List ℕ
text_of r text = text_by r.form (text_between text r.start r.«end»)

abbrev pub place_by : Substitution → Request → ℕ → ℕ
place_by substitution.Commands r at = machine_number (r.start + at)
place_by substitution.Backquotes r at = r.place
place_by substitution.QuotedBackquotes r at = r.place

unfoldable pub place_in : Request → ℕ → ℕ
place_in r at = place_by r.form r at

-- of two faults at one place a refusal is told rather than a level too many, and a level too many rather than
-- a bad substitution: backquotes that open a level too many are refused if their text is refused, else they
-- are too deep
abbrev pub refused_or_deep : ℕ → PartFault → PartFault
refused_or_deep place (fault.Refused at) = fault.Refused at
refused_or_deep place (fault.TooDeep at) = fault.TooDeep place
refused_or_deep place (fault.BadSubstitution at) = fault.TooDeep place
refused_or_deep place (fault.NoMemory lack) = fault.NoMemory lack

abbrev pub level_fault : Request → PartFault → PartFault
level_fault r f = if r.is_too_deep then refused_or_deep r.place f else f

abbrev pub at_its_level : Request → Result CompoundList PartFault → Result CompoundList PartFault
at_its_level r (Ok c) = if r.is_too_deep then Err (fault.TooDeep r.place) else Ok c
at_its_level r (Err f) = Err (level_fault r f)

-- the commands that are asked for
unfoldable pub answer_of : Reader → List ℕ → Request → Result CompoundList PartFault
answer_of read text r = at_its_level r (fault_moved (λ at. place_in r at) (read r.left (text_of r text)))

abbrev pub with_answer : Reader → List ℕ → Building → Option Request → Result Building PartFault
with_answer read text b None = Ok b
with_answer read text b (Some r) = and_then (answer_of read text r) (λ c. Ok (with_program b r.form c))

-- one more piece, with which the bytes that are left begin; `empty`: a `}` comes after it
unfoldable pub with_piece : Reader → Unread → Building → Piece → Bool → Result Building PartFault
with_piece read rest b m empty =
    and_then (take_piece b m empty (place_of (length rest.text) (behind_joins rest.bytes)) (place_of (length rest.text) (behind_piece m rest.bytes)))
    (λ t. with_answer read rest.text t.building t.request)

abbrev pub closes_braces : Piece → Bool
closes_braces piece.BraceClose = true
closes_braces m = false

abbrev pub begins_closed : List Piece → Bool
begins_closed [] = false
begins_closed (m ∷ ms) = closes_braces m

-- more pieces; the bytes are what is left of the text, and begin with these pieces
abbrev pub with_pieces : Reader → List ℕ → Building → List Piece → List ℕ → Result Building PartFault
with_pieces read text b [] bytes = Ok b
with_pieces read text b (m ∷ ms) bytes =
    and_then (with_piece read (unread text bytes) b m (begins_closed ms)) (λ c. with_pieces read text c ms (behind_piece m bytes))

-- the parts of pieces that close what they open
abbrev pub whole : Building → Parts
whole b = unwrap_or (whole_parts b) (parts_of [])

unfoldable pub parts_in : Reader → ℕ → List ℕ → List Piece → List ℕ → Result Parts PartFault
parts_in read left text ms bytes = and_then (with_pieces read text (empty_building left) ms bytes) (λ b. Ok (whole b))

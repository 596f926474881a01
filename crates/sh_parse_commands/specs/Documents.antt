-- The parts of the bodies of here-documents (XCU 2.7.4).
use Rattle.std.specs.Prelude.{ℕ, List, [], ◌∷◌, ◌++◌, length, Option, Some, None, Result, Ok, Err, if◌then◌else◌}
use Rattle.sh_token_pieces.specs.declared.here.Delimiter.{Delimiter}
use Rattle.sh_token_pieces.specs.declared.piece.Piece.{Piece}
use Rattle.sh_token.specs.declared.body_pieces.BodyFault.{BodyFault}
use Rattle.sh_token.specs.Body.{body_answer}
use Rattle.sh_token.specs.Found.{pieces_of_body}
use Rattle.sh_syntax.specs.declared.tree.Parts.{Parts}
use Rattle.sh_parse_documents.specs.declared.document.Document.{Document}
use Rattle.sh_parse_documents.specs.Documents.{between, documents, place_at}
use Rattle.sh_parse_documents.specs.declared.item.Item.{Item}
use Rattle.sh_parse_words.specs.declared.fault.PartFault.{PartFault}
use Rattle.sh_parse_words.specs.declared.fault.PartFault.TheVariants as fault
use Rattle.sh_parse_words.specs.Building.{with_literal, parts_of}
use Rattle.sh_parse_leaves.specs.Results.{and_then, fault_moved}
use Rattle.sh_parse_leaves.specs.Sources.{text_between}
use Rattle.sh_parse_leaves.specs.Words.{Reader, parts_in}
use Rattle.sh_parse_commands.specs.declared.body_prefix.BodyPrefix.{BodyPrefix}

-- the pieces of bytes, or of the bytes before the first form that they don't close. A text never opens more
-- levels than it has bytes, so none is too deep here: levels are counted where the parts are made
abbrev pub pieces_or_none : Result (List Piece) BodyFault → List Piece
pieces_or_none (Ok ms) = ms
pieces_or_none (Err e) = []

abbrev pub closed_by : List ℕ → Result (List Piece) BodyFault → List Piece
closed_by bytes (Ok ms) = ms
closed_by bytes (Err (BodyFault.Open at)) = pieces_or_none (body_answer (pieces_of_body (length bytes) (text_between bytes 0 at)))
closed_by bytes (Err (BodyFault.TooDeep at)) = []
closed_by bytes (Err (BodyFault.NoMemory _)) = []

unfoldable pub closed_pieces : List ℕ → List Piece
closed_pieces bytes = closed_by bytes (body_answer (pieces_of_body (length bytes) bytes))

-- a body up to a form that it doesn't close, or up to a level too many, with the fault there
abbrev pub prefix_by : List ℕ → Result (List Piece) BodyFault → BodyPrefix
prefix_by bytes (Ok ms) = record { pieces = ms; fault = None }
prefix_by bytes (Err (BodyFault.Open at)) = record { pieces = closed_pieces (text_between bytes 0 at); fault = Some (fault.Refused at) }
prefix_by bytes (Err (BodyFault.TooDeep at)) = record { pieces = closed_pieces (text_between bytes 0 at); fault = Some (fault.TooDeep at) }
prefix_by bytes (Err (BodyFault.NoMemory lack)) = record { pieces = []; fault = Some (fault.NoMemory lack) }

unfoldable pub prefix_of : List ℕ → BodyPrefix
prefix_of bytes = prefix_by bytes (body_answer (pieces_of_body (length bytes) bytes))

abbrev pub unless : Option PartFault → Parts → Result Parts PartFault
unless None parts = Ok parts
unless (Some f) parts = Err f

-- the parts of a body that is expanded; a fault in the parts before such a form is told rather than the form
unfoldable pub expanded_body : Reader → ℕ → List ℕ → Result Parts PartFault
expanded_body read left bytes =
    and_then (parts_in read left bytes (prefix_of bytes).pieces bytes) (λ parts. unless (prefix_of bytes).fault parts)

-- the parts of a body; a body whose delimiter is quoted is a single literal part
unfoldable pub document_parts : Reader → ℕ → Document → Result Parts PartFault
document_parts read left d =
    if d.is_quoted then Ok (parts_of (with_literal [] d.text)) else fault_moved (λ at. place_at d at) (expanded_body read left d.text)

-- the parts of further bodies, after the parts of others
abbrev pub with_documents : Reader → ℕ → List Parts → List Document → Result (List Parts) PartFault
with_documents read left bodies [] = Ok bodies
with_documents read left bodies (d ∷ ds) =
    and_then (document_parts read left d) (λ parts. with_documents read left (bodies ++ parts ∷ []) ds)

-- the parts of the bodies after an item, for the here-documents that are due at it
unfoldable pub bodies_of : Reader → ℕ → List ℕ → List Delimiter → Item → Result (List Parts) PartFault
bodies_of read left text due item =
    with_documents read left [] (documents due item.token.span.«end» (between item.token.span.«end» item.«end» text))

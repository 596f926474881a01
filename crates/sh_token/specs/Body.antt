-- The pieces of the body of a here-document that is expanded (XCU 2.7.4), or why the body has none. The text
-- ends with the body.
use Rattle.std.specs.Prelude.{◌≡◌, ℕ, ◌+◌, ◌≤◌, true, List, [], ◌∷◌, length, Result, Ok, Err}
use Rattle.sh_token_pieces.specs.declared.context.Context.TheVariants.{Body}
use Rattle.sh_token_pieces.specs.declared.piece.Piece.{Piece}
use Rattle.sh_token_pieces.specs.Pieces.{ArePieces, contexts_behind}
use Rattle.sh_token.specs.declared.body_pieces.BodyFault.{BodyFault}
use Rattle.sh_token.specs.Tokens.{Joined, OpensLevel, OpensTooMany}

-- the body up to `place` is these pieces, with joined lines after them, and no form is open there
pub record IsPrefix (limit : ℕ) (bytes : List ℕ) (passed : List Piece) (place : List ℕ) : Type 0 where
  pub last : List ℕ
  pub pieces : ArePieces true limit [] (Body ∷ []) passed bytes last
  pub closed : contexts_behind [] (Body ∷ []) passed ≡ Body ∷ []
  pub joined : Joined last place

-- what begins at `place` opens a level more than may be open
pub record IsBodyTooDeep (limit : ℕ) (bytes place : List ℕ) : Type 0 where
  pub pieces : List Piece
  pub last : List ℕ
  pub before : ArePieces true limit [] (Body ∷ []) pieces bytes last
  pub placed : Joined last place
  pub opens : OpensTooMany true limit pieces place (contexts_behind [] (Body ∷ []) pieces)

-- a form begins at `place`, and is open at the end of the body: no prefix without open forms goes further
pub record IsBodyOpen (limit : ℕ) (bytes place : List ℕ) : Type 0 where
  pub pieces : List Piece
  pub prefix : IsPrefix limit bytes pieces place
  pub begins : OpensLevel true place
  pub furthest : (others : List Piece) (other : List ℕ) → IsPrefix limit bytes others other → length place ≤ length other
  pub level : (deep : List ℕ) → IsBodyTooDeep limit bytes deep → ⊥

-- the pieces of a body; or the place where a form begins that the body doesn't close, or a piece that opens a
-- level too many
pub data BodyPieces : Type 0 where
  AllOf : (pieces : List Piece) → BodyPieces
  OpenAt : (place : ℕ) → BodyPieces
  TooDeepAt : (place : ℕ) → BodyPieces

-- this is the answer for the body, in which so many levels may be open
abbrev pub IsBody : ℕ → List ℕ → BodyPieces → Type 0
IsBody limit bytes (AllOf pieces) = IsPrefix limit bytes pieces []
IsBody limit bytes (OpenAt place) = (rest : List ℕ) × IsBodyOpen limit bytes rest × (place + length rest ≡ length bytes)
IsBody limit bytes (TooDeepAt place) = (rest : List ℕ) × IsBodyTooDeep limit bytes rest × (place + length rest ≡ length bytes)

abbrev pub body_answer : BodyPieces → Result (List Piece) BodyFault
body_answer (AllOf pieces) = Ok pieces
body_answer (OpenAt place) = Err (BodyFault.Open place)
body_answer (TooDeepAt place) = Err (BodyFault.TooDeep place)

-- the answer is given, unless memory ran out
abbrev pub GivesPieces : Result (List Piece) BodyFault → Result (List Piece) BodyFault → Type 0
GivesPieces (Ok pieces) found = Ok pieces ≡ found
GivesPieces (Err (BodyFault.NoMemory _)) found = Unit {0}
GivesPieces (Err (BodyFault.Open at)) found = Err (BodyFault.Open at) ≡ found
GivesPieces (Err (BodyFault.TooDeep at)) found = Err (BodyFault.TooDeep at) ≡ found

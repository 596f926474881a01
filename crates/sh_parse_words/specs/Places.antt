-- Where pieces are in their text: each has the bytes in which it is written, and joined lines before a
-- character are skipped (XCU 2.2.1).
use Rattle.std.specs.Prelude.{ℕ, zero, suc, ◌-◌, ◌&&◌, nat_eq, List, [], ◌∷◌, length, drop, if◌then◌else◌}
use Rattle.sh_token_pieces.specs.declared.character.Character.{Character}
use Rattle.sh_token_pieces.specs.declared.character.Character.TheVariants.{Plain, Quoted, Raw}
use Rattle.sh_token_pieces.specs.declared.piece.Piece.{Piece}
use Rattle.sh_token_pieces.specs.Spelling.{spell_piece}

abbrev pub behind_joins : List ℕ → List ℕ
behind_joins [] = []
behind_joins (b ∷ []) = b ∷ []
behind_joins (b ∷ c ∷ bs) = if nat_eq b 92 && nat_eq c 10 then behind_joins bs else b ∷ c ∷ bs

abbrev pub behind_character : Character → List ℕ → List ℕ
behind_character (Plain b) bytes = drop 1 (behind_joins bytes)
behind_character (Quoted b) bytes = drop 2 (behind_joins bytes)
behind_character (Raw b) bytes = drop 1 bytes

-- the bytes after so many plain characters
abbrev pub behind_plain : ℕ → List ℕ → List ℕ
behind_plain zero bytes = bytes
behind_plain (suc n) bytes = behind_plain n (drop 1 (behind_joins bytes))

abbrev pub behind_characters : List Character → List ℕ → List ℕ
behind_characters [] bytes = bytes
behind_characters (c ∷ cs) bytes = behind_characters cs (behind_character c bytes)

-- the bytes after a piece with which they begin
unfoldable pub behind_piece : Piece → List ℕ → List ℕ
behind_piece m bytes = behind_characters (spell_piece m) bytes

-- the place in a text of so many bytes from which these are left
abbrev pub place_of : ℕ → List ℕ → ℕ
place_of size bytes = size - length bytes

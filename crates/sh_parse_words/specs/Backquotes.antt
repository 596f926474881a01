-- The commands between backquotes (XCU 2.6.3): a backslash before `$`, a backquote or a backslash is left
-- out, in double quotes also a backslash before `"` (XCU 2.2.3).
use Rattle.std.specs.Prelude.{ℕ, Bool, ◌&&◌, ◌||◌, nat_eq, List, [], ◌∷◌, if◌then◌else◌}
use Rattle.sh_token_pieces.specs.Bytes.{is_quoted_escape}

abbrev pub is_escape : Bool → ℕ → Bool
is_escape quoted b = is_quoted_escape b || (quoted && nat_eq b 34)

-- quoted: the backquotes are in double quotes
unfoldable pub without_escapes : Bool → List ℕ → List ℕ
without_escapes quoted [] = []
without_escapes quoted (b ∷ []) = b ∷ []
without_escapes quoted (b ∷ c ∷ bs) = if nat_eq b 92 && is_escape quoted c then c ∷ without_escapes quoted bs else b ∷ without_escapes quoted (c ∷ bs)

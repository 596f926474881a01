-- The place of a token in its text.
use Rattle.std.specs.Prelude.{◌≢◌, ℕ, ◌<◌, ◌≤◌}
use Rattle.sh_token.specs.declared.token.TokenKind.{TokenKind}
use Rattle.sh_token.specs.declared.token.Token.{Token}

-- a token found from the byte at `at` on, in a text of so many bytes
pub record IsPlaced (at size : ℕ) (token : Token) : Type 0 where
  pub starts : at ≤ token.span.start
  pub ordered : token.span.start ≤ token.span.«end»
  pub ends : at ≤ size → token.span.«end» ≤ size
  -- a token has bytes, except for the end of the input
  pub advances : token.kind ≢ TokenKind.End → token.span.start < token.span.«end»

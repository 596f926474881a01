-- Tokens (XCU 2.3) that are shown, and how they are joined: by one space, but with none after a descriptor's
-- number.
use Rattle.std.specs.Prelude.{ℕ, ◌++◌, List, [], ◌∷◌}
use Rattle.std.specs.Ffi.{without_last}
use Rattle.std.specs.List.{flat_map}

-- the number before a redirection's operator, or any other token, as it is spelled
pub data Token : Type 0 where
  Number : List ℕ → Token
  Spelled : List ℕ → Token

-- a token with the space after it
abbrev pub with_space : Token → List ℕ
with_space (Number digits) = digits
with_space (Spelled bytes) = bytes ++ 32 ∷ []

abbrev pub with_spaces : List Token → List ℕ
with_spaces = flat_map with_space

-- no space is after the last token
abbrev pub text_of : List Token → List ℕ
text_of tokens = without_last (with_spaces tokens)

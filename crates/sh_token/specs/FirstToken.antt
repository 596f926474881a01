-- The first token of a text, as a value, and what a call answers.
use Rattle.std.specs.Prelude.{◌≡◌, ℕ, ◌+◌, Bool, List, length, Result, Ok, Err}
use Rattle.sh_token.specs.declared.token.TokenKind.{TokenKind}
use Rattle.sh_token.specs.declared.token.Token.{Token}
use Rattle.sh_token.specs.declared.token.TokenFault.{TokenFault}
use Rattle.sh_token.specs.Tokens.{HasToken, IsTooDeep}

-- the first token of a text: from `start` up to, not including, `stop`; or why there is none
pub data FirstToken : Type 0 where
  Found : (kind : TokenKind) → (start stop : ℕ) → FirstToken
  Unfinished : FirstToken
  DeepAt : (place : ℕ) → FirstToken

-- this is the answer for the bytes, in which so many levels may be open; e: they are the last of the input.
-- A NUL is a byte like any other: it is a fault of the text, and not of its tokens
abbrev pub IsFirst : Bool → ℕ → List ℕ → FirstToken → Type 0
IsFirst e limit bytes (Found kind start stop) =
    (prefix : List ℕ) × ((rest : List ℕ) × HasToken e limit bytes prefix rest kind × (start + length prefix ≡ length bytes) × (stop + length rest ≡ length bytes))
IsFirst e limit bytes (DeepAt place) = (rest : List ℕ) × IsTooDeep e limit bytes rest × (place + length rest ≡ length bytes)
IsFirst e limit bytes Unfinished =
    ((prefix rest : List ℕ) (kind : TokenKind) → HasToken e limit bytes prefix rest kind → ⊥) × ((rest : List ℕ) → IsTooDeep e limit bytes rest → ⊥)

-- the same answer, as a call gives it for a text in which the bytes begin at `at`
abbrev pub answer_at : ℕ → FirstToken → Result Token TokenFault
answer_at at (Found kind start stop) = Ok (record { kind = kind; span = record { start = at + start; «end» = at + stop } })
answer_at at Unfinished = Err TokenFault.Unfinished
answer_at at (DeepAt place) = Err (TokenFault.TooDeep (at + place))

-- the answer is given, unless memory ran out
abbrev pub Gives : Result Token TokenFault → Result Token TokenFault → Type 0
Gives (Ok token) found = Ok token ≡ found
Gives (Err (TokenFault.NoMemory _)) found = Unit {0}
Gives (Err TokenFault.Unfinished) found = Err TokenFault.Unfinished ≡ found
Gives (Err (TokenFault.TooDeep at)) found = Err (TokenFault.TooDeep at) ≡ found

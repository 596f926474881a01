-- The tokens of a text with the bodies after them (XCU 2.3, 2.7.4).
use Rattle.std.specs.Prelude.{◌≡◌, ℕ, ◌+◌, Bool, List, drop, Option, Some, None, Result, Ok, Err}
use Rattle.sh_token.specs.declared.token.TokenKind.{TokenKind}
use Rattle.sh_token.specs.declared.token.TokenFault.{TokenFault}
use Rattle.sh_token.specs.FirstToken.{FirstToken, Found, Unfinished, DeepAt}
use Rattle.sh_token.specs.Found.{first_token}
use Rattle.sh_parse_documents.specs.declared.item.Item.{Item}
use Rattle.sh_parse_documents.specs.Waiting.{Waiting, due_at}
use Rattle.sh_parse_documents.specs.Bodies.{bodies_size}

-- the first token of a text with the bodies after it, which go up to, not including, `end`; or why there is
-- none
pub data FirstItem : Type 0 where
  FoundItem : (kind : TokenKind) → (start stop «end» : ℕ) → FirstItem
  NoItem : (fault : FirstToken) → FirstItem

-- the token with so many bytes of bodies after it
abbrev pub with_bodies : TokenKind → ℕ → ℕ → Option ℕ → FirstItem
with_bodies kind start stop None = NoItem Unfinished
with_bodies kind start stop (Some n) = FoundItem kind start stop (stop + n)

abbrev pub item_of : Bool → Waiting → List ℕ → FirstToken → FirstItem
item_of e w bytes (Found kind start stop) = with_bodies kind start stop (bodies_size e (due_at kind w) (drop stop bytes))
item_of e w bytes Unfinished = NoItem Unfinished
item_of e w bytes (DeepAt place) = NoItem (DeepAt place)

-- the first item of these bytes, where `w` is awaited and so many levels may be open; e: they are the last of
-- the input
unfoldable pub first_item : Bool → ℕ → Waiting → List ℕ → FirstItem
first_item e limit w bytes = item_of e w bytes (first_token e limit bytes)

-- the same answer, as a call gives it for a text in which the bytes begin at `at`
abbrev pub fault_at : ℕ → FirstToken → Result Item TokenFault
fault_at at Unfinished = Err TokenFault.Unfinished
fault_at at (DeepAt place) = Err (TokenFault.TooDeep (at + place))
fault_at at (Found kind start stop) = Err TokenFault.Unfinished

abbrev pub item_at : ℕ → FirstItem → Result Item TokenFault
item_at at (FoundItem kind start stop «end») =
    Ok (record { token = record { kind = kind; span = record { start = at + start; «end» = at + stop } }; «end» = at + «end» })
item_at at (NoItem fault) = fault_at at fault

-- the answer is given, unless memory ran out
abbrev pub GivesItem : Result Item TokenFault → Result Item TokenFault → Type 0
GivesItem (Ok item) found = Ok item ≡ found
GivesItem (Err (TokenFault.NoMemory _)) found = Unit {0}
GivesItem (Err TokenFault.Unfinished) found = Err TokenFault.Unfinished ≡ found
GivesItem (Err (TokenFault.TooDeep at)) found = Err (TokenFault.TooDeep at) ≡ found

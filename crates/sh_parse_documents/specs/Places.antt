-- The place of an item in its text.
use Rattle.std.specs.Prelude.{ℕ, ◌≤◌}
use Rattle.sh_token.specs.Placed.{IsPlaced}
use Rattle.sh_parse_documents.specs.declared.item.Item.{Item}

-- an item found from the byte at `at` on, in a text of so many bytes
pub record IsItemPlaced (at size : ℕ) (item : Item) : Type 0 where
  pub token : IsPlaced at size item.token
  pub behind : item.token.span.«end» ≤ item.«end»
  pub ends : at ≤ size → item.«end» ≤ size

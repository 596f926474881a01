-- The tokens of a text with the bodies after them, one after another, and what ends them (XCU 2.3, 2.7.4).
use Rattle.std.specs.Prelude.{ℕ, zero, suc, ◌+◌, Bool, List, [], ◌∷◌, length, drop}
use Rattle.sh_token.specs.declared.token.TokenKind.{TokenKind}
use Rattle.sh_parse_documents.specs.declared.item.Item.{Item}
use Rattle.sh_parse_documents.specs.Waiting.{Waiting, nothing, behind_token}
use Rattle.sh_parse_documents.specs.Items.{FirstItem, FoundItem, NoItem, first_item}

-- what comes after the last item: the end of the input; or, from `at` on, what isn't finished
pub data Ending : Type 0 where
  AtEnd : Ending
  Cut : (at : ℕ) → Ending

pub record Items : Type 0 where
  pub items : List Item
  pub ending : Ending

abbrev pub none : Ending → Items
none ending = record { items = []; ending = ending }

abbrev pub with_item : TokenKind → ℕ → ℕ → ℕ → Items → Items
with_item TokenKind.End start stop after others = none AtEnd
with_item kind start stop after others =
    record { items = record { token = record { kind = kind; span = record { start = start; «end» = stop } }; «end» = after } ∷ others.items; ending = others.ending }

-- the first item, and the others from its end on
abbrev pub with_first : (Waiting → ℕ → Items) → Waiting → ℕ → FirstItem → Items
with_first others w at (FoundItem kind start stop after) = with_item kind (at + start) (at + stop) (at + after) (others (behind_token kind w) (at + after))
with_first others w at (NoItem fault) = none (Cut at)

-- the items of the text from a place on, fewer than this number, where `w` is awaited; e: the end of the text
-- is the end of the input. No bound of the levels is set here: a text never opens more levels than it has
-- bytes
abbrev pub items_from : ℕ → Bool → List ℕ → Waiting → ℕ → Items
items_from zero e text w at = none (Cut at)
items_from (suc n) e text w at = with_first (λ v place. items_from n e text v place) w at (first_item e (length text) w (drop at text))

-- each item has a byte at least
abbrev pub items_of : Bool → List ℕ → Items
items_of e text = items_from (suc (length text)) e text nothing 0

-- what is awaited after some items, where `w` is awaited before them
abbrev pub waiting_behind : Waiting → List Item → Waiting
waiting_behind w [] = w
waiting_behind w (t ∷ items) = waiting_behind (behind_token t.token.kind w) items

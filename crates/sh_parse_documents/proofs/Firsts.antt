-- The first item of a text, and those behind it.
use Rattle.std.proofs.Common.{◌≡◌, ℕ, ◌+◌, ◌∷◌, Ok, refl, sym, ap, ◌∙◌}
use Rattle.sh_token.specs.declared.token.TokenKind.{TokenKind}
use Rattle.sh_token.specs.FirstToken.{FirstToken, Found, Unfinished, DeepAt}
use Rattle.sh_parse_documents.specs.declared.item.Item.{Item}
use Rattle.sh_parse_documents.specs.Waiting.{Waiting, behind_token}
use Rattle.sh_parse_documents.specs.Items.{FirstItem, FoundItem, NoItem, item_at}
use Rattle.sh_parse_documents.specs.Stream.{Items, with_item, with_first}

abbrev before_others : Item → Items → Items
before_others t others = record { items = t ∷ others.items; ending = others.ending }

-- the items begin with the one that is found
pub with_found : (kind : TokenKind) (start stop after : ℕ) (others : Items) → (kind ≡ TokenKind.End → ⊥)
    → with_item kind start stop after others ≡ before_others (record { token = record { kind = kind; span = record { start = start; «end» = stop } }; «end» = after }) others
with_found TokenKind.End start stop after others h = absurd (h refl)
with_found (TokenKind.Operator o) start stop after others h = refl
with_found TokenKind.Number start stop after others h = refl
with_found (TokenKind.Word parts) start stop after others h = refl

no_item : (at : ℕ) (fault : FirstToken) (t : Item) → Ok t ≡ item_at at (NoItem fault) → ⊥
no_item at Unfinished t h = cc
no_item at (DeepAt place) t h = cc
no_item at (Found kind start stop) t h = cc

pub first_found : (others : Waiting → ℕ → Items) (w : Waiting) (at : ℕ) (first : FirstItem) (t : Item) → Ok t ≡ item_at at first → (t.token.kind ≡ TokenKind.End → ⊥)
    → with_first others w at first ≡ before_others t (others (behind_token t.token.kind w) t.«end»)
first_found others w at (NoItem fault) t e h = absurd (no_item at fault t e)
first_found others w at (FoundItem kind start stop after) t e h =
    let r : t ≡ record { token = record { kind = kind; span = record { start = at + start; «end» = at + stop } }; «end» = at + after } = cc in
    let k : kind ≡ TokenKind.End → ⊥ = λ x. h (ap (λ (u : Item). u.token.kind) r ∙ x) in
    with_found kind (at + start) (at + stop) (at + after) (others (behind_token kind w) (at + after)) k ∙ ap (λ (u : Item). before_others u (others (behind_token u.token.kind w) u.«end»)) (sym r)

-- The items of a text stand in it.
use Rattle.std.proofs.Common.{◌≡◌, inl, inr, ℕ, zero, suc, ◌+◌, ◌-◌, ◌<◌, ◌≤◌, Bool, List, [], ◌∷◌, ◌++◌, length, drop, Option, Some, None, refl, sym, ap, subst, ◌∙◌, arith}
use Rattle.std.proofs.lemmas.List.{length-drop}
use Rattle.sh_token_pieces.specs.declared.here.Delimiter.{Delimiter}
use Rattle.sh_token.specs.declared.token.TokenKind.{TokenKind}
use Rattle.sh_token.specs.FirstToken.{FirstToken, Found, Unfinished, DeepAt, IsFirst}
use Rattle.sh_token.specs.Found.{first_token}
use Rattle.sh_token.specs.Placed.{IsPlaced}
use Rattle.sh_token.proofs.Complete.{complete}
use Rattle.sh_token.proofs.Laws.{is_first}
use Rattle.sh_token.proofs.Places.{placed_shown}
use Rattle.sh_parse_documents.specs.declared.item.Item.{Item}
use Rattle.sh_parse_documents.specs.Bodies.{AreBodies, bodies_size}
use Rattle.sh_parse_documents.specs.Waiting.{Waiting, nothing, behind_token, due_at}
use Rattle.sh_parse_documents.specs.Items.{FirstItem, FoundItem, NoItem, first_item, item_of, with_bodies}
use Rattle.sh_parse_documents.specs.Stream.{Items, with_item, with_first, items_from, items_of}
use Rattle.sh_parse_documents.proofs.Defined.{bodies_defined}
use Rattle.sh_parse.specs.Insides.{AreInside}

-- the first token stands in its text
first_placed : (e : Bool) (limit : ℕ) (text : List ℕ) (at : ℕ) (kind : TokenKind) (start stop : ℕ) → first_token e limit (drop at text) ≡ Found kind start stop
    → IsPlaced at (length text) (record { kind = kind; span = record { start = at + start; «end» = at + stop } })
first_placed e limit text at kind start stop h =
    let f : IsFirst e limit (drop at text) (Found kind start stop) = subst (λ x. IsFirst e limit (drop at text) x) h (is_first e limit (drop at text)) in
    let prefix = f.0 in
    let rest = f.1.0 in
    let token = f.1.1 in
    let from : start + length prefix ≡ length (drop at text) = f.1.2 in
    let to : stop + length rest ≡ length (drop at text) = f.1.3 in
    let c = complete e limit (drop at text) prefix rest kind token in
    placed_shown e limit text at (drop at text) c.state prefix rest kind start stop refl c.is (sym c.kind_is) (omega (from, arith)) (omega (to, arith))

-- and so does its item
pub record ItemInside (at size start stop after : ℕ) : Type 0 where
  pub ordered : start < stop
  pub behind : stop ≤ after
  pub inside : at + after ≤ size

bodies_inside : (e : Bool) (due : List Delimiter) (bytes : List ℕ) (n : ℕ) → bodies_size e due bytes ≡ Some n → n ≤ length bytes
bodies_inside e due bytes n h = go ((bodies_defined e due bytes n).0 h)
  where
    go : AreBodies e due bytes n → n ≤ length bytes
    go (inl w) = w.1
    go (inr w) = let x : n ≡ length bytes = w.1 in omega (x, arith)

placed_inside : (at size start stop n : ℕ) (kind : TokenKind) → (kind ≡ TokenKind.End → ⊥) → IsPlaced at size (record { kind = kind; span = record { start = at + start; «end» = at + stop } })
    → at ≤ size → n ≤ (size - at) - stop → ItemInside at size start stop (stop + n)
placed_inside at size start stop n kind k p l b =
    let further : at + start < at + stop = p.advances k in
    let within : at + stop ≤ size = p.ends l in
    record { ordered = omega (further, arith); behind = omega arith; inside = omega (within, b, l, arith) }

drop_drop : (text : List ℕ) (at stop : ℕ) → length (drop stop (drop at text)) ≡ (length text - at) - stop
drop_drop text at stop = length-drop stop (drop at text) ∙ ap (λ n. n - stop) (length-drop at text)

same_item : (start stop n k s after : ℕ) (kind kind' : TokenKind) → FoundItem kind' k s (s + n) ≡ FoundItem kind start stop after
    → (kind' ≡ kind) × (k ≡ start) × (s ≡ stop) × (s + n ≡ after)
same_item start stop n k s after kind kind' h = (cc, cc, cc, cc)

module _ (e : Bool) (text : List ℕ) (w : Waiting) (at : ℕ) (l : at ≤ length text) (kind : TokenKind) (start stop after : ℕ) (k : kind ≡ TokenKind.End → ⊥) where
  by_bodies : (kind' : TokenKind) (a b : ℕ) (o : Option ℕ) → IsPlaced at (length text) (record { kind = kind'; span = record { start = at + a; «end» = at + b } })
      → bodies_size e (due_at kind' w) (drop b (drop at text)) ≡ o → with_bodies kind' a b o ≡ FoundItem kind start stop after
      → ItemInside at (length text) start stop after
  by_bodies kind' a b None p s h = absurd (cc)
  by_bodies kind' a b (Some n) p s h =
      let q = same_item start stop n a b after kind kind' h in
      let i = placed_inside at (length text) a b n kind' (λ x. k (sym q.0 ∙ x)) p l
      (subst (λ m. n ≤ m) (drop_drop text at b) (bodies_inside e (due_at kind' w) (drop b (drop at text)) n s)) in
      let same : b + n ≡ after = q.3 in
      let first : a ≡ start = q.1 in
      let last : b ≡ stop = q.2 in
      let further : a < b = i.ordered in
      let within : at + (b + n) ≤ length text = i.inside in
      record { ordered = omega (further, first, last, arith); behind = omega (last, same, arith); inside = omega (within, same, arith) }

  by_token : (first : FirstToken) → first_token e (length text) (drop at text) ≡ first → item_of e w (drop at text) first ≡ FoundItem kind start stop after → ItemInside at (length text) start stop after
  by_token (Found kind' a b) f h = by_bodies kind' a b (bodies_size e (due_at kind' w) (drop b (drop at text))) (first_placed e (length text) text at kind' a b f) refl h
  by_token Unfinished f h = absurd (cc)
  by_token (DeepAt place) f h = absurd (cc)

  pub found_inside : first_item e (length text) w (drop at text) ≡ FoundItem kind start stop after → ItemInside at (length text) start stop after
  unfolding first_item
  found_inside h = by_token (first_token e (length text) (drop at text)) refl h

-- all items
abbrev Stands : ℕ → ℕ → ℕ → ℕ → ℕ → List Item → Type 0
Stands at size start stop after items = (at ≤ start) × (start < stop) × (stop ≤ after) × (after ≤ size) × AreInside after size items

item_inside : (at size : ℕ) (kind : TokenKind) (start stop after : ℕ) (others : Items) → ((kind ≡ TokenKind.End → ⊥) → Stands at size start stop after others.items)
    → AreInside at size (with_item kind start stop after others).items
item_inside at size TokenKind.End start stop after others h = tt
item_inside at size (TokenKind.Operator o) start stop after others h = h (λ x. cc)
item_inside at size TokenKind.Number start stop after others h = h (λ x. cc)
item_inside at size (TokenKind.Word ms) start stop after others h = h (λ x. cc)

stands : (at size start stop after : ℕ) (items : List Item) → ItemInside at size start stop after → AreInside (at + after) size items → Stands at size (at + start) (at + stop) (at + after) items
stands at size start stop after items i h =
    let further : start < stop = i.ordered in
    let behind : stop ≤ after = i.behind in
    (omega arith, omega (further, arith), omega (behind, arith), i.inside, h)

first_inside : (e : Bool) (text : List ℕ) (w : Waiting) (at : ℕ) → at ≤ length text → (others : Waiting → ℕ → Items)
    → ((v : Waiting) (place : ℕ) → place ≤ length text → AreInside place (length text) (others v place).items)
    → (first : FirstItem) → first_item e (length text) w (drop at text) ≡ first → AreInside at (length text) (with_first others w at first).items
first_inside e text w at l others more (NoItem wrong) h = tt
first_inside e text w at l others more (FoundItem kind start stop after) h =
    item_inside at (length text) kind (at + start) (at + stop) (at + after) (others (behind_token kind w) (at + after)) (λ k.
    let i = found_inside e text w at l kind start stop after k h in
    stands at (length text) start stop after (others (behind_token kind w) (at + after)).items i (more (behind_token kind w) (at + after) i.inside))

inside_from : (n : ℕ) (e : Bool) (text : List ℕ) (w : Waiting) (at : ℕ) → at ≤ length text → AreInside at (length text) (items_from n e text w at).items
inside_from zero e text w at l = tt
inside_from (suc n) e text w at l =
    first_inside e text w at l (λ v place. items_from n e text v place) (λ v place m. inside_from n e text v place m) (first_item e (length text) w (drop at text)) refl

pub inside_of : (e : Bool) (text : List ℕ) → AreInside 0 (length text) (items_of e text).items
inside_of e text = inside_from (suc (length text)) e text nothing 0 (omega arith)

pub last_inside : (at size : ℕ) (t : Item) (items : List Item) → AreInside at size (t ∷ items) → (0 < t.«end») × (t.«end» ≤ size)
last_inside at size t items h =
    let first : t.token.span.start < t.token.span.«end» = h.1 in
    let last : t.token.span.«end» ≤ t.«end» = h.2 in
    (omega (first, last, arith), h.3)

pub one_inside : (at size : ℕ) (before : List Item) (t : Item) (after : List Item) → AreInside at size (before ++ t ∷ after) → (0 < t.«end») × (t.«end» ≤ size)
one_inside at size [] t after h = last_inside at size t after h
one_inside at size (b ∷ before) t after h = one_inside b.«end» size before t after h.4

pub some_inside : (at size : ℕ) (items : List Item) → AreInside at size items → (items ≡ [] → ⊥) → 0 < size
some_inside at size [] h n = absurd (n refl)
some_inside at size (t ∷ items) h n = let i = last_inside at size t items h in let a : 0 < t.«end» = i.0 in let b : t.«end» ≤ size = i.1 in omega (a, b, arith)

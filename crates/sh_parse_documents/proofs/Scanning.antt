-- The tokens of a text, one after another.
use Rattle.std.proofs.Common.{◌≡◌, ℕ, zero, suc, ◌+◌, ◌<◌, ◌≤◌, Bool, List, [], ◌∷◌, ◌++◌, length, drop, Option, Some, None, Ok, Err, refl, sym, ap, ◌∙◌, append_assoc, arith}
use Rattle.std.proofs.lemmas.List.{append-nil}
use Rattle.sh_token.specs.declared.token.TokenKind.{TokenKind}
use Rattle.sh_token.specs.declared.token.TokenFault.{TokenFault}
use Rattle.sh_token.specs.FirstToken.{Found, Unfinished, DeepAt}
use Rattle.sh_parse_documents.specs.declared.item.Item.{Item}
use Rattle.sh_parse_documents.specs.Places.{IsItemPlaced}
use Rattle.sh_parse_documents.specs.Waiting.{Waiting, nothing, behind_token}
use Rattle.sh_parse_documents.specs.Items.{FirstItem, FoundItem, NoItem, first_item, item_at, GivesItem}
use Rattle.sh_parse_documents.specs.Stream.{Ending, AtEnd, Cut, Items, none, with_first, items_from, items_of}
use Rattle.sh_parse_documents.specs.Scanned.{ending_of}
use Rattle.sh_parse_documents.proofs.Firsts.{first_found}

-- items behind others
abbrev pub behind_all : List Item → Items → Items
behind_all done others = record { items = done ++ others.items; ending = others.ending }

-- these items came already, and the others are those from `at` on
pub record Scans (e : Bool) (text : List ℕ) (done : List Item) (w : Waiting) (at : ℕ) : Type 0 where
  pub left : ℕ
  pub enough : length text < left + at
  pub inside : at ≤ length text
  pub same : items_of e text ≡ behind_all done (items_from left e text w at)

pub begins : (e : Bool) (text : List ℕ) → Scans e text [] nothing 0
begins e text = record { left = suc (length text); enough = omega arith; inside = omega arith; same = refl }

go : (e : Bool) (text : List ℕ) (done : List Item) (w : Waiting) (at left : ℕ) (t : Item) → length text < left + at → at ≤ length text → items_of e text ≡ behind_all done (items_from left e text w at)
    → Ok t ≡ item_at at (first_item e (length text) w (drop at text)) → (t.token.kind ≡ TokenKind.End → ⊥) → IsItemPlaced at (length text) t → Scans e text (done ++ t ∷ []) (behind_token t.token.kind w) t.«end»
go e text done w at zero t enough inside same a h p = absurd (omega arith)
go e text done w at (suc n) t enough inside same a h p =
    let further : t.token.span.start < t.token.span.«end» = p.token.advances h in
    let from : at ≤ t.token.span.start = p.token.starts in
    let on : t.token.span.«end» ≤ t.«end» = p.behind in
    let within : t.«end» ≤ length text = p.ends inside in
    let next : items_from (suc n) e text w at ≡ behind_all (t ∷ []) (items_from n e text (behind_token t.token.kind w) t.«end») = first_found (λ v place. items_from n e text v place) w at (first_item e (length text) w (drop at text)) t a h in
    let others = items_from n e text (behind_token t.token.kind w) t.«end» in
    let moved : done ++ (t ∷ others.items) ≡ (done ++ t ∷ []) ++ others.items = sym (append_assoc done (t ∷ []) others.items) in
    record {
      left = n;
      enough = omega (further, from, on, arith);
      inside = within;
      same = same ∙ (ap (behind_all done) next ∙ ap (λ (x : List Item). record { items = x; ending = others.ending }) moved);
    }

pub goes : (e : Bool) (text : List ℕ) (done : List Item) (w : Waiting) (at : ℕ) (t : Item) → Scans e text done w at → Ok t ≡ item_at at (first_item e (length text) w (drop at text)) → (t.token.kind ≡ TokenKind.End → ⊥) → IsItemPlaced at (length text) t
    → Scans e text (done ++ t ∷ []) (behind_token t.token.kind w) t.«end»
goes e text done w at t s a h p = go e text done w at s.left t s.enough s.inside s.same a h p

-- nothing comes behind these
abbrev pub Over : Bool → List ℕ → List Item → Option ℕ → Type 0
Over e text done cut = items_of e text ≡ record { items = done; ending = ending_of cut }

closed : (done : List Item) (ending : Ending) → behind_all done (none ending) ≡ record { items = done; ending = ending }
closed done ending = ap (λ (x : List Item). record { items = x; ending = ending }) (append-nil done)

first_end : (others : Waiting → ℕ → Items) (w : Waiting) (at : ℕ) (first : FirstItem) (t : Item) → Ok t ≡ item_at at first → t.token.kind ≡ TokenKind.End → with_first others w at first ≡ none AtEnd
first_end others w at (NoItem Unfinished) t e h = absurd (cc)
first_end others w at (NoItem (DeepAt place)) t e h = absurd (cc)
first_end others w at (NoItem (Found kind start stop)) t e h = absurd (cc)
first_end others w at (FoundItem TokenKind.End start stop after) t e h = refl
first_end others w at (FoundItem (TokenKind.Operator o) start stop after) t e h =
    let r : t ≡ record { token = record { kind = TokenKind.Operator o; span = record { start = at + start; «end» = at + stop } }; «end» = at + after } = cc in
    let z : TokenKind.Operator o ≡ TokenKind.End = sym (ap (λ (u : Item). u.token.kind) r) ∙ h in absurd (cc)
first_end others w at (FoundItem TokenKind.Number start stop after) t e h =
    let r : t ≡ record { token = record { kind = TokenKind.Number; span = record { start = at + start; «end» = at + stop } }; «end» = at + after } = cc in
    let z : TokenKind.Number ≡ TokenKind.End = sym (ap (λ (u : Item). u.token.kind) r) ∙ h in absurd (cc)
first_end others w at (FoundItem (TokenKind.Word parts) start stop after) t e h =
    let r : t ≡ record { token = record { kind = TokenKind.Word parts; span = record { start = at + start; «end» = at + stop } }; «end» = at + after } = cc in
    let z : TokenKind.Word parts ≡ TokenKind.End = sym (ap (λ (u : Item). u.token.kind) r) ∙ h in absurd (cc)

end_at : (e : Bool) (text : List ℕ) (done : List Item) (w : Waiting) (at left : ℕ) (t : Item) → length text < left + at → at ≤ length text → items_of e text ≡ behind_all done (items_from left e text w at)
    → Ok t ≡ item_at at (first_item e (length text) w (drop at text)) → t.token.kind ≡ TokenKind.End → Over e text done None
end_at e text done w at zero t enough inside same a h = absurd (omega arith)
end_at e text done w at (suc n) t enough inside same a h =
    same ∙ (ap (behind_all done) (first_end (λ v place. items_from n e text v place) w at (first_item e (length text) w (drop at text)) t a h) ∙ closed done AtEnd)

pub ends : (e : Bool) (text : List ℕ) (done : List Item) (w : Waiting) (at : ℕ) (t : Item) → Scans e text done w at → Ok t ≡ item_at at (first_item e (length text) w (drop at text)) → t.token.kind ≡ TokenKind.End → Over e text done None
ends e text done w at t s a h = end_at e text done w at s.left t s.enough s.inside s.same a h

-- a fault that isn't want of memory
abbrev pub IsReal : TokenFault → Type 0
IsReal (TokenFault.NoMemory _) = ⊥
IsReal TokenFault.Unfinished = Unit {0}
IsReal (TokenFault.TooDeep at) = Unit {0}

first_fault : (others : Waiting → ℕ → Items) (w : Waiting) (at : ℕ) (first : FirstItem) (fault : TokenFault) → IsReal fault → GivesItem (Err fault) (item_at at first) → with_first others w at first ≡ none (Cut at)
first_fault others w at (NoItem f) fault r g = refl
first_fault others w at (FoundItem kind start stop after) (TokenFault.NoMemory _) r g = absurd r
first_fault others w at (FoundItem kind start stop after) TokenFault.Unfinished r g = absurd (cc)
first_fault others w at (FoundItem kind start stop after) (TokenFault.TooDeep p) r g = absurd (cc)

fail_at : (e : Bool) (text : List ℕ) (done : List Item) (w : Waiting) (at left : ℕ) (fault : TokenFault) → length text < left + at → at ≤ length text → items_of e text ≡ behind_all done (items_from left e text w at)
    → IsReal fault → GivesItem (Err fault) (item_at at (first_item e (length text) w (drop at text))) → Over e text done (Some at)
fail_at e text done w at zero fault enough inside same r g = absurd (omega arith)
fail_at e text done w at (suc n) fault enough inside same r g =
    same ∙ (ap (behind_all done) (first_fault (λ v place. items_from n e text v place) w at (first_item e (length text) w (drop at text)) fault r g) ∙ closed done (Cut at))

pub fails : (e : Bool) (text : List ℕ) (done : List Item) (w : Waiting) (at : ℕ) (fault : TokenFault) → Scans e text done w at → IsReal fault → GivesItem (Err fault) (item_at at (first_item e (length text) w (drop at text)))
    → Over e text done (Some at)
fails e text done w at fault s r g = fail_at e text done w at s.left fault s.enough s.inside s.same r g

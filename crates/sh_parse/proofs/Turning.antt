-- Turns of a reading, one after another.
use Rattle.std.proofs.Common.{◌≡◌, ℕ, zero, suc, ◌+◌, ◌<◌, ◌≤◌, Bool, List, ◌∷◌, length, take, drop, Option, None, Result, Ok, Err, refl, sym, ap, subst, ◌∙◌, arith}
use Rattle.sh_token.specs.declared.token.TokenKind.{TokenKind}
use Rattle.sh_parse_documents.specs.declared.item.Item.{Item}
use Rattle.sh_token.specs.FirstToken.{FirstToken, Found, Unfinished, DeepAt}
use Rattle.sh_parse_documents.specs.Places.{IsItemPlaced}
use Rattle.sh_parse_documents.specs.Waiting.{Waiting, nothing, behind_token}
use Rattle.sh_parse_documents.specs.Items.{FirstItem, FoundItem, GivesItem, NoItem, first_item, item_at}
use Rattle.sh_parse.specs.declared.Reading.{Reading}
use Rattle.sh_parse.specs.declared.ParseFault.{ParseFault}
use Rattle.sh_parse.specs.declared.turn.Turn.{Turn}
use Rattle.sh_token.specs.declared.token.TokenFault.{TokenFault}
use Rattle.sh_parse_documents.specs.Stream.{Items, AtEnd, Cut, none, with_item, with_first, items_from}
use Rattle.sh_token_grammar.specs.Shell.{complete}
use Rattle.sh_parse_words.specs.declared.fault.PartFault.{PartFault}
use Rattle.sh_parse_commands.specs.Judging.{Judged, none_of}
use Rattle.sh_aliases.specs.Aliases.{AliasTable}
use Rattle.sh_parse.specs.Reading.{at_last, first_answer, nul_in, reading, Answers, source, standing}
use Rattle.sh_parse.specs.Turns.{read_from, Turns, Takes, turn_of}

abbrev before_others : Item → Items → Items
before_others t others = record { items = t ∷ others.items; ending = others.ending }

-- the items begin with the one that is found
pub with_found : (kind : TokenKind) (start stop after : ℕ) (others : Items) → (kind ≡ TokenKind.End → ⊥)
    → with_item kind start stop after others ≡ before_others (record { token = record { kind = kind; span = record { start = start; «end» = stop } }; «end» = after }) others
with_found TokenKind.End start stop after others h = absurd (h refl)
with_found (TokenKind.Operator o) start stop after others h = refl
with_found TokenKind.Number start stop after others h = refl
with_found (TokenKind.Word parts) start stop after others h = refl

no_item : (at : ℕ) (fault : FirstToken) (t : Item) → Ok t ≡ item_at at (NoItem fault) → ⊥
no_item at Unfinished t h = cc
no_item at (DeepAt place) t h = cc
no_item at (Found kind start stop) t h = cc

pub first_found : (others : Waiting → ℕ → Items) (w : Waiting) (at : ℕ) (first : FirstItem) (t : Item) → Ok t ≡ item_at at first → (t.token.kind ≡ TokenKind.End → ⊥)
    → with_first others w at first ≡ before_others t (others (behind_token t.token.kind w) t.«end»)
first_found others w at (NoItem fault) t e h = absurd (no_item at fault t e)
first_found others w at (FoundItem kind start stop after) t e h =
    let r : t ≡ record { token = record { kind = kind; span = record { start = at + start; «end» = at + stop } }; «end» = at + after } = cc in
    let k : kind ≡ TokenKind.End → ⊥ = λ x. h (ap (λ (u : Item). u.token.kind) r ∙ x) in
    with_found kind (at + start) (at + stop) (at + after) (others (behind_token kind w) (at + after)) k ∙ ap (λ (u : Item). before_others u (others (behind_token u.token.kind w) u.«end»)) (sym r)

-- the items behind it
abbrev behind : ℕ → Bool → List ℕ → Waiting → Item → Items
behind n e text w t = items_from n e text (behind_token t.token.kind w) t.«end»

next_found : (n : ℕ) (table : AliasTable) (e : Bool) (text : List ℕ) (before : Result Judged PartFault) (w : Waiting) (at : ℕ) (t : Item) → Ok t ≡ item_at at (first_item e (length text) w (drop at text)) → (t.token.kind ≡ TokenKind.End → ⊥)
    → read_from (suc n) (source table e text) (standing before w) at ≡ first_answer (source table e text) (standing before w) (t ∷ (behind n e text w t).items) (behind n e text w t).ending
next_found n table e text before w at t a h =
    ap (λ (x : Items). first_answer (source table e text) (standing before w) x.items x.ending) (first_found (λ v place. items_from n e text v place) w at (first_item e (length text) w (drop at text)) t a h)

pub taken_turns : (table : AliasTable) (e : Bool) (text : List ℕ) (before : Result Judged PartFault) (w : Waiting) (at : ℕ) (t : Item) (nul : Option ℕ) (answer : Result Turn ParseFault) → nul ≡ nul_in (take t.«end» text) → Ok t ≡ item_at at (first_item e (length text) w (drop at text)) → (t.token.kind ≡ TokenKind.End → ⊥)
    → IsItemPlaced at (length text) t → at ≤ length text → Takes (source table e text) (standing before w) t nul answer → Turns (source table e text) (standing before w) at answer
taken_turns table e text before w at t nul (Ok (Turn.On prefix v place next)) z a h p l takes =
    let further : t.token.span.start < t.token.span.«end» = p.token.advances h in
    let from : at ≤ t.token.span.start = p.token.starts in
    let on : t.token.span.«end» ≤ t.«end» = p.behind in
    let inside : t.«end» ≤ length text = p.ends l in
    let same : place ≡ t.«end» = takes.0 in (
      omega (further, from, on, same, arith),
      omega (inside, same, arith),
      λ n. next_found n table e text before w at t a h ∙ takes.3 (behind n e text w t).items (behind n e text w t).ending
          ∙ ap (λ x. first_answer (source table e text) (standing prefix x) (behind n e text w t).items (behind n e text w t).ending) takes.1
          ∙ ap (λ x. read_from n (source table e text) (standing prefix x) t.«end») (sym takes.1)
          ∙ ap (λ x. read_from n (source table e text) (standing prefix v) x) (sym same),
      takes.2 ∙ (z ∙ ap (λ x. nul_in (take x text)) (sym same)),
    )
taken_turns table e text before w at t nul (Ok (Turn.Read r)) z a h p l takes = λ n. next_found n table e text before w at t a h ∙ takes (behind n e text w t).items (behind n e text w t).ending
taken_turns table e text before w at t nul (Err fault) z a h p l takes = λ n.
    subst (λ x. Answers (Err fault) x) (sym (next_found n table e text before w at t a h)) (takes (behind n e text w t).items (behind n e text w t).ending)

-- the end of the input
first_end : (others : Waiting → ℕ → Items) (w : Waiting) (at : ℕ) (first : FirstItem) (t : Item) → Ok t ≡ item_at at first → t.token.kind ≡ TokenKind.End → with_first others w at first ≡ none AtEnd
first_end others w at (NoItem fault) t e h = absurd (no_item at fault t e)
first_end others w at (FoundItem TokenKind.End start stop after) t e h = refl
first_end others w at (FoundItem (TokenKind.Operator o) start stop after) t e h =
    let r : t ≡ record { token = record { kind = TokenKind.Operator o; span = record { start = at + start; «end» = at + stop } }; «end» = at + after } = cc in
    let z : TokenKind.Operator o ≡ TokenKind.End = sym (ap (λ (u : Item). u.token.kind) r) ∙ h in absurd (cc)
first_end others w at (FoundItem TokenKind.Number start stop after) t e h =
    let r : t ≡ record { token = record { kind = TokenKind.Number; span = record { start = at + start; «end» = at + stop } }; «end» = at + after } = cc in
    let z : TokenKind.Number ≡ TokenKind.End = sym (ap (λ (u : Item). u.token.kind) r) ∙ h in absurd (cc)
first_end others w at (FoundItem (TokenKind.Word parts) start stop after) t e h =
    let r : t ≡ record { token = record { kind = TokenKind.Word parts; span = record { start = at + start; «end» = at + stop } }; «end» = at + after } = cc in
    let z : TokenKind.Word parts ≡ TokenKind.End = sym (ap (λ (u : Item). u.token.kind) r) ∙ h in absurd (cc)

answers_turn : (table : AliasTable) (e : Bool) (text : List ℕ) (before : Result Judged PartFault) (w : Waiting) (at : ℕ) (answer : Result Reading ParseFault)
    → ((n : ℕ) → Answers answer (read_from (suc n) (source table e text) (standing before w) at)) → Turns (source table e text) (standing before w) at (turn_of answer)
answers_turn table e text before w at (Ok r) h = h
answers_turn table e text before w at (Err fault) h = h

pub end_turns : (table : AliasTable) (e : Bool) (text : List ℕ) (before : Result Judged PartFault) (w : Waiting) (at : ℕ) (t : Item) (answer : Result Reading ParseFault)
    → Ok t ≡ item_at at (first_item e (length text) w (drop at text)) → t.token.kind ≡ TokenKind.End → Answers answer (at_last e text w before AtEnd)
    → Turns (source table e text) (standing before w) at (turn_of answer)
end_turns table e text before w at t answer a k h = answers_turn table e text before w at answer (λ n.
    subst (λ (x : Items). Answers answer (first_answer (source table e text) (standing before w) x.items x.ending))
    (sym (first_end (λ v place. items_from n e text v place) w at (first_item e (length text) w (drop at text)) t a k)) h)

-- no token is found
abbrev pub IsNoMemory : TokenFault → Type 0
IsNoMemory TokenFault.Unfinished = ⊥
IsNoMemory (TokenFault.TooDeep at) = ⊥
IsNoMemory (TokenFault.NoMemory _) = Unit {0}

first_none : (others : Waiting → ℕ → Items) (w : Waiting) (at : ℕ) (first : FirstItem) (f : TokenFault) → GivesItem (Err f) (item_at at first) → (IsNoMemory f → ⊥) → with_first others w at first ≡ none (Cut at)
first_none others w at (NoItem fault) f e h = refl
first_none others w at (FoundItem kind start stop after) TokenFault.Unfinished e h = absurd (cc)
first_none others w at (FoundItem kind start stop after) (TokenFault.TooDeep place) e h = absurd (cc)
first_none others w at (FoundItem kind start stop after) (TokenFault.NoMemory _) e h = absurd (h tt)

pub none_turns : (table : AliasTable) (e : Bool) (text : List ℕ) (before : Result Judged PartFault) (w : Waiting) (at : ℕ) (f : TokenFault) (answer : Result Reading ParseFault)
    → GivesItem (Err f) (item_at at (first_item e (length text) w (drop at text))) → (IsNoMemory f → ⊥) → Answers answer (at_last e text w before (Cut at))
    → Turns (source table e text) (standing before w) at (turn_of answer)
none_turns table e text before w at f answer a k h = answers_turn table e text before w at answer (λ n.
    subst (λ (x : Items). Answers answer (first_answer (source table e text) (standing before w) x.items x.ending))
    (sym (first_none (λ v place. items_from n e text v place) w at (first_item e (length text) w (drop at text)) f a k)) h)

-- where a reading stands: what is to be read is what the whole text reads as
pub record Stands (table : AliasTable) (e : Bool) (text : List ℕ) (before : Result Judged PartFault) (w : Waiting) (at : ℕ) (nul : Option ℕ) : Type 0 where
  pub left : ℕ
  pub enough : length text < left + at
  pub inside : at ≤ length text
  pub same : reading table e text ≡ read_from left (source table e text) (standing before w) at
  pub clean : nul ≡ nul_in (take at text)

pub begins : (table : AliasTable) (e : Bool) (text : List ℕ) → Stands table e text (Ok (none_of complete)) nothing 0 None
unfolding reading
begins table e text = record { left = suc (length text); enough = omega arith; inside = omega arith; same = refl; clean = refl }

go_on : (table : AliasTable) (e : Bool) (text : List ℕ) (before prefix : Result Judged PartFault) (w v : Waiting) (at place left : ℕ) (next : Option ℕ) → length text < left + at → at ≤ length text → reading table e text ≡ read_from left (source table e text) (standing before w) at → Turns (source table e text) (standing before w) at (Ok (Turn.On prefix v place next)) → Stands table e text prefix v place next
go_on table e text before prefix w v at place zero next enough inside same turns = absurd (omega arith)
go_on table e text before prefix w v at place (suc n) next enough inside same turns =
    let further : at < place = turns.0 in
    record { left = n; enough = omega arith; inside = turns.1; same = same ∙ turns.2 n; clean = turns.3 }

pub goes_on : (table : AliasTable) (e : Bool) (text : List ℕ) (before prefix : Result Judged PartFault) (w v : Waiting) (at place : ℕ) (nul next : Option ℕ) → Stands table e text before w at nul → Turns (source table e text) (standing before w) at (Ok (Turn.On prefix v place next)) → Stands table e text prefix v place next
goes_on table e text before prefix w v at place nul next s turns = go_on table e text before prefix w v at place s.left next s.enough s.inside s.same turns

decide : (table : AliasTable) (e : Bool) (text : List ℕ) (before : Result Judged PartFault) (w : Waiting) (at left : ℕ) (r : Reading) → length text < left + at → at ≤ length text → reading table e text ≡ read_from left (source table e text) (standing before w) at → Turns (source table e text) (standing before w) at (Ok (Turn.Read r)) → reading table e text ≡ Ok r
decide table e text before w at zero r enough inside same turns = absurd (omega arith)
decide table e text before w at (suc n) r enough inside same turns = same ∙ turns n

pub decides : (table : AliasTable) (e : Bool) (text : List ℕ) (before : Result Judged PartFault) (w : Waiting) (at : ℕ) (nul : Option ℕ) (r : Reading) → Stands table e text before w at nul → Turns (source table e text) (standing before w) at (Ok (Turn.Read r)) → reading table e text ≡ Ok r
decides table e text before w at nul r s turns = decide table e text before w at s.left r s.enough s.inside s.same turns

fail : (table : AliasTable) (e : Bool) (text : List ℕ) (before : Result Judged PartFault) (w : Waiting) (at left : ℕ) (fault : ParseFault) → length text < left + at → at ≤ length text → reading table e text ≡ read_from left (source table e text) (standing before w) at → Turns (source table e text) (standing before w) at (Err fault) → Answers (Err fault) (reading table e text)
fail table e text before w at zero fault enough inside same turns = absurd (omega arith)
fail table e text before w at (suc n) fault enough inside same turns = subst (λ x. Answers (Err fault) x) (sym same) (turns n)

pub fails : (table : AliasTable) (e : Bool) (text : List ℕ) (before : Result Judged PartFault) (w : Waiting) (at : ℕ) (nul : Option ℕ) (fault : ParseFault) → Stands table e text before w at nul → Turns (source table e text) (standing before w) at (Err fault) → Answers (Err fault) (reading table e text)
fails table e text before w at nul fault s turns = fail table e text before w at s.left fault s.enough s.inside s.same turns

-- The words of a text, in which the faults of their parts stand.
use Rattle.std.proofs.Common.{◌≡◌, ℕ, zero, suc, ◌+◌, ◌-◌, ◌^◌, ◌<◌, ◌≤◌, Bool, true, false, List, [], ◌∷◌, ◌++◌, length, drop, Option, Some, None, Ok, Err, refl, sym, ap, subst, ◌∙◌, arith, if◌then◌else◌}
use Rattle.std.proofs.lemmas.List.{length-drop, drop-drop}
use Rattle.sh_token_pieces.specs.declared.context.Context.TheVariants.{Top}
use Rattle.sh_token_pieces.specs.declared.piece.Piece.{Piece}
use Rattle.sh_token_pieces.specs.declared.piece.Piece.TheVariants as piece
use Rattle.sh_token.specs.declared.token.TokenKind.{TokenKind}
use Rattle.sh_token.specs.FirstToken.{FirstToken, Found, Unfinished, DeepAt, IsFirst}
use Rattle.sh_token.specs.Found.{first_token}
use Rattle.sh_token.specs.Tokens.{HasToken, IsToken, ending, operator, word, is_number}
use Rattle.sh_token.proofs.Laws.{is_first}
use Rattle.sh_base.specs.declared.span.Span.{Span}
use Rattle.sh_parse_documents.specs.declared.item.Item.{Item}
use Rattle.sh_parse_documents.specs.Bodies.{bodies_size}
use Rattle.sh_parse_documents.specs.Waiting.{Waiting, nothing, behind_token, due_at}
use Rattle.sh_parse_documents.specs.Items.{FirstItem, FoundItem, NoItem, first_item, item_of, with_bodies}
use Rattle.sh_parse_documents.specs.Stream.{Items, with_item, with_first, items_from, items_of}
use Rattle.sh_parse_words.specs.declared.fault.PartFault.{PartFault}
use Rattle.sh_parse_leaves.specs.Leaves.{leaf_of}
use Rattle.sh_parse_leaves.specs.Words.{Reader}
use Rattle.sh_parse.proofs.Faults.{ReadsIn}
use Rattle.sh_parse.proofs.Insides.{found_inside}
use Rattle.sh_laws.specs.Standing.{Stands}
use Rattle.sh_laws.proofs.Pieces.{Pieces, EndsWith, both_end, pieces_of, pieces_end, end_at}
use Rattle.sh_laws.proofs.Standing.{ResultAt, word_at}

-- the pieces of a token that is a word
abbrev KindPieces : Bool → List ℕ → List ℕ → TokenKind → Type 0
KindPieces e prefix rest (TokenKind.Operator o) = Unit {0}
KindPieces e prefix rest TokenKind.Number = Unit {0}
KindPieces e prefix rest (TokenKind.Word ms) = Pieces e ms prefix rest
KindPieces e prefix rest TokenKind.End = Unit {0}

kind_pieces : (e : Bool) (prefix rest : List ℕ) (number : Bool) (ms : List Piece) → Pieces e ms prefix rest → KindPieces e prefix rest (if number then TokenKind.Number else TokenKind.Word ms)
kind_pieces e prefix rest true ms p = tt
kind_pieces e prefix rest false ms p = p

token_pieces : (e : Bool) (limit : ℕ) (gap : List Piece) (prefix rest : List ℕ) (kind : TokenKind) → IsToken e limit gap prefix rest kind → KindPieces e prefix rest kind
token_pieces e limit gap prefix rest _ (ending t f r) = tt
token_pieces e limit gap prefix rest _ (operator o i) = tt
token_pieces e limit gap prefix rest _ (word ms r x xs middle a n k i t) =
    let all = pieces_of e limit (piece.WordOpen ∷ ms) gap (Top ∷ []) prefix middle a in
    let first : Pieces e ms prefix middle = subst (λ z. Pieces e ms z middle) (sym all.1) all.2 in
    kind_pieces e prefix rest (is_number r ms) ms (subst (λ z. Pieces e ms prefix z) i.written first)

token_ends : (e : Bool) (limit : ℕ) (bytes prefix rest : List ℕ) (kind : TokenKind) → HasToken e limit bytes prefix rest kind → EndsWith bytes prefix
token_ends e limit bytes prefix rest kind h =
    both_end bytes h.middle prefix (pieces_end e h.gap bytes h.middle (pieces_of e limit h.gap [] (Top ∷ []) bytes h.middle h.between)) (_, h.joined.is)

no_fault : {A : Type 0} (x : A) (f : PartFault) → Ok x ≡ Err f → ⊥
no_fault x f h = cc

module _ (read : Reader) (reads : ReadsIn read) (e : Bool) (text : List ℕ) (small : length text < 2 ^ 64) where
  abbrev pub FaultsStand : Item → Type 0
  FaultsStand t =
      (left : ℕ) (f : PartFault) → leaf_of read left text t.token.kind t.token.span ≡ Err f → Stands t.token.span.start t.token.span.«end» f

  kind_stands : (kind : TokenKind) (lo hi : ℕ) (prefix rest : List ℕ) → KindPieces e prefix rest kind → drop lo text ≡ prefix → lo + length prefix ≡ length text → hi + length rest ≡ length text
      → (left : ℕ) (f : PartFault) → leaf_of read left text kind (record { start = lo; «end» = hi }) ≡ Err f → Stands lo hi f
  kind_stands (TokenKind.Operator o) lo hi prefix rest p d l r left f h = absurd (no_fault _ f h)
  kind_stands TokenKind.Number lo hi prefix rest p d l r left f h = absurd (no_fault _ f h)
  kind_stands (TokenKind.Word ms) lo hi prefix rest p d l r left f h =
      let span : Span = record { start = lo; «end» = hi } in
      let pieces : Pieces e ms (drop lo text) rest = subst (λ z. Pieces e ms z rest) (sym d) p in
      let size : length (drop lo text) ≡ length prefix = ap length d in
      let begins : lo ≤ 2 ^ 64 - 1 = omega (l, small, arith) in
      subst (λ x. ResultAt read reads text lo hi begins x) h
      (word_at read reads text lo hi begins e left ms span rest pieces (omega (size, l, arith)) r)
  kind_stands TokenKind.End lo hi prefix rest p d l r left f h = absurd (no_fault _ f h)

  token_stands : (limit at : ℕ) → at ≤ length text → (kind : TokenKind) (start stop : ℕ) → first_token e limit (drop at text) ≡ Found kind start stop
      → (left : ℕ) (f : PartFault) → leaf_of read left text kind (record { start = at + start; «end» = at + stop }) ≡ Err f → Stands (at + start) (at + stop) f
  token_stands limit at m kind start stop h =
      let f : IsFirst e limit (drop at text) (Found kind start stop) = subst (λ x. IsFirst e limit (drop at text) x) h (is_first e limit (drop at text)) in
      let prefix = f.0 in
      let rest = f.1.0 in
      let token = f.1.1 in
      let from : start + length prefix ≡ length (drop at text) = f.1.2 in
      let to : stop + length rest ≡ length (drop at text) = f.1.3 in
      let size : length (drop at text) ≡ length text - at = length-drop at text in
      let begins : drop (at + start) text ≡ prefix = sym (drop-drop start at text) ∙ end_at (drop at text) prefix start (token_ends e limit (drop at text) prefix rest kind token) from in
      kind_stands kind (at + start) (at + stop) prefix rest (token_pieces e limit token.gap prefix rest kind token.token) begins
      (omega (from, size, m, arith)) (omega (to, size, m, arith))

  -- ---- the items of the text
  abbrev pub AllStand : List Item → Type 0
  AllStand [] = Unit {0}
  AllStand (t ∷ items) = FaultsStand t × AllStand items

  bodies_stand : (kind kind' : TokenKind) (a b start stop after : ℕ) (o : Option ℕ) → with_bodies kind' a b o ≡ FoundItem kind start stop after
      → (kind' ≡ kind) × (a ≡ start) × (b ≡ stop)
  bodies_stand kind kind' a b start stop after None h = absurd (cc)
  bodies_stand kind kind' a b start stop after (Some n) h = (cc, cc, cc)

  abbrev Standing : ℕ → TokenKind → ℕ → ℕ → Type 0
  Standing at kind start stop =
      (left : ℕ) (f : PartFault) → leaf_of read left text kind (record { start = at + start; «end» = at + stop }) ≡ Err f → Stands (at + start) (at + stop) f

  same_stands : (at : ℕ) (kind kind' : TokenKind) (a b start stop : ℕ) → (kind' ≡ kind) × (a ≡ start) × (b ≡ stop) → Standing at kind' a b → Standing at kind start stop
  same_stands at kind kind' a b start stop (p, q, r) h =
      subst (λ z. Standing at kind start z) r (subst (λ y. Standing at kind y b) q (subst (λ x. Standing at x a b) p h))

  found_stands : (limit : ℕ) (w : Waiting) (at : ℕ) → at ≤ length text → (kind : TokenKind) (start stop after : ℕ) (first : FirstToken) → first_token e limit (drop at text) ≡ first
      → item_of e w (drop at text) first ≡ FoundItem kind start stop after → Standing at kind start stop
  found_stands limit w at m kind start stop after (Found kind' a b) f h =
      same_stands at kind kind' a b start stop
      (bodies_stand kind kind' a b start stop after (bodies_size e (due_at kind' w) (drop b (drop at text))) h) (token_stands limit at m kind' a b f)
  found_stands limit w at m kind start stop after Unfinished f h = absurd (cc)
  found_stands limit w at m kind start stop after (DeepAt place) f h = absurd (cc)

  item_stands : (limit : ℕ) (w : Waiting) (at : ℕ) → at ≤ length text → (kind : TokenKind) (start stop after : ℕ) → first_item e limit w (drop at text) ≡ FoundItem kind start stop after
      → Standing at kind start stop
  unfolding first_item
  item_stands limit w at m kind start stop after h = found_stands limit w at m kind start stop after (first_token e limit (drop at text)) refl h

  with_item_stands : (kind : TokenKind) (start stop after : ℕ) (others : Items) → ((kind ≡ TokenKind.End → ⊥)
      → ((left : ℕ) (f : PartFault) → leaf_of read left text kind (record { start = start; «end» = stop }) ≡ Err f → Stands start stop f) × AllStand others.items)
      → AllStand (with_item kind start stop after others).items
  with_item_stands TokenKind.End start stop after others h = tt
  with_item_stands (TokenKind.Operator o) start stop after others h = h (λ x. cc)
  with_item_stands TokenKind.Number start stop after others h = h (λ x. cc)
  with_item_stands (TokenKind.Word ms) start stop after others h = h (λ x. cc)

  first_stands : (w : Waiting) (at : ℕ) → at ≤ length text → (others : Waiting → ℕ → Items)
      → ((v : Waiting) (place : ℕ) → place ≤ length text → AllStand (others v place).items)
      → (first : FirstItem) → first_item e (length text) w (drop at text) ≡ first → AllStand (with_first others w at first).items
  first_stands w at m others more (NoItem wrong) h = tt
  first_stands w at m others more (FoundItem kind start stop after) h =
      with_item_stands kind (at + start) (at + stop) (at + after) (others (behind_token kind w) (at + after)) (λ k. (
        item_stands (length text) w at m kind start stop after h,
        more (behind_token kind w) (at + after) (found_inside e text w at m kind start stop after k h).inside,
      ))

  from_stands : (n : ℕ) (w : Waiting) (at : ℕ) → at ≤ length text → AllStand (items_from n e text w at).items
  from_stands zero w at m = tt
  from_stands (suc n) w at m =
      first_stands w at m (λ v place. items_from n e text v place) (λ v place k. from_stands n v place k) (first_item e (length text) w (drop at text)) refl

  one_stands : (before : List Item) (t : Item) (after : List Item) → AllStand (before ++ t ∷ after) → FaultsStand t
  one_stands [] t after h = h.0
  one_stands (b ∷ before) t after h = one_stands before t after h.1

  pub faults_stand : (before : List Item) (t : Item) (after : List Item) → (items_of e text).items ≡ before ++ t ∷ after → FaultsStand t
  faults_stand before t after h = one_stands before t after (subst (λ z. AllStand z) h (from_stands (suc (length text)) nothing 0 (omega arith)))

  pub all_faults_stand : AllStand (items_of e text).items
  all_faults_stand = from_stands (suc (length text)) nothing 0 (omega arith)

-- Texts nest no deeper than their levels and their bytes: a text in another one has a level less left, or, in backquotes that open a level too
-- many, less bytes.
use Rattle.std.proofs.Common.{◌≡◌, ◌↔◌, ◌⊎◌, inl, inr, ℕ, zero, suc, ◌+◌, ◌-◌, ◌<◌, ◌≤◌, nat_eq, nat_lt, Bool, true, false, List, [], ◌∷◌, ◌++◌, length, drop, take, Option, Some, None, Result, Ok, Err, refl, sym, ap, subst, ◌∙◌, arith, if◌then◌else◌}
use Rattle.std.proofs.lemmas.Bool.{eqb-false}
use Rattle.sh_token_pieces.specs.declared.here.Delimiter.{Delimiter}
use Rattle.sh_token_pieces.specs.declared.piece.Piece.{Piece}
use Rattle.sh_token_pieces.specs.declared.piece.Piece.TheVariants as piece
use Rattle.sh_token_pieces.specs.TokenClasses.{literal_prefix}
use Rattle.sh_token.specs.Found.{first_token}
use Rattle.sh_token.specs.declared.token.TokenKind.{TokenKind}
use Rattle.sh_base.specs.declared.span.Span.{Span}
use Rattle.sh_token_grammar.specs.Shell.{substitution as substitutions}
use Rattle.sh_syntax.specs.declared.tree.CompoundList.{CompoundList}
use Rattle.sh_syntax.specs.declared.tree.Part.{Part}
use Rattle.sh_syntax.specs.declared.tree.Parts.{Parts}
use Rattle.sh_parse_documents.specs.declared.document.Document.{Document}
use Rattle.sh_parse_documents.specs.Documents.{between, documents, place_at}
use Rattle.sh_parse_documents.specs.declared.item.Item.{Item}
use Rattle.sh_parse_documents.specs.Waiting.{Waiting, nothing, behind_token, due_at}
use Rattle.sh_parse_documents.specs.Items.{first_item}
use Rattle.sh_parse_documents.specs.Stream.{items_of, waiting_behind}
use Rattle.sh_parse_words.specs.declared.parameter.Braces.{Braces}
use Rattle.sh_parse_words.specs.declared.build.Form.{Form}
use Rattle.sh_parse_words.specs.declared.build.Form.TheVariants as form
use Rattle.sh_parse_words.specs.declared.build.Frame.{Frame}
use Rattle.sh_parse_words.specs.declared.build.Skip.{Skip}
use Rattle.sh_parse_words.specs.declared.build.Request.{Request}
use Rattle.sh_parse_words.specs.declared.build.Substitution.{Substitution}
use Rattle.sh_parse_words.specs.declared.fault.PartFault.{PartFault}
use Rattle.sh_parse_words.specs.declared.fault.PartFault.TheVariants as fault
use Rattle.sh_parse_words.specs.Building.{Building, Outcome, empty_building, with_literal, parts_of, with_part, with_bytes, opened, last_frame, other_frames, closed_by, with_form_part, on, skip_close, skipping, open_braces, in_quotes, backquotes_request, plainly, taking, take_by, take_piece, with_program}
use Rattle.sh_parse_words.specs.Parameters.{braces_of}
use Rattle.sh_parse_words.specs.Places.{behind_piece}
use Rattle.sh_parse_leaves.specs.Results.{and_then, fault_moved}
use Rattle.sh_parse_leaves.specs.Sources.{text_between, behind_pieces}
use Rattle.sh_parse_leaves.specs.Words.{Reader, text_of, place_in, at_its_level, answer_of, with_answer, with_piece, begins_closed, with_pieces, whole, parts_in, within, unread}
use Rattle.sh_parse_leaves.specs.Leaves.{name_size, assignment_leaf, plain_leaf, leaf_by, word_leaf, leaf_of}
use Rattle.sh_parse_commands.specs.Documents.{prefix_of, unless, expanded_body, document_parts, with_documents, bodies_of}
use Rattle.sh_parse_commands.specs.Judging.{Judged, none_of, with_input, takes, open_in, with_leaf, with_item, with_items}
use Rattle.sh_parse_leaves.specs.Inputs.{input_of}
use Rattle.sh_parse_commands.proofs.Shorter.{IsBackquotes, backquotes_form, text_size, backquotes_size, DocumentsFit, documents_size}

-- what is being put together has at most so many levels left, and one at least where a substitution is open
abbrev AllLeft : ℕ → List Frame → Type 0
AllLeft n [] = Unit {0}
AllLeft n (f ∷ fs) = (f.left ≤ n) × AllLeft n fs

abbrev SkipLeft : ℕ → Option Skip → Type 0
SkipLeft n None = Unit {0}
SkipLeft n (Some s) = 0 < n

record IsWithin (n : ℕ) (b : Building) : Type 0 where
  pub left : b.left ≤ n
  pub frames : AllLeft n b.frames
  pub skip : SkipLeft b.left b.skip

abbrev Deepens : ℕ → Request → Type 0
Deepens n r = (r.left < n) ⊎ (IsBackquotes r.form × (r.left ≡ 0))

abbrev Asks : ℕ → Option Request → Type 0
Asks n None = Unit {0}
Asks n (Some r) = Deepens n r

abbrev Gives : ℕ → Outcome → Type 0
Gives n (Ok t) = IsWithin n t.building × Asks n t.request
Gives n (Err f) = Unit {0}

push_left : (n : ℕ) (fs : List Frame) (f : Frame) → AllLeft n fs → f.left ≤ n → AllLeft n (fs ++ f ∷ [])
push_left n [] f h l = (l, tt)
push_left n (g ∷ fs) f h l = (h.0, push_left n fs f h.1 l)

others_left : (n : ℕ) (fs : List Frame) → AllLeft n fs → AllLeft n (other_frames fs)
others_left n [] h = tt
others_left n (f ∷ []) h = tt
others_left n (f ∷ g ∷ fs) h = (h.0, others_left n (g ∷ fs) h.1)

abbrev LastLeft : ℕ → Option Frame → Type 0
LastLeft n None = Unit {0}
LastLeft n (Some f) = f.left ≤ n

last_left : (n : ℕ) (fs : List Frame) → AllLeft n fs → LastLeft n (last_frame fs)
last_left n [] h = tt
last_left n (f ∷ []) h = h.0
last_left n (f ∷ g ∷ fs) h = last_left n (g ∷ fs) h.1

no_skip : (left : ℕ) (s : Option Skip) → s ≡ None → SkipLeft left s
no_skip left s e = subst (λ x. SkipLeft left x) (sym e) tt

part_within : (n : ℕ) (b : Building) (p : Part) → IsWithin n b → IsWithin n (with_part b p)
unfolding with_part
part_within n b p h = record { left = h.left; frames = h.frames; skip = h.skip }

bytes_within : (n : ℕ) (b : Building) (bytes : List ℕ) → IsWithin n b → IsWithin n (with_bytes b bytes)
unfolding with_bytes
bytes_within n b bytes h = record { left = h.left; frames = h.frames; skip = h.skip }

opened_within : (n : ℕ) (b : Building) (f : Form) (left : ℕ) → IsWithin n b → b.skip ≡ None → left ≤ n → IsWithin n (opened b f left)
unfolding opened
opened_within n b f left h e l = record { left = l; frames = push_left n b.frames _ h.frames h.left; skip = no_skip left b.skip e }

closed_within_by : (n : ℕ) (b : Building) (o : Option Frame) → IsWithin n b → b.skip ≡ None → LastLeft n o → IsWithin n (closed_by o b)
closed_within_by n b None h e l = record { left = h.left; frames = others_left n b.frames h.frames; skip = h.skip }
closed_within_by n b (Some f) h e l = record { left = l; frames = others_left n b.frames h.frames; skip = no_skip f.left b.skip e }

closed_within : (n : ℕ) (b : Building) → IsWithin n b → b.skip ≡ None → IsWithin n (with_form_part b)
unfolding with_form_part
closed_within n b h e = closed_within_by n b (last_frame b.frames) h e (last_left n b.frames h.frames)

plainly_within : (n : ℕ) (b : Building) (m : Piece) → IsWithin n b → b.skip ≡ None → IsWithin n (plainly b m)
unfolding plainly
plainly_within n b (piece.Byte c) h e = bytes_within n b _ h
plainly_within n b (piece.Escaped c) h e = part_within n b _ h
plainly_within n b (piece.Backslash c) h e = bytes_within n b _ h
plainly_within n b (piece.SingleQuoted bytes) h e = part_within n b _ h
plainly_within n b piece.DoubleQuotesOpen h e = opened_within n b form.Quotes b.left h e h.left
plainly_within n b piece.DoubleQuotesClose h e = closed_within n b h e
plainly_within n b piece.Dollar h e = bytes_within n b _ h
plainly_within n b (piece.Variable bytes) h e = part_within n b _ h
plainly_within n b (piece.Parameter c) h e = part_within n b _ h
plainly_within n b piece.BraceClose h e = closed_within n b h e
plainly_within n b piece.ArithmeticClose h e = closed_within n b h e
plainly_within n b m h e = h

level_gives : (n left place : ℕ) (o : Outcome) (z : Bool) → nat_eq left 0 ≡ z → (0 < left → Gives n o) → Gives n (if z then Err (fault.TooDeep place) else o)
level_gives n left place o true e h = tt
level_gives n left place o false e h = let x = eqb-false left 0 e in h (positive left x)
  where
    positive : (k : ℕ) → (k ≡ 0 → ⊥) → 0 < k
    positive zero x = absurd (x refl)
    positive (suc k) x = omega arith

braces_give : (n : ℕ) (b : Building) (place : ℕ) (o : Option Braces) → IsWithin n b → b.skip ≡ None → Gives n (open_braces b place o)
braces_give n b place None h e = level_gives n b.left place (Err (fault.BadSubstitution place)) (nat_eq b.left 0) refl (λ k. tt)
braces_give n b place (Some f) h e =
    level_gives n b.left place (on (opened b (form.Braces f) (b.left - 1))) (nat_eq b.left 0) refl (λ k.
    let l : b.left ≤ n = h.left in (opened_within n b (form.Braces f) (b.left - 1) h e (omega (l, arith)), tt))

asks_backquotes : (n : ℕ) (b : Building) (place behind : ℕ) → b.left ≤ n → (k : ℕ) → b.left ≡ k → Deepens n (backquotes_request b place behind)
asks_backquotes n b place behind l zero e =
    let none : b.left - 1 ≡ 0 = omega (e, arith) in inr (backquotes_form (in_quotes false b.frames), none)
asks_backquotes n b place behind l (suc k) e = let fewer : b.left - 1 < n = omega (e, l, arith) in inl fewer

taking_gives : (n : ℕ) (b : Building) (m : Piece) (empty : Bool) (place behind : ℕ) → IsWithin n b → b.skip ≡ None → Gives n (taking b m empty place behind)
taking_gives n b (piece.BraceOpen head) empty place behind h e = braces_give n b place (braces_of head empty) h e
taking_gives n b piece.ArithmeticOpen empty place behind h e =
    level_gives n b.left place (on (opened b form.Arithmetic (b.left - 1))) (nat_eq b.left 0) refl (λ l.
    let k : b.left ≤ n = h.left in (opened_within n b form.Arithmetic (b.left - 1) h e (omega (k, arith)), tt))
taking_gives n b piece.CommandsOpen empty place behind h e =
    level_gives n b.left place (on (record b { skip = Some (record { depth = 0; place = place; start = behind }) })) (nat_eq b.left 0) refl (λ l.
    (record { left = h.left; frames = h.frames; skip = l }, tt))
taking_gives n b (piece.Backquoted bytes) empty place behind h e = (h, asks_backquotes n b place behind h.left b.left refl)
taking_gives n b m empty place behind h e = (plainly_within n b m h e, tt)

close_gives : (n : ℕ) (b : Building) (s : Skip) (here : ℕ) (z : Bool) → nat_eq s.depth 0 ≡ z → IsWithin n b → 0 < b.left → Gives n (skip_close b s here)
close_gives n b s here true e h l = let k : b.left ≤ n = h.left in rw e (record { left = h.left; frames = h.frames; skip = tt }, inl (omega (k, l, arith)))
close_gives n b s here false e h l = rw e (record { left = h.left; frames = h.frames; skip = l }, tt)

skipping_gives : (n : ℕ) (b : Building) (s : Skip) (m : Piece) (here : ℕ) → IsWithin n b → 0 < b.left → Gives n (skipping b s m here)
skipping_gives n b s piece.CommandsOpen here h l = (record { left = h.left; frames = h.frames; skip = l }, tt)
skipping_gives n b s piece.CommandsClose here h l = close_gives n b s here (nat_eq s.depth 0) refl h l
skipping_gives n b s m here h l = (h, tt)

take_gives_by : (n : ℕ) (b : Building) (m : Piece) (empty : Bool) (place behind : ℕ) (o : Option Skip) → b.skip ≡ o → IsWithin n b → Gives n (take_by o b m empty place behind)
take_gives_by n b m empty place behind None e h = taking_gives n b m empty place behind h e
take_gives_by n b m empty place behind (Some s) e h = skipping_gives n b s m place h (subst (λ x. SkipLeft b.left x) e h.skip)

take_gives : (n : ℕ) (b : Building) (m : Piece) (empty : Bool) (place behind : ℕ) → IsWithin n b → Gives n (take_piece b m empty place behind)
unfolding take_piece
take_gives n b m empty place behind h = take_gives_by n b m empty place behind b.skip refl h

program_within : (n : ℕ) (b : Building) (s : Substitution) (c : CompoundList) → IsWithin n b → IsWithin n (with_program b s c)
unfolding with_program
program_within n b s c h = part_within n b _ h

pub then_all : {A B : Type 0} (o : Result A PartFault) (f h : A → Result B PartFault) → ((x : A) → f x ≡ h x) → and_then o f ≡ and_then o h
then_all (Ok x) f h e = e x
then_all (Err y) f h e = refl

-- readers that agree on texts that nest less than this, and on the one without bytes or levels
abbrev pub Agree : ℕ → Reader → Reader → Type 0
Agree m read other = ((left : ℕ) (inner : List ℕ) → left + length inner < m → read left inner ≡ other left inner) × (read 0 [] ≡ other 0 [])

below : (n k size : ℕ) (read other : Reader) → Agree (n + size) read other → Agree (n - k + size) read other
below n k size read other agree = ((λ left inner l. agree.0 left inner (omega (l, arith))), agree.1)

-- agree on the words and bodies of one that has n levels left and at most this size
module _ (n size : ℕ) (read other : Reader) (agree : Agree (n + size) read other) where
  abbrev After : Result Building PartFault → Type 0
  After (Ok b) = IsWithin n b
  After (Err f) = Unit {0}

  deep_same : (left bytes : ℕ) (inner : List ℕ) → left ≡ 0 → length inner ≤ bytes - 2 → bytes ≤ size → read left inner ≡ other left inner
  deep_same left bytes [] e k s = subst (λ z. read z [] ≡ other z []) (sym e) agree.1
  deep_same left bytes (c ∷ inner) e k s = agree.0 left (c ∷ inner) (omega (e, k, s, arith))

  inner_same : (text : List ℕ) (r : Request) → length text ≤ size → Deepens n r → read r.left (text_of r text) ≡ other r.left (text_of r text)
  inner_same text r s (inl l) = let k = text_size r text in agree.0 r.left (text_of r text) (omega (k, s, l, arith))
  inner_same text r s (inr (f, e)) = deep_same r.left (length text) (text_of r text) e (backquotes_size r text f) s

  answer_same : (text : List ℕ) (r : Request) → length text ≤ size → Deepens n r → answer_of read text r ≡ answer_of other text r
  unfolding answer_of
  answer_same text r s l = ap (λ x. at_its_level r (fault_moved (λ at. place_in r at) x)) (inner_same text r s l)

  answered_same : (text : List ℕ) (b : Building) (o : Option Request) → length text ≤ size → Asks n o → with_answer read text b o ≡ with_answer other text b o
  answered_same text b None s l = refl
  answered_same text b (Some r) s l = ap (λ x. and_then x (λ c. Ok (with_program b r.form c))) (answer_same text r s l)

  made_within : (b : Building) (s : Substitution) (x : Result CompoundList PartFault) → IsWithin n b → After (and_then x (λ c. Ok (with_program b s c)))
  made_within b s (Ok c) h = program_within n b s c h
  made_within b s (Err f) h = tt

  answered_within : (text : List ℕ) (b : Building) (o : Option Request) → IsWithin n b → After (with_answer read text b o)
  answered_within text b None h = h
  answered_within text b (Some r) h = made_within b r.form (answer_of read text r) h

  step_same : (text : List ℕ) (o : Outcome) → length text ≤ size → Gives n o → and_then o (λ t. with_answer read text t.building t.request) ≡ and_then o (λ t. with_answer other text t.building t.request)
  step_same text (Ok t) s h = answered_same text t.building t.request s h.1
  step_same text (Err f) s h = refl

  step_within : (text : List ℕ) (o : Outcome) → Gives n o → After (and_then o (λ t. with_answer read text t.building t.request))
  step_within text (Ok t) h = answered_within text t.building t.request h.0
  step_within text (Err f) h = tt

  piece_same : (text : List ℕ) (b : Building) (m : Piece) (empty : Bool) (bytes : List ℕ) → length text ≤ size → IsWithin n b → with_piece read (unread text bytes) b m empty ≡ with_piece other (unread text bytes) b m empty
  unfolding with_piece
  piece_same text b m empty bytes s h = step_same text _ s (take_gives n b m empty _ _ h)

  piece_within : (text : List ℕ) (b : Building) (m : Piece) (empty : Bool) (bytes : List ℕ) → IsWithin n b → After (with_piece read (unread text bytes) b m empty)
  unfolding with_piece
  piece_within text b m empty bytes h = step_within text _ (take_gives n b m empty _ _ h)

  then_within : (o : Result Building PartFault) (f g : Building → Result Building PartFault) → After o → ((b : Building) → IsWithin n b → f b ≡ g b) → and_then o f ≡ and_then o g
  then_within (Ok b) f g h e = e b h
  then_within (Err x) f g h e = refl

  pieces_same : (text : List ℕ) → length text ≤ size → (ms : List Piece) (b : Building) (bytes : List ℕ) → IsWithin n b → with_pieces read text b ms bytes ≡ with_pieces other text b ms bytes
  pieces_same text s [] b bytes h = refl
  pieces_same text s (m ∷ ms) b bytes h =
      then_within (with_piece read (unread text bytes) b m (begins_closed ms)) (λ c. with_pieces read text c ms (behind_piece m bytes)) (λ c. with_pieces other text c ms (behind_piece m bytes))
      (piece_within text b m (begins_closed ms) bytes h) (λ c k. pieces_same text s ms c (behind_piece m bytes) k)
      ∙ ap (λ o. and_then o (λ c. with_pieces other text c ms (behind_piece m bytes))) (piece_same text b m (begins_closed ms) bytes s h)

  parts_same : (text : List ℕ) (ms : List Piece) (bytes : List ℕ) → length text ≤ size → parts_in read n text ms bytes ≡ parts_in other n text ms bytes
  unfolding parts_in
  parts_same text ms bytes s =
      ap (λ o. and_then o (λ b. Ok (whole b))) (pieces_same text s ms (empty_building n) bytes (record { left = omega arith; frames = tt; skip = tt }))

  word_by : (text : List ℕ) (ms : List Piece) (span : Span) (prefix : List ℕ) (o : Option ℕ) → length text ≤ size → leaf_by (within read n text) ms span prefix o ≡ leaf_by (within other n text) ms span prefix o
  word_by text ms span prefix None s =
      ap (λ o. and_then o (λ parts. Ok (plain_leaf ms prefix parts (text_between text span.start span.«end»)))) (parts_same text ms (drop span.start text) s)
  word_by text ms span prefix (Some k) s =
      ap (λ o. and_then o (λ value. Ok (assignment_leaf prefix k value (text_between text span.start span.«end»))))
      (parts_same text (drop (suc k) ms) (behind_pieces (take (suc k) ms) (drop span.start text)) s)

  word_same : (text : List ℕ) (ms : List Piece) (span : Span) → length text ≤ size → word_leaf read n text ms span ≡ word_leaf other n text ms span
  unfolding word_leaf
  word_same text ms span s = word_by text ms span (literal_prefix ms) (name_size (literal_prefix ms)) s

  leaf_same : (text : List ℕ) (kind : TokenKind) (span : Span) → length text ≤ size → leaf_of read n text kind span ≡ leaf_of other n text kind span
  leaf_same text (TokenKind.Operator o) span s = refl
  leaf_same text TokenKind.Number span s = refl
  leaf_same text (TokenKind.Word ms) span s = word_same text ms span s
  leaf_same text TokenKind.End span s = refl

  body_same : (bytes : List ℕ) → length bytes ≤ size → expanded_body read n bytes ≡ expanded_body other n bytes
  unfolding expanded_body
  body_same bytes s =
      ap (λ o. and_then o (λ parts. unless (prefix_of bytes).fault parts)) (parts_same bytes (prefix_of bytes).pieces bytes s)

  document_same : (d : Document) → length d.text ≤ size → document_parts read n d ≡ document_parts other n d
  unfolding document_parts
  document_same d s = ap (λ o. if d.is_quoted then Ok (parts_of (with_literal [] d.text)) else fault_moved (λ at. place_at d at) o) (body_same d.text s)

  documents_same : (ds : List Document) (bodies : List Parts) → DocumentsFit size ds → with_documents read n bodies ds ≡ with_documents other n bodies ds
  documents_same [] bodies s = refl
  documents_same (d ∷ ds) bodies s =
      then_all (document_parts read n d) (λ parts. with_documents read n (bodies ++ parts ∷ []) ds) (λ parts. with_documents other n (bodies ++ parts ∷ []) ds)
      (λ parts. documents_same ds (bodies ++ parts ∷ []) s.1)
      ∙ ap (λ o. and_then o (λ parts. with_documents other n (bodies ++ parts ∷ []) ds)) (document_same d s.0)

  pub bodies_same : (text : List ℕ) (due : List Delimiter) (item : Item) → length text ≤ size → bodies_of read n text due item ≡ bodies_of other n text due item
  unfolding bodies_of
  bodies_same text due item s =
      documents_same (documents due item.token.span.«end» (between item.token.span.«end» item.«end» text)) [] (documents_size size text due item.token.span.«end» item.«end» s)

  leaves_same : (text : List ℕ) (due : List Delimiter) (item : Item) (j : Judged) → length text ≤ size → with_leaf (within read n text) due item j ≡ with_leaf (within other n text) due item j
  leaves_same text due item j s =
      then_all (leaf_of read n text item.token.kind item.token.span)
      (λ l. and_then (bodies_of read n text due item) (λ others. Ok (record j { leaves = j.leaves ++ l ∷ []; bodies = j.bodies ++ others; is_behind_blank = false })))
      (λ l. and_then (bodies_of other n text due item) (λ others. Ok (record j { leaves = j.leaves ++ l ∷ []; bodies = j.bodies ++ others; is_behind_blank = false })))
      (λ l. ap (λ o. and_then o (λ others. Ok (record j { leaves = j.leaves ++ l ∷ []; bodies = j.bodies ++ others; is_behind_blank = false }))) (bodies_same text due item s))
      ∙ ap (λ o. and_then o (λ l. and_then (bodies_of other n text due item) (λ others. Ok (record j { leaves = j.leaves ++ l ∷ []; bodies = j.bodies ++ others; is_behind_blank = false }))))
      (leaf_same text item.token.kind item.token.span s)

pub item_same : (n : ℕ) (read other : Reader) (text : List ℕ) → Agree (n + length text) read other → (due : List Delimiter) (item : Item) (j : Judged) → with_item (within read n text) due item j ≡ with_item (within other n text) due item j
unfolding with_item
item_same n read other text agree due item j =
    let k = with_input j (input_of item) in
    ap (λ o. if takes k then if nat_lt n (open_in k) then Err (fault.TooDeep item.token.span.start) else o else Err (fault.Refused item.token.span.start))
    (leaves_same (n - open_in k) (length text) read other (below n (open_in k) (length text) read other agree) text due item k (omega arith))

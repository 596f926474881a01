-- A fault in the body of a here-document stands in that body.
use Rattle.std.proofs.Common.{◌≡◌, ◌⊎◌, inl, inr, ℕ, zero, suc, ◌+◌, ◌-◌, ◌<◌, ◌≤◌, nat_eq, Bool, true, false, not, ◌&&◌, List, [], ◌∷◌, ◌++◌, length, take, drop, min, unwrap_or, slice_get, Result, Ok, Err, refl, sym, ap, subst, ◌∙◌, append-nil, append_assoc, arith, if◌then◌else◌}
use Rattle.std.proofs.Math.Nat.{min-le_left}
use Rattle.std.proofs.lemmas.List.{length-take, length-append, nil_from_length, take-append-drop}
use Rattle.sh_token_pieces.specs.declared.character.Character.{Character}
use Rattle.sh_token_pieces.specs.declared.character.Character.TheVariants.{Plain, Quoted, Raw}
use Rattle.sh_token_pieces.specs.declared.context.Context.TheVariants.{Body}
use Rattle.sh_token_pieces.specs.declared.here.Delimiter.{Delimiter}
use Rattle.sh_token_pieces.specs.declared.here.Tabs.{Tabs}
use Rattle.sh_token_pieces.specs.declared.piece.Piece.{Piece}
use Rattle.sh_token_pieces.specs.declared.piece.Piece.TheVariants as piece
use Rattle.sh_token_pieces.specs.Characters.{Reads, Written, joins, plain, raw}
use Rattle.sh_token_pieces.specs.Here.{lines, line_in, without_tabs, is_end_line, joins_next}
use Rattle.sh_token_pieces.specs.Spelling.{spell_piece}
use Rattle.sh_token.specs.Body.{BodyPieces, AllOf, OpenAt, TooDeepAt, IsBody, body_answer}
use Rattle.sh_token.specs.Found.{pieces_of_body}
use Rattle.sh_token.proofs.BodyLaws.{body_law}
use Rattle.sh_token.proofs.Laws.{reads_length, written_length}
use Rattle.sh_syntax.specs.declared.tree.Parts.{Parts}
use Rattle.sh_parse_documents.specs.declared.document.Document.{Document}
use Rattle.sh_parse_documents.specs.Documents.{Line, lines_at, lines_from, body_line, places_from, kept_places, Cut, over, with_line, cut_of, cut_all, documents, between, place_at}
use Rattle.sh_parse_documents.specs.declared.item.Item.{Item}
use Rattle.sh_parse_words.specs.declared.fault.PartFault.{PartFault}
use Rattle.sh_parse_words.specs.declared.fault.PartFault.TheVariants as fault
use Rattle.sh_parse_words.specs.Building.{parts_of, with_literal}
use Rattle.sh_parse_words.specs.Places.{behind_joins, behind_character, behind_characters, behind_piece, place_of}
use Rattle.sh_parse_leaves.specs.Results.{and_then, fault_moved}
use Rattle.sh_parse_leaves.specs.Sources.{text_between}
use Rattle.sh_parse_commands.specs.Documents.{pieces_or_none, closed_by, closed_pieces, prefix_by, prefix_of, unless, expanded_body, document_parts, with_documents, bodies_of}
use Rattle.sh_parse_leaves.specs.Words.{Reader, parts_in}
use Rattle.sh_parse.proofs.Faults.{ReadsIn}
use Rattle.sh_laws.specs.Standing.{Stands}
use Rattle.sh_laws.proofs.Levels.{opens_some, body_deep_some}
use Rattle.sh_laws.proofs.Pieces.{Pieces, pieces_of, plain_behind, quoted_behind}
use Rattle.sh_laws.proofs.Standing.{OpensAt, Placed, ResultAt, parts_at, then_at}

-- ---- pieces of a prefix of the bytes, where these go on
one_further : (c : Character) (bytes rest more : List ℕ) → Reads true c bytes rest → (behind_character c (bytes ++ more) ≡ rest ++ more) ⊎ (rest ≡ [])
one_further (Plain b) bytes rest more (n, is, inl other) =
    inl (ap (λ z. drop 1 (behind_joins (z ++ more))) is ∙ ap (λ z. drop 1 (behind_joins z)) (append_assoc (joins n) (b ∷ rest) more)
    ∙ ap (drop 1) (plain_behind n b (rest ++ more) other))
one_further (Plain b) bytes rest more (n, is, inr last) = inr last.2
one_further (Quoted b) bytes rest more (n, is, other) =
    inl (ap (λ z. drop 2 (behind_joins (z ++ more))) is ∙ ap (λ z. drop 2 (behind_joins z)) (append_assoc (joins n) (92 ∷ b ∷ rest) more)
    ∙ ap (drop 2) (quoted_behind n b (rest ++ more) other))
one_further (Raw b) bytes rest more h = inl (ap (λ z. drop 1 (z ++ more)) h)

none_behind : (cs : List Character) (bytes rest : List ℕ) → Written true cs bytes rest → bytes ≡ [] → rest ≡ []
none_behind cs bytes rest w h =
    let a = written_length true cs bytes rest w in
    let b : length bytes ≡ 0 = ap length h in
    nil_from_length rest (omega (a, b, arith))

all_further : (cs : List Character) (bytes rest more : List ℕ) → Written true cs bytes rest → (behind_characters cs (bytes ++ more) ≡ rest ++ more) ⊎ (rest ≡ [])
all_further [] bytes rest more w = inl (ap (λ z. z ++ more) w)
all_further (c ∷ cs) bytes rest more w = go (one_further c bytes w.0 more w.1) (all_further cs w.0 rest more w.2)
  where
    go : (behind_character c (bytes ++ more) ≡ w.0 ++ more) ⊎ (w.0 ≡ []) → (behind_characters cs (w.0 ++ more) ≡ rest ++ more) ⊎ (rest ≡ [])
        → (behind_characters (c ∷ cs) (bytes ++ more) ≡ rest ++ more) ⊎ (rest ≡ [])
    go (inl x) (inl y) = inl (ap (behind_characters cs) x ∙ y)
    go (inl x) (inr y) = inr y
    go (inr x) y = inr (none_behind cs w.0 rest w.2 x)

piece_further : (m : Piece) (bytes rest more : List ℕ) → Written true (spell_piece m) bytes rest → (behind_piece m (bytes ++ more) ≡ rest ++ more) ⊎ (rest ≡ [])
unfolding behind_piece
piece_further m bytes rest more w = all_further (spell_piece m) bytes rest more w

no_plain : (c : ℕ) (cs : List Character) (bytes rest : List ℕ) → Written true (Plain c ∷ cs) bytes rest → bytes ≡ [] → ⊥
no_plain c cs bytes rest w h =
    let a = reads_length true (Plain c) bytes w.0 w.1 in
    let b : length bytes ≡ 0 = ap length h in
    omega (a, b, arith)

-- a byte that is no backslash stands there still where more comes
plain_some : (c : ℕ) (cs : List Character) (bytes rest more : List ℕ) → nat_eq c 92 ≡ false → Written true (Plain c ∷ cs) bytes rest → 0 < length (behind_joins (bytes ++ more))
plain_some c cs bytes rest more n (middle, (k, is, inl other), w) =
    let same : behind_joins (bytes ++ more) ≡ c ∷ (middle ++ more) =
    ap (λ z. behind_joins (z ++ more)) is ∙ ap behind_joins (append_assoc (joins k) (c ∷ middle) more) ∙ plain_behind k c (middle ++ more) other in
    let size : length (behind_joins (bytes ++ more)) ≡ suc (length (middle ++ more)) = ap length same in
    omega (size, arith)
plain_some c cs bytes rest more n (middle, (k, is, inr last), w) = absurd (let e : nat_eq c 92 ≡ true = ap (λ z. nat_eq z 92) last.0 in let f : true ≡ false = sym e ∙ n in cc)

module _ (size : ℕ) where
  by_size : (bytes : List ℕ) → 0 < size → 0 < length (behind_joins bytes) → (0 ≤ place_of size (behind_joins bytes)) × (place_of size (behind_joins bytes) < size)
  by_size bytes l s = (omega arith, omega (l, s, arith))

  opens_further : 0 < size → (m : Piece) (bytes rest more : List ℕ) → Written true (spell_piece m) bytes rest → OpensAt size 0 size m (place_of size (behind_joins (bytes ++ more)))
  opens_further z (piece.BraceOpen head) bytes rest more w = by_size (bytes ++ more) z (plain_some 36 (Plain 123 ∷ plain head) bytes rest more refl w)
  opens_further z piece.ArithmeticOpen bytes rest more w = by_size (bytes ++ more) z (plain_some 36 (Plain 40 ∷ Plain 40 ∷ []) bytes rest more refl w)
  opens_further z piece.CommandsOpen bytes rest more w = by_size (bytes ++ more) z (plain_some 36 (Plain 40 ∷ []) bytes rest more refl w)
  opens_further z piece.CommandsClose bytes rest more w = by_size (bytes ++ more) z (plain_some 41 [] bytes rest more refl w)
  opens_further z (piece.Backquoted between) bytes rest more w = by_size (bytes ++ more) z (plain_some 96 (raw between ++ Raw 96 ∷ []) bytes rest more refl w)
  opens_further z m bytes rest more w = tt

  opens_none : (m : Piece) (place : ℕ) (bytes rest : List ℕ) → Written true (spell_piece m) bytes rest → bytes ≡ [] → OpensAt size 0 size m place
  opens_none (piece.BraceOpen head) place bytes rest w h = absurd (no_plain 36 (Plain 123 ∷ plain head) bytes rest w h)
  opens_none piece.ArithmeticOpen place bytes rest w h = absurd (no_plain 36 (Plain 40 ∷ Plain 40 ∷ []) bytes rest w h)
  opens_none piece.CommandsOpen place bytes rest w h = absurd (no_plain 36 (Plain 40 ∷ []) bytes rest w h)
  opens_none piece.CommandsClose place bytes rest w h = absurd (no_plain 41 [] bytes rest w h)
  opens_none (piece.Backquoted between) place bytes rest w h = absurd (no_plain 96 (raw between ++ Raw 96 ∷ []) bytes rest w h)
  opens_none m place bytes rest w h = tt

  placed_none : (ms : List Piece) (bytes rest others : List ℕ) → Pieces true ms bytes rest → bytes ≡ [] → Placed size 0 size ms others
  placed_none [] bytes rest others p h = tt
  placed_none (m ∷ ms) bytes rest others p h =
      (opens_none m (place_of size (behind_joins others)) bytes p.0 p.1 h, placed_none ms p.0 rest (behind_piece m others) p.2 (none_behind (spell_piece m) bytes p.0 p.1 h))

  placed_further : 0 < size → (ms : List Piece) (bytes rest more : List ℕ) → Pieces true ms bytes rest → Placed size 0 size ms (bytes ++ more)
  placed_further z [] bytes rest more p = tt
  placed_further z (m ∷ ms) bytes rest more p =
      (opens_further z m bytes p.0 more p.1, go (piece_further m bytes p.0 more p.1) (placed_further z ms p.0 rest more p.2))
    where
      go : (behind_piece m (bytes ++ more) ≡ p.0 ++ more) ⊎ (p.0 ≡ []) → Placed size 0 size ms (p.0 ++ more) → Placed size 0 size ms (behind_piece m (bytes ++ more))
      go (inl x) y = subst (λ v. Placed size 0 size ms v) (sym x) y
      go (inr x) y = placed_none ms p.0 rest (behind_piece m (bytes ++ more)) p.2 x

-- what of the bytes stands before a place
split : (bytes : List ℕ) (place : ℕ) → bytes ≡ text_between bytes 0 place ++ drop place bytes
split bytes place =
    let none : place - 0 ≡ place = omega arith in
    sym (take-append-drop place bytes) ∙ ap (λ n. take n bytes ++ drop place bytes) (sym none)

-- ---- the pieces that a body is read by
module _ (read : Reader) (reads : ReadsIn read) (bytes : List ℕ) where
  abbrev PlacedIn : List Piece → Type 0
  PlacedIn ms = Placed (length bytes) 0 (length bytes) ms bytes

  placed_pieces : (ms : List Piece) (prefix rest more : List ℕ) → bytes ≡ prefix ++ more → Pieces true ms prefix rest → PlacedIn ms
  placed_pieces ms prefix rest more same p = go (length bytes) refl
    where
      size : length bytes ≡ length prefix + length more
      size = ap length same ∙ length-append prefix more

      go : (n : ℕ) → length bytes ≡ n → PlacedIn ms
      go zero e = placed_none (length bytes) ms prefix rest bytes p (nil_from_length prefix (let z = size in omega (e, z, arith)))
      go (suc n) e = subst (λ z. Placed (length bytes) 0 (length bytes) ms z) (sym same) (placed_further (length bytes) (omega (e, arith)) ms prefix rest more p)

  placed_prefix : (limit : ℕ) (prefix more : List ℕ) → bytes ≡ prefix ++ more → (answer : BodyPieces) → IsBody limit prefix answer → PlacedIn (pieces_or_none (body_answer answer))
  placed_prefix limit prefix more same (AllOf ms) h =
      placed_pieces ms prefix h.last more same (pieces_of true limit ms [] (Body ∷ []) prefix h.last h.pieces)
  placed_prefix limit prefix more same (OpenAt place) h = tt
  placed_prefix limit prefix more same (TooDeepAt place) h = tt

  placed_closed : (prefix more : List ℕ) → bytes ≡ prefix ++ more → (answer : BodyPieces) → IsBody (length prefix) prefix answer → PlacedIn (closed_by prefix (body_answer answer))
  placed_closed prefix more same (AllOf ms) h = placed_prefix (length prefix) prefix more same (AllOf ms) h
  placed_closed prefix more same (OpenAt place) h =
      let shorter = text_between prefix 0 place in
      let whole : bytes ≡ shorter ++ (drop place prefix ++ more) = same ∙ ap (λ z. z ++ more) (split prefix place) ∙ append_assoc shorter (drop place prefix) more in
      placed_prefix (length prefix) shorter (drop place prefix ++ more) whole (pieces_of_body (length prefix) shorter) ((body_law (length prefix) shorter (pieces_of_body (length prefix) shorter)).0 refl)
  placed_closed prefix more same (TooDeepAt place) h = tt

  placed_before : (place : ℕ) → PlacedIn (closed_pieces (text_between bytes 0 place))
  unfolding closed_pieces
  placed_before place =
      let prefix = text_between bytes 0 place in
      placed_closed prefix (drop place bytes) (split bytes place) (pieces_of_body (length prefix) prefix) ((body_law (length prefix) prefix (pieces_of_body (length prefix) prefix)).0 refl)

  -- ---- a body that is expanded
  abbrev Found : {A : Type 0} → Result A PartFault → Type 0
  Found x = ResultAt read reads bytes 0 (length bytes) (omega arith) x

  read_parts : (left : ℕ) (ms : List Piece) → PlacedIn ms → Found (parts_in read left bytes ms bytes)
  read_parts left ms p = parts_at read reads bytes 0 (length bytes) (omega arith) left ms bytes p (omega arith)

  then_found : {A B : Type 0} (x : Result A PartFault) (f : A → Result B PartFault) → Found x → ((y : A) → Found (f y)) → Found (and_then x f)
  then_found x f h k = then_at read reads bytes 0 (length bytes) (omega arith) x f h k

  prefix_stands : (left : ℕ) (answer : BodyPieces) → IsBody (length bytes) bytes answer
      → Found (and_then (parts_in read left bytes (prefix_by bytes (body_answer answer)).pieces bytes) (λ parts. unless (prefix_by bytes (body_answer answer)).fault parts))
  prefix_stands left (AllOf ms) h =
      then_found (parts_in read left bytes ms bytes) (λ parts. Ok parts) (read_parts left ms (placed_prefix (length bytes) bytes [] (sym (append-nil bytes)) (AllOf ms) h)) (λ parts. tt)
  prefix_stands left (OpenAt place) (rest, form, to) =
      let some = opens_some true rest form.begins in
      then_found (parts_in read left bytes (closed_pieces (text_between bytes 0 place)) bytes) (λ parts. Err (fault.Refused place))
      (read_parts left (closed_pieces (text_between bytes 0 place)) (placed_before place)) (λ parts. (omega arith, omega (some, to, arith)))
  prefix_stands left (TooDeepAt place) (rest, deep, to) =
      let some = body_deep_some (length bytes) bytes rest deep in
      then_found (parts_in read left bytes (closed_pieces (text_between bytes 0 place)) bytes) (λ parts. Err (fault.TooDeep place))
      (read_parts left (closed_pieces (text_between bytes 0 place)) (placed_before place)) (λ parts. (omega arith, omega (some, to, arith)))

  body_stands : (left : ℕ) → Found (expanded_body read left bytes)
  unfolding expanded_body prefix_of
  body_stands left = prefix_stands left (pieces_of_body (length bytes) bytes) ((body_law (length bytes) bytes (pieces_of_body (length bytes) bytes)).0 refl)

-- ---- the places of the bytes of bodies, in the text from the place lo up to, not including, hi
module _ (lo hi : ℕ) where
  abbrev PlacesAt : List ℕ → Type 0
  PlacesAt [] = Unit {0}
  PlacesAt (p ∷ ps) = (lo ≤ p) × (p < hi) × PlacesAt ps

  abbrev LinesAt : List Line → Type 0
  LinesAt [] = Unit {0}
  LinesAt (l ∷ []) = (lo ≤ l.start) × (l.start + length l.bytes ≤ hi)
  LinesAt (l ∷ k ∷ ls) = (lo ≤ l.start) × (suc (l.start + length l.bytes) ≤ hi) × LinesAt (k ∷ ls)

  both_at : (ps qs : List ℕ) → PlacesAt ps → PlacesAt qs → PlacesAt (ps ++ qs)
  both_at [] qs h k = k
  both_at (p ∷ ps) qs h k = (h.0, h.1, both_at ps qs h.2 k)

  some_places : (n k : ℕ) → lo ≤ n → n + k ≤ hi → PlacesAt (places_from n k)
  some_places n zero l h = tt
  some_places n (suc k) l h = (l, omega (h, arith), some_places (suc n) k (omega (l, arith)) (omega (h, arith)))

  lines_behind : (l : Line) (ls : List Line) → lo ≤ l.start → suc (l.start + length l.bytes) ≤ hi → LinesAt ls → LinesAt (l ∷ ls)
  lines_behind l [] a b h = (a, omega (b, arith))
  lines_behind l (k ∷ ls) a b h = (a, b, h)

places_count : (n k : ℕ) → length (places_from n k) ≡ k
places_count n zero = refl
places_count n (suc k) = let e = places_count (suc n) k in omega (e, arith)

pushed_size : (line : List ℕ) (b : ℕ) → length (line ++ b ∷ []) ≡ suc (length line)
pushed_size [] b = refl
pushed_size (c ∷ cs) b = let e = pushed_size cs b in omega (e, arith)

placed_lines : (lo hi n : ℕ) (line bs : List ℕ) → lo ≤ n → n + length line + length bs ≤ hi → LinesAt lo hi (lines_at n (lines line bs))
placed_lines lo hi n line [] l h = (l, omega (h, arith))
placed_lines lo hi n line (b ∷ bs) l h =
    go (nat_eq b 10) refl (placed_lines lo hi (suc (n + length line)) [] bs (omega (l, arith)) (omega (h, arith)))
    (let e = pushed_size line b in placed_lines lo hi n (line ++ b ∷ []) bs l (omega (h, e, arith)))
  where
    go : (c : Bool) → nat_eq b 10 ≡ c → LinesAt lo hi (lines_at (suc (n + length line)) (lines [] bs)) → LinesAt lo hi (lines_at n (lines (line ++ b ∷ []) bs)) → LinesAt lo hi (lines_at n (lines line (b ∷ bs)))
    go true e f g = rw e (lines_behind lo hi (record { start = n; bytes = line }) (lines_at (suc (n + length line)) (lines [] bs)) l (omega (h, arith)) f)
    go false e f g = rw e g

tabs_size : (line : List ℕ) → length (without_tabs line) ≤ length line
tabs_size [] = omega arith
tabs_size (b ∷ bs) = go (nat_eq b 9) refl (tabs_size bs)
  where
    go : (c : Bool) → nat_eq b 9 ≡ c → length (without_tabs bs) ≤ length bs → length (without_tabs (b ∷ bs)) ≤ length (b ∷ bs)
    go true e h = rw e (omega (h, arith))
    go false e h = rw e (omega arith)

line_size : (tabs : Tabs) (line : List ℕ) → length (line_in tabs line) ≤ length line
line_size Tabs.Kept line = omega arith
line_size Tabs.Stripped line = tabs_size line

kept_size : (d : Delimiter) (joined : Bool) (line : List ℕ) → length (body_line d joined line) ≤ length line
kept_size d true line = omega arith
kept_size d false line = line_size d.tabs line

-- a body that is cut off, each of its bytes having a place
record CutAt (lo hi : ℕ) (c : Cut) : Type 0 where
  pub places : PlacesAt lo hi c.places
  pub each : length c.places ≡ length c.text
  pub rest : LinesAt lo hi c.rest

with_line_at : (lo hi : ℕ) (d : Delimiter) (joined : Bool) (start : ℕ) (line : List ℕ) (c : Cut) → lo ≤ start → start + length line ≤ hi → CutAt lo hi c → CutAt lo hi (with_line d joined start line c)
with_line_at lo hi d joined start line c l h k =
    let s = kept_size d joined line in
    let first = start + (length line - length (body_line d joined line)) in
    let count = length (body_line d joined line) in
    let a : length (kept_places d joined start line ++ c.places) ≡ length (kept_places d joined start line) + length c.places = length-append (kept_places d joined start line) c.places in
    let b : length (body_line d joined line ++ c.text) ≡ length (body_line d joined line) + length c.text = length-append (body_line d joined line) c.text in
    let e : length (kept_places d joined start line) ≡ length (body_line d joined line) = places_count first count in
    let f : length c.places ≡ length c.text = k.each in
    record {
      places = both_at lo hi (kept_places d joined start line) c.places (some_places lo hi first count (omega (l, arith)) (omega (h, s, arith))) k.places;
      each = omega (a, b, e, f, arith);
      rest = k.rest;
    }

nothing_left : (lo hi : ℕ) → lo ≤ hi → CutAt lo hi (over hi (lines_from hi []))
nothing_left lo hi l = record { places = tt; each = refl; rest = (l, omega arith) }

cut_at : (lo hi : ℕ) → lo ≤ hi → (d : Delimiter) (joined : Bool) (ls : List Line) → LinesAt lo hi ls → CutAt lo hi (cut_of hi d joined ls)
cut_at lo hi o d joined [] h = nothing_left lo hi o
cut_at lo hi o d joined (l ∷ []) h = go (not joined && is_end_line d l.bytes) (with_line_at lo hi d joined l.start l.bytes (over hi (lines_from hi [])) h.0 h.1 (nothing_left lo hi o))
  where
    go : (c : Bool) → CutAt lo hi (with_line d joined l.start l.bytes (over hi (lines_from hi [])))
        → CutAt lo hi (if c then over l.start (lines_from hi []) else with_line d joined l.start l.bytes (over hi (lines_from hi [])))
    go true x = record { places = tt; each = refl; rest = (o, omega arith) }
    go false x = x
cut_at lo hi o d joined (l ∷ k ∷ ls) h =
    go (not joined && is_end_line d l.bytes)
    (let e = pushed_size l.bytes 10 in
    let a : suc (l.start + length l.bytes) ≤ hi = h.1 in
    with_line_at lo hi d joined l.start (l.bytes ++ 10 ∷ []) (cut_of hi d (joins_next d l.bytes) (k ∷ ls)) h.0 (omega (e, a, arith)) (cut_at lo hi o d (joins_next d l.bytes) (k ∷ ls) h.2))
  where
    go : (c : Bool) → CutAt lo hi (with_line d joined l.start (l.bytes ++ 10 ∷ []) (cut_of hi d (joins_next d l.bytes) (k ∷ ls)))
        → CutAt lo hi (if c then over l.start (k ∷ ls) else with_line d joined l.start (l.bytes ++ 10 ∷ []) (cut_of hi d (joins_next d l.bytes) (k ∷ ls)))
    go true x = record { places = tt; each = refl; rest = h.2 }
    go false x = x

record DocumentAt (lo hi : ℕ) (d : Document) : Type 0 where
  pub places : PlacesAt lo hi d.places
  pub each : length d.places ≡ length d.text

abbrev DocumentsAt : ℕ → ℕ → List Document → Type 0
DocumentsAt lo hi [] = Unit {0}
DocumentsAt lo hi (d ∷ ds) = DocumentAt lo hi d × DocumentsAt lo hi ds

cut_all_at : (lo hi : ℕ) → lo ≤ hi → (due : List Delimiter) (ls : List Line) → LinesAt lo hi ls → DocumentsAt lo hi (cut_all hi due ls)
cut_all_at lo hi o [] ls h = tt
cut_all_at lo hi o (d ∷ ds) ls h =
    let c = cut_at lo hi o d false ls h in (record { places = c.places; each = c.each }, cut_all_at lo hi o ds (cut_of hi d false ls).rest c.rest)

documents_at : (start : ℕ) (due : List Delimiter) (bytes : List ℕ) → DocumentsAt start (start + length bytes) (documents due start bytes)
unfolding documents
documents_at start due bytes =
    cut_all_at start (start + length bytes) (omega arith) due (lines_from start bytes) (placed_lines start (start + length bytes) start [] bytes (omega arith) (omega arith))

get_at : (lo hi : ℕ) (ps : List ℕ) (n last : ℕ) → PlacesAt lo hi ps → n < length ps → (lo ≤ unwrap_or (slice_get ps n) last) × (unwrap_or (slice_get ps n) last < hi)
get_at lo hi [] n last h l = absurd (omega (l, arith))
get_at lo hi (p ∷ ps) zero last h l = (h.0, h.1)
get_at lo hi (p ∷ ps) (suc n) last h l = get_at lo hi ps n last h.2 (omega (l, arith))

place_stands : (lo hi : ℕ) (d : Document) → DocumentAt lo hi d → (n : ℕ) → n < length d.text → (lo ≤ place_at d n) × (place_at d n < hi)
unfolding place_at
place_stands lo hi d h n l = let e : length d.places ≡ length d.text = h.each in get_at lo hi d.places n d.«end» h.places (omega (e, l, arith))

-- ---- the bodies behind an item
abbrev All : {A : Type 0} → ℕ → ℕ → Result A PartFault → Type 0
All lo hi (Ok x) = Unit {0}
All lo hi (Err f) = Stands lo hi f

then_all : {A B : Type 0} (lo hi : ℕ) (x : Result A PartFault) (f : A → Result B PartFault) → All lo hi x → ((y : A) → All lo hi (f y)) → All lo hi (and_then x f)
then_all lo hi (Ok x) f h k = k x
then_all lo hi (Err x) f h k = h

moved_stands : {A : Type 0} (lo hi size : ℕ) (f : ℕ → ℕ) → ((at : ℕ) → at < size → (lo ≤ f at) × (f at < hi)) → (x : Result A PartFault) → All 0 size x → All lo hi (fault_moved f x)
moved_stands lo hi size f g (Ok x) h = tt
moved_stands lo hi size f g (Err (fault.BadSubstitution at)) h = g at h.1
moved_stands lo hi size f g (Err (fault.TooDeep at)) h = g at h.1
moved_stands lo hi size f g (Err (fault.Refused at)) h = g at h.1
moved_stands lo hi size f g (Err (fault.NoMemory _)) h = tt

quoted_stands : (lo hi : ℕ) (z : Bool) (parts : Parts) (x : Result Parts PartFault) → All lo hi x → All lo hi (if z then Ok parts else x)
quoted_stands lo hi true parts x h = tt
quoted_stands lo hi false parts x h = h

found_all : (read : Reader) (reads : ReadsIn read) (bytes : List ℕ) (x : Result Parts PartFault) → Found read reads bytes x → All 0 (length bytes) x
found_all read reads bytes (Ok x) h = tt
found_all read reads bytes (Err f) h = h

document_stands : (read : Reader) (reads : ReadsIn read) (left lo hi : ℕ) (d : Document) → DocumentAt lo hi d → All lo hi (document_parts read left d)
unfolding document_parts
document_stands read reads left lo hi d h =
    quoted_stands lo hi d.is_quoted (parts_of (with_literal [] d.text)) (fault_moved (λ at. place_at d at) (expanded_body read left d.text))
    (moved_stands lo hi (length d.text) (λ at. place_at d at) (λ at l. place_stands lo hi d h at l) (expanded_body read left d.text)
    (found_all read reads d.text (expanded_body read left d.text) (body_stands read reads d.text left)))

all_stand : (read : Reader) (reads : ReadsIn read) (left lo hi : ℕ) (ds : List Document) (bodies : List Parts) → DocumentsAt lo hi ds → All lo hi (with_documents read left bodies ds)
all_stand read reads left lo hi [] bodies h = tt
all_stand read reads left lo hi (d ∷ ds) bodies h =
    then_all lo hi (document_parts read left d) (λ parts. with_documents read left (bodies ++ parts ∷ []) ds) (document_stands read reads left lo hi d h.0)
    (λ parts. all_stand read reads left lo hi ds (bodies ++ parts ∷ []) h.1)

wider : (lo hi stop : ℕ) (f : PartFault) → hi ≤ stop → Stands lo hi f → Stands lo stop f
wider lo hi stop (fault.BadSubstitution at) l h = let a : at < hi = h.1 in (h.0, omega (a, l, arith))
wider lo hi stop (fault.TooDeep at) l h = let a : at < hi = h.1 in (h.0, omega (a, l, arith))
wider lo hi stop (fault.Refused at) l h = let a : at < hi = h.1 in (h.0, omega (a, l, arith))
wider lo hi stop (fault.NoMemory _) l h = tt

pub bodies_stand : (read : Reader) (reads : ReadsIn read) (left : ℕ) (text : List ℕ) (due : List Delimiter) (t : Item) (f : PartFault) → t.token.span.«end» ≤ t.«end» → bodies_of read left text due t ≡ Err f
    → Stands t.token.span.«end» t.«end» f
unfolding bodies_of
bodies_stand read reads left text due t f l h =
    let start = t.token.span.«end» in
    let bytes = between start t.«end» text in
    let a : length bytes ≡ min (t.«end» - start) (length (drop start text)) = length-take (t.«end» - start) (drop start text) in
    let b : min (t.«end» - start) (length (drop start text)) ≤ t.«end» - start = min-le_left (t.«end» - start) (length (drop start text)) in
    wider start (start + length bytes) t.«end» f (omega (a, b, l, arith))
    (subst (λ x. All start (start + length bytes) x) h (all_stand read reads left start (start + length bytes) (documents due start bytes) [] (documents_at start due bytes)))

-- A fault in a word stands in that word.
use Rattle.std.proofs.Common.{◌≡◌, ℕ, suc, ◌+◌, ◌-◌, ◌^◌, ◌<◌, ◌≤◌, nat_eq, Bool, true, false, ◌&&◌, List, [], ◌∷◌, ◌++◌, length, take, drop, min, Option, Some, None, Result, Ok, Err, refl, sym, ap, subst, arith, if◌then◌else◌}
use Rattle.std.proofs.Math.Nat.{le-min, min-le_left}
use Rattle.std.proofs.lemmas.List.{length-take, length-drop}
use Rattle.sh_token_pieces.specs.declared.character.Character.{Character}
use Rattle.sh_token_pieces.specs.declared.character.Character.TheVariants.{Plain, Quoted, Raw}
use Rattle.sh_token_pieces.specs.declared.piece.Piece.{Piece}
use Rattle.sh_token_pieces.specs.declared.piece.Piece.TheVariants as piece
use Rattle.sh_token_pieces.specs.Characters.{Written, plain, raw}
use Rattle.sh_token_pieces.specs.Spelling.{spell_piece}
use Rattle.sh_token_pieces.specs.TokenClasses.{literal_prefix}
use Rattle.sh_token.proofs.Laws.{reads_length, written_length}
use Rattle.sh_base.specs.declared.span.Span.{Span}
use Rattle.sh_syntax.specs.declared.tree.CompoundList.{CompoundList}
use Rattle.sh_parse_words.specs.declared.parameter.Braces.{Braces}
use Rattle.sh_parse_words.specs.declared.build.Form.{Form}
use Rattle.sh_parse_words.specs.declared.build.Form.TheVariants as form
use Rattle.sh_parse_words.specs.declared.build.Frame.{Frame}
use Rattle.sh_parse_words.specs.declared.build.Skip.{Skip}
use Rattle.sh_parse_words.specs.declared.build.Request.{Request}
use Rattle.sh_parse_words.specs.declared.build.Substitution.{Substitution}
use Rattle.sh_parse_words.specs.declared.build.Substitution.TheVariants as substitution
use Rattle.sh_parse_words.specs.declared.fault.PartFault.{PartFault}
use Rattle.sh_parse_words.specs.declared.fault.PartFault.TheVariants as fault
use Rattle.sh_parse_words.specs.Building.{Building, Outcome, empty_building, with_part, with_bytes, opened, last_frame, closed_by, with_form_part, on, skip_close, skipping, open_braces, backquotes_by, in_quotes, plainly, taking, take_by, take_piece, with_program}
use Rattle.sh_parse_words.specs.Parameters.{braces_of, machine_number}
use Rattle.sh_parse_words.specs.Places.{behind_joins, behind_character, behind_characters, behind_piece, place_of}
use Rattle.sh_parse_leaves.specs.Results.{and_then, fault_moved}
use Rattle.sh_parse_leaves.specs.Sources.{text_between, behind_pieces}
use Rattle.sh_parse_leaves.specs.Words.{Reader, refused_or_deep, at_its_level, text_by, text_of, place_by, place_in, answer_of, with_answer, with_piece, begins_closed, with_pieces, whole, parts_in, within, unread}
use Rattle.sh_parse_leaves.specs.Leaves.{name_size, assignment_leaf, plain_leaf, leaf_by, word_leaf}
use Rattle.sh_parse_commands.proofs.Within.{FaultsIn}
use Rattle.sh_laws.specs.Standing.{Stands}
use Rattle.sh_laws.proofs.Pieces.{Pieces, pieces_length, other_pieces, piece_written, plain_joins}

-- ---- what comes behind is no longer
joins_length : (bytes : List ℕ) → length (behind_joins bytes) ≤ length bytes
joins_length [] = omega arith
joins_length (b ∷ []) = omega arith
joins_length (b ∷ c ∷ bs) = go (nat_eq b 92 && nat_eq c 10) refl (joins_length bs)
  where
    go : (z : Bool) → (nat_eq b 92 && nat_eq c 10) ≡ z → length (behind_joins bs) ≤ length bs → length (behind_joins (b ∷ c ∷ bs)) ≤ length (b ∷ c ∷ bs)
    go true e h = rw e (omega (h, arith))
    go false e h = rw e (omega arith)

character_length : (c : Character) (bytes : List ℕ) → length (behind_character c bytes) ≤ length bytes
character_length (Plain b) bytes = let a = joins_length bytes in let d : length (drop 1 (behind_joins bytes)) ≡ length (behind_joins bytes) - 1 = length-drop 1 (behind_joins bytes) in omega (a, d, arith)
character_length (Quoted b) bytes = let a = joins_length bytes in let d : length (drop 2 (behind_joins bytes)) ≡ length (behind_joins bytes) - 2 = length-drop 2 (behind_joins bytes) in omega (a, d, arith)
character_length (Raw b) bytes = let d : length (drop 1 bytes) ≡ length bytes - 1 = length-drop 1 bytes in omega (d, arith)

characters_length : (cs : List Character) (bytes : List ℕ) → length (behind_characters cs bytes) ≤ length bytes
characters_length [] bytes = omega arith
characters_length (c ∷ cs) bytes =
    let a = character_length c bytes in
    let b = characters_length cs (behind_character c bytes) in
    omega (a, b, arith)

piece_length : (m : Piece) (bytes : List ℕ) → length (behind_piece m bytes) ≤ length bytes
unfolding behind_piece
piece_length m bytes = characters_length (spell_piece m) bytes

-- ---- what pieces leave of a command substitution that is passed over
part_skip : (b : Building) (p : _) → (with_part b p).skip ≡ b.skip
unfolding with_part
part_skip b p = refl

bytes_skip : (b : Building) (bytes : List ℕ) → (with_bytes b bytes).skip ≡ b.skip
unfolding with_bytes
bytes_skip b bytes = refl

opened_skip : (b : Building) (f : Form) (left : ℕ) → (opened b f left).skip ≡ b.skip
unfolding opened
opened_skip b f left = refl

closed_skip_by : (b : Building) (o : Option Frame) → (closed_by o b).skip ≡ b.skip
closed_skip_by b None = refl
closed_skip_by b (Some f) = refl

closed_skip : (b : Building) → (with_form_part b).skip ≡ b.skip
unfolding with_form_part
closed_skip b = closed_skip_by b (last_frame b.frames)

program_skip : (b : Building) (s : Substitution) (c : CompoundList) → (with_program b s c).skip ≡ b.skip
unfolding with_program
program_skip b s c = part_skip b _

plainly_skip : (b : Building) (m : Piece) → (plainly b m).skip ≡ b.skip
unfolding plainly
plainly_skip b (piece.Byte c) = bytes_skip b _
plainly_skip b (piece.Escaped c) = part_skip b _
plainly_skip b (piece.Backslash c) = bytes_skip b _
plainly_skip b (piece.SingleQuoted bytes) = part_skip b _
plainly_skip b piece.DoubleQuotesOpen = opened_skip b form.Quotes b.left
plainly_skip b piece.DoubleQuotesClose = closed_skip b
plainly_skip b piece.Dollar = bytes_skip b _
plainly_skip b (piece.Variable bytes) = part_skip b _
plainly_skip b (piece.Parameter c) = part_skip b _
plainly_skip b piece.BraceClose = closed_skip b
plainly_skip b piece.ArithmeticClose = closed_skip b
plainly_skip b m = refl

-- ---- from the place lo up to, not including, hi, in a text of so many bytes
module _ (size lo hi : ℕ) where
  abbrev At : ℕ → Type 0
  At p = (lo ≤ p) × (p < hi)

  abbrev SkipFrom : ℕ → Option Skip → Type 0
  SkipFrom here None = Unit {0}
  SkipFrom here (Some s) = At s.place × (lo ≤ s.start) × (s.start ≤ here)

  abbrev FormAt : Substitution → ℕ → ℕ → Type 0
  FormAt substitution.Commands start stop = (lo ≤ start) × (start ≤ stop) × (stop < hi)
  FormAt substitution.Backquotes start stop = Unit {0}
  FormAt substitution.QuotedBackquotes start stop = Unit {0}

  abbrev RequestAt : Option Request → Type 0
  RequestAt None = Unit {0}
  RequestAt (Some r) = At r.place × FormAt r.form r.start r.«end»

  abbrev OutcomeAt : ℕ → Outcome → Type 0
  OutcomeAt there (Ok t) = SkipFrom there t.building.skip × RequestAt t.request
  OutcomeAt there (Err f) = Stands lo hi f

  further : (here there : ℕ) (o : Option Skip) → here ≤ there → SkipFrom here o → SkipFrom there o
  further here there None l h = tt
  further here there (Some s) l h = let a : s.start ≤ here = h.2 in (h.0, h.1, omega (a, l, arith))

  -- the places of pieces that open something, and of the end of a command substitution
  abbrev pub OpensAt : Piece → ℕ → Type 0
  OpensAt (piece.BraceOpen head) p = At p
  OpensAt piece.ArithmeticOpen p = At p
  OpensAt piece.CommandsOpen p = At p
  OpensAt piece.CommandsClose p = At p
  OpensAt (piece.Backquoted bytes) p = At p
  OpensAt m p = Unit {0}

  by_plain : (e : Bool) (c : ℕ) (cs : List Character) (bytes after rest : List ℕ) → Written e (Plain c ∷ cs) bytes after → lo + length bytes ≤ size → hi + length rest ≡ size
      → length rest ≤ length after → At (place_of size (behind_joins bytes))
  by_plain e c cs bytes after rest w l r a =
      let j : length (behind_joins bytes) ≡ suc (length w.0) = ap length (plain_joins e c bytes w.0 w.1) in
      let f = reads_length e (Plain c) bytes w.0 w.1 in
      let g = written_length e cs w.0 after w.2 in
      (omega (j, f, g, l, r, a, arith), omega (j, f, g, l, r, a, arith))

  opens_at : (e : Bool) (m : Piece) (bytes after rest : List ℕ) → Written e (spell_piece m) bytes after → lo + length bytes ≤ size → hi + length rest ≡ size
      → length rest ≤ length after → OpensAt m (place_of size (behind_joins bytes))
  opens_at e (piece.BraceOpen head) bytes after rest w l r a = by_plain e 36 (Plain 123 ∷ plain head) bytes after rest w l r a
  opens_at e piece.ArithmeticOpen bytes after rest w l r a = by_plain e 36 (Plain 40 ∷ Plain 40 ∷ []) bytes after rest w l r a
  opens_at e piece.CommandsOpen bytes after rest w l r a = by_plain e 36 (Plain 40 ∷ []) bytes after rest w l r a
  opens_at e piece.CommandsClose bytes after rest w l r a = by_plain e 41 [] bytes after rest w l r a
  opens_at e (piece.Backquoted between) bytes after rest w l r a = by_plain e 96 (raw between ++ Raw 96 ∷ []) bytes after rest w l r a
  opens_at e m bytes after rest w l r a = tt

  -- those of all pieces
  abbrev pub Placed : List Piece → List ℕ → Type 0
  Placed [] bytes = Unit {0}
  Placed (m ∷ ms) bytes = OpensAt m (place_of size (behind_joins bytes)) × Placed ms (behind_piece m bytes)

  pub placed_of : (e : Bool) (ms : List Piece) (bytes rest : List ℕ) → Pieces e ms bytes rest → lo + length bytes ≤ size → hi + length rest ≡ size → Placed ms bytes
  placed_of e [] bytes rest p l r = tt
  placed_of e (m ∷ ms) bytes rest p l r =
      let is = piece_written e m bytes p.0 p.1 in
      let shorter = written_length e (spell_piece m) bytes p.0 p.1 in
      (opens_at e m bytes p.0 rest p.1 l r (pieces_length e ms p.0 rest p.2), subst (λ z. Placed ms z) (sym is) (placed_of e ms p.0 rest p.2 (omega (shorter, l, arith)) r))

  -- ---- one piece
  level_at : (there place : ℕ) (o : Outcome) (z : Bool) → At place → OutcomeAt there o → OutcomeAt there (if z then Err (fault.TooDeep place) else o)
  level_at there place o true p h = p
  level_at there place o false p h = h

  opened_at : (there : ℕ) (b : Building) (f : Form) (left : ℕ) → SkipFrom there b.skip → OutcomeAt there (on (opened b f left))
  opened_at there b f left h = (subst (λ o. SkipFrom there o) (sym (opened_skip b f left)) h, tt)

  braces_at : (there : ℕ) (b : Building) (place : ℕ) (o : Option Braces) → At place → SkipFrom there b.skip → OutcomeAt there (open_braces b place o)
  braces_at there b place None p h = level_at there place (Err (fault.BadSubstitution place)) (nat_eq b.left 0) p p
  braces_at there b place (Some f) p h =
      level_at there place (on (opened b (form.Braces f) (b.left - 1))) (nat_eq b.left 0) p (opened_at there b (form.Braces f) (b.left - 1) h)

  quoted_at : (q : Bool) (start stop : ℕ) → FormAt (backquotes_by q) start stop
  quoted_at true start stop = tt
  quoted_at false start stop = tt

  taking_at : (there : ℕ) (b : Building) (m : Piece) (empty : Bool) (place : ℕ) → lo ≤ there → OpensAt m place → SkipFrom there b.skip → OutcomeAt there (taking b m empty place there)
  taking_at there b (piece.BraceOpen head) empty place l p h = braces_at there b place (braces_of head empty) p h
  taking_at there b piece.ArithmeticOpen empty place l p h =
      level_at there place (on (opened b form.Arithmetic (b.left - 1))) (nat_eq b.left 0) p (opened_at there b form.Arithmetic (b.left - 1) h)
  taking_at there b piece.CommandsOpen empty place l p h =
      level_at there place (on (record b { skip = Some (record { depth = 0; place = place; start = there }) })) (nat_eq b.left 0) p ((p, l, omega arith), tt)
  taking_at there b (piece.Backquoted bytes) empty place l p h =
      (h, (p, quoted_at (in_quotes false b.frames) place there))
  taking_at there b m empty place l p h = (subst (λ o. SkipFrom there o) (sym (plainly_skip b m)) h, tt)

  close_at : (here there : ℕ) (b : Building) (s : Skip) (place : ℕ) (z : Bool) → nat_eq s.depth 0 ≡ z → here ≤ there → here ≤ place → At place → SkipFrom here (Some s)
      → OutcomeAt there (skip_close b s place)
  close_at here there b s place true e l k p h = rw e (let a : s.start ≤ here = h.2 in (tt, (h.0, (h.1, omega (a, k, arith), p.1))))
  close_at here there b s place false e l k p h = rw e (further here there (Some s) l h, tt)

  skipping_at : (here there : ℕ) (b : Building) (s : Skip) (m : Piece) (place : ℕ) → here ≤ there → here ≤ place → OpensAt m place → SkipFrom there b.skip → SkipFrom here (Some s)
      → OutcomeAt there (skipping b s m place)
  skipping_at here there b s piece.CommandsOpen place l k p h g = (further here there (Some s) l g, tt)
  skipping_at here there b s piece.CommandsClose place l k p h g = close_at here there b s place (nat_eq s.depth 0) refl l k p g
  skipping_at here there b s m place l k p h g = (h, tt)

  take_by_at : (here there : ℕ) (b : Building) (m : Piece) (empty : Bool) (place : ℕ) (o : Option Skip) → b.skip ≡ o → lo ≤ there → here ≤ there → here ≤ place → OpensAt m place
      → SkipFrom here b.skip → OutcomeAt there (take_by o b m empty place there)
  take_by_at here there b m empty place None e i l k p h = taking_at there b m empty place i p (further here there b.skip l h)
  take_by_at here there b m empty place (Some s) e i l k p h =
      skipping_at here there b s m place l k p (further here there b.skip l h) (subst (λ x. SkipFrom here x) e h)

  take_at : (here there : ℕ) (b : Building) (m : Piece) (empty : Bool) (place : ℕ) → lo ≤ there → here ≤ there → here ≤ place → OpensAt m place
      → SkipFrom here b.skip → OutcomeAt there (take_piece b m empty place there)
  unfolding take_piece
  take_at here there b m empty place i l k p h = take_by_at here there b m empty place b.skip refl i l k p h

-- ---- pieces of a text, where faults of the texts of substitutions stand in these
abbrev pub ReadsIn : Reader → Type 0
ReadsIn read = (left : ℕ) (text : List ℕ) → FaultsIn (length text) (read left text)

module _ (read : Reader) (reads : ReadsIn read) (text : List ℕ) (lo hi : ℕ) (small : lo ≤ 2 ^ 64 - 1) where
  abbrev pub ResultAt : {A : Type 0} → Result A PartFault → Type 0
  ResultAt (Ok x) = Unit {0}
  ResultAt (Err f) = Stands lo hi f

  moved_at : {A : Type 0} (inner : ℕ) (f : ℕ → ℕ) → ((at : ℕ) → at ≤ inner → (lo ≤ f at) × (f at < hi)) → (x : Result A PartFault) → FaultsIn inner x → ResultAt (fault_moved f x)
  moved_at inner f g (Ok x) h = tt
  moved_at inner f g (Err (fault.BadSubstitution at)) h = g at h
  moved_at inner f g (Err (fault.TooDeep at)) h = g at h
  moved_at inner f g (Err (fault.Refused at)) h = g at h
  moved_at inner f g (Err (fault.NoMemory _)) h = tt

  between_at : (start stop at : ℕ) → lo ≤ start → start ≤ stop → stop < hi → at ≤ length (text_between text start stop) → (lo ≤ machine_number (start + at)) × (machine_number (start + at) < hi)
  between_at start stop at a b c l =
      let d : length (text_between text start stop) ≡ min (stop - start) (length (drop start text)) = length-take (stop - start) (drop start text) in
      let e : min (stop - start) (length (drop start text)) ≤ stop - start = min-le_left (stop - start) (length (drop start text)) in
      let f : min (start + at) (2 ^ 64 - 1) ≤ start + at = min-le_left (start + at) (2 ^ 64 - 1) in
      let g : lo ≤ start + at = omega (a, arith) in
      (le-min g small, omega (b, c, d, e, f, l, arith))

  place_by_at : (r : Request) (s : Substitution) → (lo ≤ r.place) × (r.place < hi) → FormAt (length text) lo hi s r.start r.«end» → (at : ℕ) → at ≤ length (text_by s (text_between text r.start r.«end»))
      → (lo ≤ place_by s r at) × (place_by s r at < hi)
  place_by_at r substitution.Commands p h at l = between_at r.start r.«end» at h.0 h.1 h.2 l
  place_by_at r substitution.Backquotes p h at l = p
  place_by_at r substitution.QuotedBackquotes p h at l = p

  place_in_at : (r : Request) → RequestAt (length text) lo hi (Some r) → (at : ℕ) → at ≤ length (text_of r text) → (lo ≤ place_in r at) × (place_in r at < hi)
  unfolding place_in text_of
  place_in_at r h at l = place_by_at r r.form h.0 h.1 at l

  deep_at : (place : ℕ) (f : PartFault) → (lo ≤ place) × (place < hi) → Stands lo hi f → Stands lo hi (refused_or_deep place f)
  deep_at place (fault.Refused at) p h = h
  deep_at place (fault.TooDeep at) p h = p
  deep_at place (fault.BadSubstitution at) p h = p
  deep_at place (fault.NoMemory _) p h = tt

  either_at : (place : ℕ) (z : Bool) (f : PartFault) → (lo ≤ place) × (place < hi) → Stands lo hi f → Stands lo hi (if z then refused_or_deep place f else f)
  either_at place true f p h = deep_at place f p h
  either_at place false f p h = h

  kept_program_at : (place : ℕ) (z : Bool) (c : CompoundList) → (lo ≤ place) × (place < hi) → ResultAt (if z then Err (fault.TooDeep place) else Ok c)
  kept_program_at place true c p = p
  kept_program_at place false c p = tt

  its_level_at : (r : Request) (x : Result CompoundList PartFault) → (lo ≤ r.place) × (r.place < hi) → ResultAt x → ResultAt (at_its_level r x)
  its_level_at r (Ok c) p h = kept_program_at r.place r.is_too_deep c p
  its_level_at r (Err f) p h = either_at r.place r.is_too_deep f p h

  answer_at : (r : Request) → RequestAt (length text) lo hi (Some r) → ResultAt (answer_of read text r)
  unfolding answer_of
  answer_at r h =
      its_level_at r (fault_moved (λ at. place_in r at) (read r.left (text_of r text))) h.0
      (moved_at (length (text_of r text)) (λ at. place_in r at) (λ at l. place_in_at r h at l) (read r.left (text_of r text)) (reads r.left (text_of r text)))

  abbrev AfterAt : ℕ → Result Building PartFault → Type 0
  AfterAt there (Ok b) = SkipFrom (length text) lo hi there b.skip
  AfterAt there (Err f) = Stands lo hi f

  made_at : (there : ℕ) (b : Building) (s : Substitution) (x : Result CompoundList PartFault) → ResultAt x → SkipFrom (length text) lo hi there b.skip
      → AfterAt there (and_then x (λ c. Ok (with_program b s c)))
  made_at there b s (Ok c) h k = subst (λ o. SkipFrom (length text) lo hi there o) (sym (program_skip b s c)) k
  made_at there b s (Err f) h k = h

  answered_at : (there : ℕ) (b : Building) (o : Option Request) → SkipFrom (length text) lo hi there b.skip → RequestAt (length text) lo hi o → AfterAt there (with_answer read text b o)
  answered_at there b None h k = h
  answered_at there b (Some r) h k = made_at there b r.form (answer_of read text r) (answer_at r k) h

  step_at : (there : ℕ) (o : Outcome) → OutcomeAt (length text) lo hi there o → AfterAt there (and_then o (λ t. with_answer read text t.building t.request))
  step_at there (Ok t) h = answered_at there t.building t.request h.0 h.1
  step_at there (Err f) h = h

  piece_at : (b : Building) (m : Piece) (empty : Bool) (bytes : List ℕ) → lo + length bytes ≤ length text → OpensAt (length text) lo hi m (place_of (length text) (behind_joins bytes))
      → SkipFrom (length text) lo hi (place_of (length text) bytes) b.skip → AfterAt (place_of (length text) (behind_piece m bytes)) (with_piece read (unread text bytes) b m empty)
  unfolding with_piece
  piece_at b m empty bytes l p h =
      let f = piece_length m bytes in
      let j = joins_length bytes in
      step_at (place_of (length text) (behind_piece m bytes))
      (take_piece b m empty (place_of (length text) (behind_joins bytes)) (place_of (length text) (behind_piece m bytes)))
      (take_at (length text) lo hi (place_of (length text) bytes) (place_of (length text) (behind_piece m bytes)) b m empty (place_of (length text) (behind_joins bytes))
      (omega (f, l, arith)) (omega (f, arith)) (omega (j, arith)) p h)

  next_at : (there : ℕ) (o : Result Building PartFault) (f : Building → Result Building PartFault) (last : ℕ) → AfterAt there o
      → ((b : Building) → SkipFrom (length text) lo hi there b.skip → AfterAt last (f b)) → AfterAt last (and_then o f)
  next_at there (Ok b) f last h k = k b h
  next_at there (Err x) f last h k = h

  pieces_at : (ms : List Piece) (b : Building) (bytes : List ℕ) → Placed (length text) lo hi ms bytes → lo + length bytes ≤ length text
      → SkipFrom (length text) lo hi (place_of (length text) bytes) b.skip → AfterAt (place_of (length text) (behind_pieces ms bytes)) (with_pieces read text b ms bytes)
  pieces_at [] b bytes p l h = h
  pieces_at (m ∷ ms) b bytes p l h =
      let shorter = piece_length m bytes in
      next_at (place_of (length text) (behind_piece m bytes)) (with_piece read (unread text bytes) b m (begins_closed ms)) (λ c. with_pieces read text c ms (behind_piece m bytes))
      (place_of (length text) (behind_pieces ms (behind_piece m bytes))) (piece_at b m (begins_closed ms) bytes l p.0 h)
      (λ c k. pieces_at ms c (behind_piece m bytes) p.1 (omega (shorter, l, arith)) k)

  whole_at : (there : ℕ) (o : Result Building PartFault) → AfterAt there o → ResultAt (and_then o (λ b. Ok (whole b)))
  whole_at there (Ok b) h = tt
  whole_at there (Err f) h = h

  pub parts_at : (left : ℕ) (ms : List Piece) (bytes : List ℕ) → Placed (length text) lo hi ms bytes → lo + length bytes ≤ length text → ResultAt (parts_in read left text ms bytes)
  unfolding parts_in
  parts_at left ms bytes p l = whole_at (place_of (length text) (behind_pieces ms bytes)) (with_pieces read text (empty_building left) ms bytes) (pieces_at ms (empty_building left) bytes p l tt)

  pub then_at : {A B : Type 0} (x : Result A PartFault) (f : A → Result B PartFault) → ResultAt x → ((y : A) → ResultAt (f y)) → ResultAt (and_then x f)
  then_at (Ok x) f h k = k x
  then_at (Err x) f h k = h

  leaf_by_at : (e : Bool) (left : ℕ) (ms : List Piece) (span : Span) (prefix : List ℕ) (size : Option ℕ) (rest : List ℕ) → Pieces e ms (drop span.start text) rest
      → lo + length (drop span.start text) ≤ length text → hi + length rest ≡ length text → ResultAt (leaf_by (within read left text) ms span prefix size)
  leaf_by_at e left ms span prefix None rest p l r =
      then_at (parts_in read left text ms (drop span.start text)) (λ parts. Ok (plain_leaf ms prefix parts (text_between text span.start span.«end»)))
      (parts_at left ms (drop span.start text) (placed_of (length text) lo hi e ms (drop span.start text) rest p l r) l) (λ parts. tt)
  leaf_by_at e left ms span prefix (Some size) rest p l r =
      let o = other_pieces e (suc size) ms (drop span.start text) rest p in
      let s : length (behind_pieces (take (suc size) ms) (drop span.start text)) ≤ length (drop span.start text) = o.shorter in
      then_at (parts_in read left text (drop (suc size) ms) (behind_pieces (take (suc size) ms) (drop span.start text)))
      (λ value. Ok (assignment_leaf prefix size value (text_between text span.start span.«end»)))
      (parts_at left (drop (suc size) ms) (behind_pieces (take (suc size) ms) (drop span.start text))
      (placed_of (length text) lo hi e (drop (suc size) ms) (behind_pieces (take (suc size) ms) (drop span.start text)) rest o.others (omega (s, l, arith)) r) (omega (s, l, arith)))
      (λ value. tt)

  pub word_at : (e : Bool) (left : ℕ) (ms : List Piece) (span : Span) (rest : List ℕ) → Pieces e ms (drop span.start text) rest
      → lo + length (drop span.start text) ≤ length text → hi + length rest ≡ length text → ResultAt (word_leaf read left text ms span)
  unfolding word_leaf
  word_at e left ms span rest p l r = leaf_by_at e left ms span (literal_prefix ms) (name_size (literal_prefix ms)) rest p l r

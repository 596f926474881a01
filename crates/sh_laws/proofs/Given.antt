-- What the reader gives for pieces that close each form that they open is what these spell.
use Rattle.std.proofs.Common.{◌≡◌, ℕ, zero, suc, ◌-◌, Bool, true, false, List, [], ◌∷◌, ◌++◌, Option, Some, None, refl, sym, ap, ◌∙◌, append-nil, append_assoc, if◌then◌else◌}
use Rattle.std.specs.Prelude.{Result, Ok, Err, nat_eq}
use Rattle.std.specs.Option.{option_map}
use Rattle.sh_token_pieces.specs.declared.piece.Piece.{Piece}
use Rattle.sh_token_pieces.specs.declared.piece.Piece.TheVariants as piece
use Rattle.sh_syntax.specs.declared.tree.CompoundList.{CompoundList}
use Rattle.sh_syntax.specs.declared.tree.Part.{Part}
use Rattle.sh_syntax.specs.declared.tree.Part.TheVariants as part
use Rattle.sh_syntax.specs.declared.tree.Parameter.{Parameter}
use Rattle.sh_parse_words.specs.declared.build.Form.TheVariants as form
use Rattle.sh_parse_words.specs.declared.build.Frame.{Frame}
use Rattle.sh_parse_words.specs.declared.build.Request.{Request}
use Rattle.sh_parse_words.specs.declared.build.Substitution.TheVariants as substitution
use Rattle.sh_parse_words.specs.declared.fault.PartFault.{PartFault}
use Rattle.sh_parse_words.specs.declared.fault.PartFault.TheVariants as fault
use Rattle.sh_parse_words.specs.declared.parameter.Braces.{Braces}
use Rattle.sh_parse_words.specs.Building.{Building, Taken, backquotes_request, backquotes_by, braces_part, braces_quote, with_literal, in_quotes, open_braces, parts_of, take_piece, with_program}
use Rattle.sh_parse_words.specs.Parameters.{braces_of, short}
use Rattle.sh_parse_words.specs.Places.{behind_piece}
use Rattle.sh_parse_leaves.specs.Results.{and_then, fault_moved}
use Rattle.sh_parse_leaves.specs.Sources.{backquotes_text, behind_pieces, text_between}
use Rattle.sh_parse_leaves.specs.Words.{Reader, at_its_level, answer_of, with_answer, begins_closed, parts_in, place_in, text_by, text_of, whole, with_piece, with_pieces, unread}
use Rattle.sh_laws.specs.Spelled.{AreSpelled, Nested, Spelled, bytes_of, has_value, here, is_alone, next, part_of}
use Rattle.sh_laws.specs.Spelled as spells
use Rattle.sh_laws.proofs.Spelled.{arithmetic_opened, at, begun_at, behind_both, braces_opened, closes_same, commands_opened, frame_of, given, go, is_ok, one_less, passed, passing, quiet, quotes_behind, quotes_opened, same_parts, step, text_in_backquotes}

-- what pieces spell, for some parts and bytes
record Spells (read : Reader) (text : List ℕ) (quoted : Bool) (left : ℕ) (ms : List Piece) (bytes : List ℕ) : Type 0 where
  pub parts : List Part
  pub literal : List ℕ
  pub spelled : Spelled read text quoted left ms bytes parts literal

-- a piece before which all went well went well itself
first_ok : {A B : Type 0} (o : Result A PartFault) (f : A → Result B PartFault) (b : B) → and_then o f ≡ Ok b → (a : A) × (o ≡ Ok a)
first_ok (Ok a) f b h = (a, refl)
first_ok (Err e) f b h = cc

abbrev Going : Reader → List ℕ → Building → List Piece → List ℕ → Type 0
Going read text b ms bytes = (c : Building) × (with_pieces read text b ms bytes ≡ Ok c)

moved : (read : Reader) (text : List ℕ) (b d : Building) (ms ns : List Piece) (bytes after : List ℕ) → with_pieces read text b ms bytes ≡ with_pieces read text d ns after → Going read text b ms bytes → Going read text d ns after
moved read text b d ms ns bytes after h g = (g.0, sym h ∙ g.1)

-- ---- a piece that is alone
by_bytes : (read : Reader) (text : List ℕ) (q : Bool) (n : ℕ) (ms : List Piece) (bytes : List ℕ) (w : Spells read text q n ms bytes) (m : Piece) (more : List ℕ) → bytes_of m ≡ Some more → Spells read text q n (ms ++ m ∷ []) bytes
by_bytes read text q n ms bytes w m more h = record { parts = w.parts; literal = w.literal ++ more; spelled = spells.stands q n ms bytes w.parts w.literal w.spelled m more h }

by_part : (read : Reader) (text : List ℕ) (q : Bool) (n : ℕ) (ms : List Piece) (bytes : List ℕ) (w : Spells read text q n ms bytes) (m : Piece) (p : Part) → part_of m ≡ Some p → Spells read text q n (ms ++ m ∷ []) bytes
by_part read text q n ms bytes w m p h = record { parts = with_literal w.parts w.literal ++ p ∷ []; literal = []; spelled = spells.single q n ms bytes w.parts w.literal w.spelled m p h }

by_parameter : (read : Reader) (text : List ℕ) (q : Bool) (n : ℕ) (ms : List Piece) (bytes : List ℕ) (w : Spells read text q n ms bytes) (c : ℕ) (o : Option Parameter) → short c ≡ o → has_value o ≡ true → Spells read text q n (ms ++ piece.Parameter c ∷ []) bytes
by_parameter read text q n ms bytes w c None e h = cc
by_parameter read text q n ms bytes w c (Some p) e h = by_part read text q n ms bytes w (piece.Parameter c) (part.Parameter p) (ap (λ x. option_map (λ y. part.Parameter y) x) e)

-- ---- commands that are read
abbrev given_or : Bool → ℕ → CompoundList → Result CompoundList PartFault
given_or z place p = if z then Err (fault.TooDeep place) else Ok p

read_ok : (f : ℕ → ℕ) (o : Result CompoundList PartFault) (c : CompoundList) → fault_moved f o ≡ Ok c → o ≡ Ok c
read_ok f (Ok x) c h = h
read_ok f (Err e) c h = cc

either_ok : (z : Bool) (place : ℕ) (p c : CompoundList) → given_or z place p ≡ Ok c → p ≡ c
either_ok true place p c h = cc
either_ok false place p c h = cc

level_ok : (r : Request) (x : Result CompoundList PartFault) (c : CompoundList) → at_its_level r x ≡ Ok c → x ≡ Ok c
level_ok r (Ok p) c h = ap (λ z. Ok z) (either_ok r.is_too_deep r.place p c h)
level_ok r (Err e) c h = cc

answered_ok : (read : Reader) (text : List ℕ) (b c : Building) (r : Request) → with_answer read text b (Some r) ≡ Ok c → (program : CompoundList) × (read r.left (text_by r.form (text_between text r.start r.«end»)) ≡ Ok program)
unfolding answer_of text_of
answered_ok read text b c r h =
    let p = first_ok (at_its_level r (fault_moved (λ place. place_in r place) (read r.left (text_by r.form (text_between text r.start r.«end»))))) _ c h in
    (p.0, read_ok _ _ _ (level_ok r _ p.0 p.1))

backquotes_asked : (read : Reader) (text : List ℕ) (fs : List Frame) (n : ℕ) (ps : List Part) (literal between : List ℕ) (empty : Bool) (bytes : List ℕ) → with_piece read (unread text bytes) (at fs (suc n) ps literal) (piece.Backquoted between) empty ≡ with_answer read text (at fs (suc n) ps literal) (Some (backquotes_request (at fs (suc n) ps literal) (next text bytes) (here text (behind_piece (piece.Backquoted between) bytes))))
unfolding with_piece take_piece
backquotes_asked read text fs n ps literal between empty bytes = refl

by_backquotes : (read : Reader) (text : List ℕ) (q : Bool) (n : ℕ) (ms : List Piece) (bytes : List ℕ) (w : Spells read text q (suc n) ms bytes) (between : List ℕ) (program : CompoundList) (fs : List Frame) → in_quotes false fs ≡ q → read (suc n - 1) (text_by (backquotes_by (in_quotes false fs)) (text_between text (next text (behind_pieces ms bytes)) (here text (behind_piece (piece.Backquoted between) (behind_pieces ms bytes))))) ≡ Ok program → Spells read text q (suc n) (ms ++ piece.Backquoted between ∷ []) bytes
by_backquotes read text q n ms bytes w between program fs e h =
    let start = next text (behind_pieces ms bytes) in
    record {
      parts = with_literal w.parts w.literal ++ part.Backquoted program ∷ [];
      literal = [];
      spelled = spells.backquotes q n ms bytes w.parts w.literal w.spelled between program
          (ap (λ bs. read n (backquotes_text q (text_between text start (here text bs)))) (behind_both ms (piece.Backquoted between ∷ []) bytes)
          ∙ ap (λ x. read n (backquotes_text x (text_between text start (here text (behind_piece (piece.Backquoted between) (behind_pieces ms bytes)))))) (sym e)
          ∙ ap (λ bs. read n bs) (sym (text_in_backquotes (in_quotes false fs) (text_between text start (here text (behind_piece (piece.Backquoted between) (behind_pieces ms bytes))))))
          ∙ ap (λ m. read m (text_by (backquotes_by (in_quotes false fs)) (text_between text start (here text (behind_piece (piece.Backquoted between) (behind_pieces ms bytes)))))) (sym (one_less n))
          ∙ h);
    }

-- ---- no level is left
none_deep : (b : Building) (r : Request) (x : Result CompoundList PartFault) (c : Building) → r.is_too_deep ≡ true → and_then (at_its_level r x) (λ p. Ok (with_program b r.form p)) ≡ Ok c → ⊥
none_deep b r (Ok p) c e h = deep (r.is_too_deep) e h
  where
    deep : (z : Bool) → z ≡ true → and_then (given_or z r.place p) (λ q. Ok (with_program b r.form q)) ≡ Ok c → ⊥
    deep true e h = cc
    deep false e h = cc
none_deep b r (Err f) c e h = cc

no_backquotes : (read : Reader) (text : List ℕ) (fs : List Frame) (ps : List Part) (literal between : List ℕ) (empty : Bool) (bytes : List ℕ) (c : Building) → with_piece read (unread text bytes) (at fs zero ps literal) (piece.Backquoted between) empty ≡ Ok c → ⊥
unfolding with_piece take_piece answer_of
no_backquotes read text fs ps literal between empty bytes c h =
    let b = at fs zero ps literal in
    let r = backquotes_request b (next text bytes) (here text (behind_piece (piece.Backquoted between) bytes)) in
    none_deep b r (fault_moved (λ place. place_in r place) (read r.left (text_of r text))) c refl h

no_form : (fs : List Frame) (ps : List Part) (literal : List ℕ) (c : Building) (place : ℕ) (o : Option Braces) (k : Taken → Result Building PartFault) → and_then (open_braces (at fs zero ps literal) place o) k ≡ Ok c → ⊥
no_form fs ps literal c place None k h = cc
no_form fs ps literal c place (Some f) k h = cc

no_braces : (read : Reader) (text : List ℕ) (fs : List Frame) (ps : List Part) (literal head : List ℕ) (empty : Bool) (bytes : List ℕ) (c : Building) → with_piece read (unread text bytes) (at fs zero ps literal) (piece.BraceOpen head) empty ≡ Ok c → ⊥
unfolding with_piece take_piece
no_braces read text fs ps literal head empty bytes c h =
    no_form fs ps literal c (next text bytes) (braces_of head empty) (λ (t : Taken). with_answer read text t.building t.request) h

no_arithmetic : (read : Reader) (text : List ℕ) (fs : List Frame) (ps : List Part) (literal : List ℕ) (empty : Bool) (bytes : List ℕ) (c : Building) → with_piece read (unread text bytes) (at fs zero ps literal) piece.ArithmeticOpen empty ≡ Ok c → ⊥
unfolding with_piece take_piece
no_arithmetic read text fs ps literal empty bytes c h = cc

no_commands : (read : Reader) (text : List ℕ) (fs : List Frame) (ps : List Part) (literal : List ℕ) (empty : Bool) (bytes : List ℕ) (c : Building) → with_piece read (unread text bytes) (at fs zero ps literal) piece.CommandsOpen empty ≡ Ok c → ⊥
unfolding with_piece take_piece
no_commands read text fs ps literal empty bytes c h = cc

alone_by : (read : Reader) (text : List ℕ) (q : Bool) (n : ℕ) (ms : List Piece) (bytes : List ℕ) (w : Spells read text q n ms bytes) (m : Piece) (fs : List Frame) (rest : List Piece) → in_quotes false fs ≡ q → is_alone m ≡ true → Going read text (at fs n w.parts w.literal) (m ∷ rest) (behind_pieces ms bytes) → Spells read text q n (ms ++ m ∷ []) bytes
alone_by read text q n ms bytes w (piece.Byte c) fs rest e h g = by_bytes read text q n ms bytes w (piece.Byte c) _ refl
alone_by read text q n ms bytes w (piece.Escaped c) fs rest e h g = by_part read text q n ms bytes w (piece.Escaped c) _ refl
alone_by read text q n ms bytes w (piece.Backslash c) fs rest e h g = by_bytes read text q n ms bytes w (piece.Backslash c) _ refl
alone_by read text q n ms bytes w (piece.SingleQuoted between) fs rest e h g = by_part read text q n ms bytes w (piece.SingleQuoted between) _ refl
alone_by read text q n ms bytes w piece.Dollar fs rest e h g = by_bytes read text q n ms bytes w piece.Dollar _ refl
alone_by read text q n ms bytes w (piece.Variable name) fs rest e h g = by_part read text q n ms bytes w (piece.Variable name) _ refl
alone_by read text q n ms bytes w (piece.Parameter c) fs rest e h g = by_parameter read text q n ms bytes w c (short c) refl h
alone_by read text q zero ms bytes w (piece.Backquoted between) fs rest e h g =
    let p = first_ok (with_piece read (unread text (behind_pieces ms bytes)) (at fs zero w.parts w.literal) (piece.Backquoted between) (begins_closed rest)) _ g.0 g.1 in
    absurd (no_backquotes read text fs w.parts w.literal between (begins_closed rest) (behind_pieces ms bytes) p.0 p.1)
alone_by read text q (suc n) ms bytes w (piece.Backquoted between) fs rest e h g =
    let p = first_ok (with_piece read (unread text (behind_pieces ms bytes)) (at fs (suc n) w.parts w.literal) (piece.Backquoted between) (begins_closed rest)) _ g.0 g.1 in
    let a = answered_ok read text _ p.0 _ (sym (backquotes_asked read text fs n w.parts w.literal between (begins_closed rest) (behind_pieces ms bytes)) ∙ p.1) in
    by_backquotes read text q n ms bytes w between a.0 fs e a.1
alone_by read text q n ms bytes w m fs rest e h g = cc

-- ---- forms
regroup : (before inside rest : List Piece) (m n : Piece) → (before ++ m ∷ (inside ++ n ∷ [])) ++ rest ≡ before ++ m ∷ (inside ++ n ∷ rest)
regroup before inside rest m n = append_assoc before (m ∷ (inside ++ n ∷ [])) rest ∙ ap (λ xs. before ++ m ∷ xs) (append_assoc inside (n ∷ []) rest)

grouped : (read : Reader) (text : List ℕ) (b : Building) (xs ys : List Piece) (bytes : List ℕ) → xs ≡ ys → Going read text b xs bytes → Going read text b ys bytes
grouped read text b xs ys bytes h g = moved read text b b xs ys bytes bytes (ap (λ zs. with_pieces read text b zs bytes) h) g

placed : (read : Reader) (text : List ℕ) (b : Building) (xs : List Piece) (bytes after : List ℕ) → bytes ≡ after → Going read text b xs bytes → Going read text b xs after
placed read text b xs bytes after h g = moved read text b b xs xs bytes after (ap (λ bs. with_pieces read text b xs bs) h) g

none_found : (z : Bool) (place : ℕ) (k : Taken → Result Building PartFault) (c : Building) → and_then (if z then Err (fault.TooDeep place) else Err (fault.BadSubstitution place)) k ≡ Ok c → ⊥
none_found true place k c h = cc
none_found false place k c h = cc

found : (b c : Building) (place : ℕ) (o p : Option Braces) (k : Taken → Result Building PartFault) → o ≡ p → and_then (open_braces b place p) k ≡ Ok c → (f : Braces) × (o ≡ Some f)
found b c place o None k e h = absurd (none_found (nat_eq b.left 0) place k c h)
found b c place o (Some f) k e h = (f, e)

braces_found : (read : Reader) (text : List ℕ) (fs : List Frame) (n : ℕ) (ps : List Part) (literal head : List ℕ) (empty : Bool) (bytes : List ℕ) (c : Building) → with_piece read (unread text bytes) (at fs (suc n) ps literal) (piece.BraceOpen head) empty ≡ Ok c → (f : Braces) × (braces_of head empty ≡ Some f)
unfolding with_piece take_piece
braces_found read text fs n ps literal head empty bytes c h =
    let k = λ (t : Taken). with_answer read text t.building t.request in
    let b = at fs (suc n) ps literal in
    found b c (next text bytes) (braces_of head empty) (braces_of head empty) k refl h

commands_asked : (read : Reader) (text : List ℕ) (fs : List Frame) (n : ℕ) (ps : List Part) (literal : List ℕ) (place start : ℕ) (empty : Bool) (bytes : List ℕ) → with_piece read (unread text bytes) (passing fs (suc n) ps literal (begun_at place start)) piece.CommandsClose empty ≡ with_answer read text (at fs (suc n) ps literal) (Some (record { form = substitution.Commands; place = place; start = start; «end» = next text bytes; left = suc n - 1; is_too_deep = false }))
unfolding with_piece take_piece
commands_asked read text fs n ps literal place start empty bytes = refl

after_pieces : (read : Reader) (text : List ℕ) (q : Bool) (n : ℕ) (ms : List Piece) (bytes : List ℕ) (s : Spells read text q n ms bytes) (fs : List Frame) → in_quotes false fs ≡ q → (rest : List Piece) → Going read text (at fs n [] []) (ms ++ rest) bytes → Going read text (at fs n s.parts s.literal) rest (behind_pieces ms bytes)
after_pieces read text q n ms bytes s fs e rest g =
    moved read text (at fs n [] []) (at fs n s.parts s.literal) (ms ++ rest) rest bytes (behind_pieces ms bytes) (go read text q n ms bytes s.parts s.literal s.spelled fs e rest) g

after_opening : (read : Reader) (text : List ℕ) (b c : Building) (before : List Piece) (m : Piece) (rest : List Piece) (bytes : List ℕ) → with_piece read (unread text (behind_pieces before bytes)) b m (begins_closed rest) ≡ Ok c → Going read text b (m ∷ rest) (behind_pieces before bytes) → Going read text c rest (behind_pieces (before ++ m ∷ []) bytes)
after_opening read text b c before m rest bytes h g =
    placed read text c rest (behind_piece m (behind_pieces before bytes)) (behind_pieces (before ++ m ∷ []) bytes) (sym (behind_both before (m ∷ []) bytes))
    (moved read text b c (m ∷ rest) rest (behind_pieces before bytes) (behind_piece m (behind_pieces before bytes)) (step read text b c m rest (behind_pieces before bytes) h) g)

-- what comes of the first of the pieces
first_of : (read : Reader) (text : List ℕ) (b : Building) (m : Piece) (rest : List Piece) (bytes : List ℕ) → Going read text b (m ∷ rest) bytes → (c : Building) × (with_piece read (unread text bytes) b m (begins_closed rest) ≡ Ok c)
first_of read text b m rest bytes g = first_ok (with_piece read (unread text bytes) b m (begins_closed rest)) (λ c. with_pieces read text c rest (behind_piece m bytes)) g.0 g.1

-- ---- all pieces
all : (read : Reader) (text : List ℕ) (ms : List Piece) → Nested ms → (q : Bool) (n : ℕ) (bytes : List ℕ) (fs : List Frame) → in_quotes false fs ≡ q → (rest : List Piece) → Going read text (at fs n [] []) (ms ++ rest) bytes → Spells read text q n ms bytes
all read text ms spells.none q n bytes fs e rest g = record { parts = []; literal = []; spelled = spells.nothing q n bytes }
all read text ms (spells.alone before m w h) q n bytes fs e rest g =
    let g' = grouped read text (at fs n [] []) ((before ++ m ∷ []) ++ rest) (before ++ m ∷ rest) bytes (append_assoc before (m ∷ []) rest) g in
    let s = all read text before w q n bytes fs e (m ∷ rest) g' in
    alone_by read text q n before bytes s m fs rest e h (after_pieces read text q n before bytes s fs e (m ∷ rest) g')
all read text ms (spells.within_quotes before inside w v) q n bytes fs e rest g =
    let more = inside ++ piece.DoubleQuotesClose ∷ rest in
    let g' = grouped read text (at fs n [] []) ((before ++ piece.DoubleQuotesOpen ∷ (inside ++ piece.DoubleQuotesClose ∷ [])) ++ rest) (before ++ piece.DoubleQuotesOpen ∷ more) bytes (regroup before inside rest piece.DoubleQuotesOpen piece.DoubleQuotesClose) g in
    let s = all read text before w q n bytes fs e (piece.DoubleQuotesOpen ∷ more) g' in
    let g2 = after_pieces read text q n before bytes s fs e (piece.DoubleQuotesOpen ∷ more) g' in
    let f = frame_of form.Quotes n s.parts s.literal in
    let g3 = after_opening read text (at fs n s.parts s.literal) (at (fs ++ f ∷ []) n [] []) before piece.DoubleQuotesOpen more bytes
    (quiet read text (at fs n s.parts s.literal) (at (fs ++ f ∷ []) n [] []) piece.DoubleQuotesOpen (begins_closed more) (behind_pieces before bytes) (quotes_opened fs n s.parts s.literal (begins_closed more))) g2 in
    let t = all read text inside v true n (behind_pieces (before ++ piece.DoubleQuotesOpen ∷ []) bytes) (fs ++ f ∷ []) (quotes_behind false fs f) (piece.DoubleQuotesClose ∷ rest) g3 in
    record {
      parts = with_literal s.parts s.literal ++ part.DoubleQuoted (parts_of (with_literal t.parts t.literal)) ∷ [];
      literal = [];
      spelled = spells.quotes q n before bytes s.parts s.literal s.spelled inside t.parts t.literal t.spelled;
    }
all read text ms (spells.within_braces before inside head w v) q zero bytes fs e rest g =
    let more = inside ++ piece.BraceClose ∷ rest in
    let g' = grouped read text (at fs zero [] []) ((before ++ (piece.BraceOpen head) ∷ (inside ++ piece.BraceClose ∷ [])) ++ rest) (before ++ (piece.BraceOpen head) ∷ more) bytes (regroup before inside rest (piece.BraceOpen head) piece.BraceClose) g in
    let s = all read text before w q zero bytes fs e ((piece.BraceOpen head) ∷ more) g' in
    let g2 = after_pieces read text q zero before bytes s fs e ((piece.BraceOpen head) ∷ more) g' in
    let p = first_of read text (at fs zero s.parts s.literal) (piece.BraceOpen head) more (behind_pieces before bytes) g2 in
    absurd (no_braces read text fs s.parts s.literal head (begins_closed more) (behind_pieces before bytes) p.0 p.1)
all read text ms (spells.within_braces before inside head w v) q (suc n) bytes fs e rest g =
    let more = inside ++ piece.BraceClose ∷ rest in
    let g' = grouped read text (at fs (suc n) [] []) ((before ++ (piece.BraceOpen head) ∷ (inside ++ piece.BraceClose ∷ [])) ++ rest) (before ++ (piece.BraceOpen head) ∷ more) bytes (regroup before inside rest (piece.BraceOpen head) piece.BraceClose) g in
    let s = all read text before w q (suc n) bytes fs e ((piece.BraceOpen head) ∷ more) g' in
    let g2 = after_pieces read text q (suc n) before bytes s fs e ((piece.BraceOpen head) ∷ more) g' in
    let p = first_of read text (at fs (suc n) s.parts s.literal) (piece.BraceOpen head) more (behind_pieces before bytes) g2 in
    let b = braces_found read text fs n s.parts s.literal head (begins_closed more) (behind_pieces before bytes) p.0 p.1 in
    let f = frame_of (form.Braces b.0) (suc n) s.parts s.literal in
    let g3 = after_opening read text (at fs (suc n) s.parts s.literal) (at (fs ++ f ∷ []) n [] []) before (piece.BraceOpen head) more bytes
    (quiet read text (at fs (suc n) s.parts s.literal) (at (fs ++ f ∷ []) n [] []) (piece.BraceOpen head) (begins_closed more) (behind_pieces before bytes) (braces_opened fs n s.parts s.literal head b.0 (begins_closed more) b.1)) g2 in
    let t = all read text inside v (braces_quote b.0 q) n (behind_pieces (before ++ (piece.BraceOpen head) ∷ []) bytes) (fs ++ f ∷ []) (quotes_behind false fs f ∙ ap (braces_quote b.0) e) (piece.BraceClose ∷ rest) g3 in
    record {
      parts = with_literal s.parts s.literal ++ braces_part b.0 (parts_of (with_literal t.parts t.literal)) ∷ [];
      literal = [];
      spelled = spells.braces q n before bytes s.parts s.literal s.spelled head b.0 inside t.parts t.literal (ap (braces_of head) (sym (closes_same inside rest)) ∙ b.1) t.spelled;
    }
all read text ms (spells.within_arithmetic before inside w v) q zero bytes fs e rest g =
    let more = inside ++ piece.ArithmeticClose ∷ rest in
    let g' = grouped read text (at fs zero [] []) ((before ++ piece.ArithmeticOpen ∷ (inside ++ piece.ArithmeticClose ∷ [])) ++ rest) (before ++ piece.ArithmeticOpen ∷ more) bytes (regroup before inside rest piece.ArithmeticOpen piece.ArithmeticClose) g in
    let s = all read text before w q zero bytes fs e (piece.ArithmeticOpen ∷ more) g' in
    let g2 = after_pieces read text q zero before bytes s fs e (piece.ArithmeticOpen ∷ more) g' in
    let p = first_of read text (at fs zero s.parts s.literal) piece.ArithmeticOpen more (behind_pieces before bytes) g2 in
    absurd (no_arithmetic read text fs s.parts s.literal (begins_closed more) (behind_pieces before bytes) p.0 p.1)
all read text ms (spells.within_arithmetic before inside w v) q (suc n) bytes fs e rest g =
    let more = inside ++ piece.ArithmeticClose ∷ rest in
    let g' = grouped read text (at fs (suc n) [] []) ((before ++ piece.ArithmeticOpen ∷ (inside ++ piece.ArithmeticClose ∷ [])) ++ rest) (before ++ piece.ArithmeticOpen ∷ more) bytes (regroup before inside rest piece.ArithmeticOpen piece.ArithmeticClose) g in
    let s = all read text before w q (suc n) bytes fs e (piece.ArithmeticOpen ∷ more) g' in
    let g2 = after_pieces read text q (suc n) before bytes s fs e (piece.ArithmeticOpen ∷ more) g' in
    let f = frame_of form.Arithmetic (suc n) s.parts s.literal in
    let g3 = after_opening read text (at fs (suc n) s.parts s.literal) (at (fs ++ f ∷ []) n [] []) before piece.ArithmeticOpen more bytes
    (quiet read text (at fs (suc n) s.parts s.literal) (at (fs ++ f ∷ []) n [] []) piece.ArithmeticOpen (begins_closed more) (behind_pieces before bytes) (arithmetic_opened fs n s.parts s.literal (begins_closed more))) g2 in
    let t = all read text inside v false n (behind_pieces (before ++ piece.ArithmeticOpen ∷ []) bytes) (fs ++ f ∷ []) (quotes_behind false fs f) (piece.ArithmeticClose ∷ rest) g3 in
    record {
      parts = with_literal s.parts s.literal ++ part.Arithmetic (parts_of (with_literal t.parts t.literal)) ∷ [];
      literal = [];
      spelled = spells.arithmetic q n before bytes s.parts s.literal s.spelled inside t.parts t.literal t.spelled;
    }
all read text ms (spells.within_commands before inside w v) q zero bytes fs e rest g =
    let more = inside ++ piece.CommandsClose ∷ rest in
    let g' = grouped read text (at fs zero [] []) ((before ++ piece.CommandsOpen ∷ (inside ++ piece.CommandsClose ∷ [])) ++ rest) (before ++ piece.CommandsOpen ∷ more) bytes (regroup before inside rest piece.CommandsOpen piece.CommandsClose) g in
    let s = all read text before w q zero bytes fs e (piece.CommandsOpen ∷ more) g' in
    let g2 = after_pieces read text q zero before bytes s fs e (piece.CommandsOpen ∷ more) g' in
    let p = first_of read text (at fs zero s.parts s.literal) piece.CommandsOpen more (behind_pieces before bytes) g2 in
    absurd (no_commands read text fs s.parts s.literal (begins_closed more) (behind_pieces before bytes) p.0 p.1)
all read text ms (spells.within_commands before inside w v) q (suc n) bytes fs e rest g =
    let more = inside ++ piece.CommandsClose ∷ rest in
    let g' = grouped read text (at fs (suc n) [] []) ((before ++ piece.CommandsOpen ∷ (inside ++ piece.CommandsClose ∷ [])) ++ rest) (before ++ piece.CommandsOpen ∷ more) bytes (regroup before inside rest piece.CommandsOpen piece.CommandsClose) g in
    let s = all read text before w q (suc n) bytes fs e (piece.CommandsOpen ∷ more) g' in
    let g2 = after_pieces read text q (suc n) before bytes s fs e (piece.CommandsOpen ∷ more) g' in
    let opened = behind_both before (piece.CommandsOpen ∷ []) bytes in
    let start = behind_pieces (before ++ piece.CommandsOpen ∷ []) bytes in
    let done = behind_pieces inside start in
    let skip = begun_at (next text (behind_pieces before bytes)) (here text start) in
    let state = passing fs (suc n) s.parts s.literal skip in
    let g3 = after_opening read text (at fs (suc n) s.parts s.literal) state before piece.CommandsOpen more bytes
    (commands_opened read text fs n s.parts s.literal (begins_closed more) (behind_pieces before bytes) start opened) g2 in
    let g4 = moved read text state state more (piece.CommandsClose ∷ rest) start done (passed read text fs (suc n) s.parts s.literal inside v (next text (behind_pieces before bytes)) (here text start) (piece.CommandsClose ∷ rest) start) g3 in
    let p = first_of read text state piece.CommandsClose rest done g4 in
    let a = answered_ok read text (at fs (suc n) s.parts s.literal) p.0
    (record { form = substitution.Commands; place = next text (behind_pieces before bytes); start = here text start; «end» = next text done; left = suc n - 1; is_too_deep = false })
    (sym (commands_asked read text fs n s.parts s.literal (next text (behind_pieces before bytes)) (here text start) (begins_closed rest) done) ∙ p.1) in
    record {
      parts = with_literal s.parts s.literal ++ part.Substitution a.0 ∷ [];
      literal = [];
      spelled = spells.commands q n before bytes s.parts s.literal s.spelled inside a.0 v
          (ap (λ bs. read n (text_between text (here text start) (next text bs))) (behind_both before (piece.CommandsOpen ∷ inside) bytes ∙ ap (behind_pieces inside) (sym opened))
          ∙ ap (λ m. read m (text_between text (here text start) (next text done))) (sym (one_less n))
          ∙ a.1);
    }

as_spelled : (read : Reader) (left : ℕ) (text : List ℕ) (ms : List Piece) (bytes : List ℕ) (parts : List Part) (s : Spells read text false left ms bytes) → parts_in read left text ms bytes ≡ Ok (parts_of parts) → AreSpelled read text left ms bytes parts
as_spelled read left text ms bytes parts s h =
    let spelled : AreSpelled read text left ms bytes (with_literal s.parts s.literal) = record { before = s.parts; literal = s.literal; spelled = s.spelled; same = refl } in
    record {
      before = s.parts;
      literal = s.literal;
      spelled = s.spelled;
      same = same_parts parts (with_literal s.parts s.literal) (is_ok (parts_of parts) (parts_of (with_literal s.parts s.literal)) (parts_in read left text ms bytes) h (given read left text ms bytes (with_literal s.parts s.literal) spelled));
    }

pub spelled_parts : (read : Reader) (left : ℕ) (text : List ℕ) (ms : List Piece) (bytes : List ℕ) (parts : List Part) → Nested ms → parts_in read left text ms bytes ≡ Ok (parts_of parts) → AreSpelled read text left ms bytes parts
unfolding parts_in
spelled_parts read left text ms bytes parts w h =
    let p = first_ok (with_pieces read text (at [] left [] []) ms bytes) (λ b. Ok (whole b)) (parts_of parts) h in
    let s = all read text ms w false left bytes [] refl [] (grouped read text (at [] left [] []) ms (ms ++ []) bytes (sym (append-nil ms)) p) in
    as_spelled read left text ms bytes parts s h

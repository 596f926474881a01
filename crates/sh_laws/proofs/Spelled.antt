-- What pieces spell is what the reader's steps make of them.
use Rattle.std.proofs.Common.{◌≡◌, ℕ, suc, ◌-◌, Bool, true, false, List, [], ◌∷◌, ◌++◌, length, Option, Some, None, refl, sym, ap, ◌∙◌, arith, append-nil, append_assoc}
use Rattle.std.specs.Prelude.{Result, Ok, Err, nat_eq, if◌then◌else◌}
use Rattle.std.specs.Option.{option_map, unwrap_or}
use Rattle.std.proofs.lemmas.Bool.Decides.{nat_tests}
use Rattle.sh_token_pieces.specs.declared.piece.Piece.{Piece}
use Rattle.sh_token_pieces.specs.declared.piece.Piece.TheVariants as piece
use Rattle.sh_syntax.specs.declared.tree.CompoundList.{CompoundList}
use Rattle.sh_syntax.specs.declared.tree.Part.{Part}
use Rattle.sh_syntax.specs.declared.tree.Part.TheVariants as part
use Rattle.sh_syntax.specs.declared.tree.Parameter.{Parameter}
use Rattle.sh_syntax.specs.declared.tree.Parts.{Parts}
use Rattle.sh_syntax.specs.declared.tree.Command.TheViews as view
use Rattle.sh_parse_words.specs.declared.fault.PartFault.{PartFault}
use Rattle.sh_parse_words.specs.declared.build.Form.{Form}
use Rattle.sh_parse_words.specs.declared.build.Form.TheVariants as form
use Rattle.sh_parse_words.specs.declared.build.Frame.{Frame}
use Rattle.sh_parse_words.specs.declared.build.Request.{Request}
use Rattle.sh_parse_words.specs.declared.build.Skip.{Skip}
use Rattle.sh_parse_words.specs.declared.build.Substitution.TheVariants as substitution
use Rattle.sh_parse_words.specs.declared.fault.PartFault.TheVariants as fault
use Rattle.sh_parse_words.specs.declared.parameter.Braces.{Braces}
use Rattle.sh_parse_words.specs.Building.{Building, Outcome, at_level, backquotes_request, backquotes_by, empty_building, braces_quote, with_form_part, closed_by, with_literal, whole_parts, form_part, form_quotes, in_quotes, last_frame, on, open_braces, opened, other_frames, parameter_part, parts_of, plainly, program_part, skip_outcome, take_piece, with_bytes, with_part, with_program}
use Rattle.sh_parse_words.specs.Parameters.{braces_of, short}
use Rattle.sh_parse_words.specs.Places.{behind_joins, behind_piece, place_of}
use Rattle.sh_parse_leaves.specs.Results.{and_then, fault_moved}
use Rattle.sh_parse_leaves.specs.Sources.{backquotes_text, behind_pieces, text_between}
use Rattle.sh_parse_leaves.specs.Words.{Reader, at_its_level, answer_of, with_answer, begins_closed, parts_in, place_in, text_by, text_of, whole, with_piece, with_pieces, unread}
use Rattle.sh_laws.specs.Spelled.{AreSpelled, Balanced, Spelled, Unclosed, bytes_of, here, is_plain, next, part_of}
use Rattle.sh_laws.specs.Spelled as spells

-- parts that are being put together, outside of substitutions
abbrev pub at : List Frame → ℕ → List Part → List ℕ → Building
at fs left ps literal = record { parts = ps; literal = literal; left = left; frames = fs; skip = None }

pub is_some : {A : Type 0} (a b : A) → Some a ≡ Some b → a ≡ b
is_some a b h = ap (λ o. unwrap_or o a) h

-- ---- the bytes behind pieces
pub behind_both : (xs ys : List Piece) (bytes : List ℕ) → behind_pieces (xs ++ ys) bytes ≡ behind_pieces ys (behind_pieces xs bytes)
behind_both [] ys bytes = refl
behind_both (x ∷ xs) ys bytes = behind_both xs ys (behind_piece x bytes)

-- ---- a piece
pub step : (read : Reader) (text : List ℕ) (b c : Building) (m : Piece) (rest : List Piece) (bytes : List ℕ) → with_piece read (unread text bytes) b m (begins_closed rest) ≡ Ok c → with_pieces read text b (m ∷ rest) bytes ≡ with_pieces read text c rest (behind_piece m bytes)
step read text b c m rest bytes h = ap (λ o. and_then o (λ d. with_pieces read text d rest (behind_piece m bytes))) h

-- a piece that asks for nothing
pub quiet : (read : Reader) (text : List ℕ) (b c : Building) (m : Piece) (empty : Bool) (bytes : List ℕ) → ((place behind : ℕ) → take_piece b m empty place behind ≡ on c) → with_piece read (unread text bytes) b m empty ≡ Ok c
unfolding with_piece
quiet read text b c m empty bytes h =
    ap (λ o. and_then o (λ t. with_answer read text t.building t.request)) (h (place_of (length text) (behind_joins bytes)) (place_of (length text) (behind_piece m bytes)))

pub byte_taken : (fs : List Frame) (left : ℕ) (ps : List Part) (literal : List ℕ) (m : Piece) (more : List ℕ) (empty : Bool) → bytes_of m ≡ Some more → (place behind : ℕ) → take_piece (at fs left ps literal) m empty place behind ≡ on (at fs left ps (literal ++ more))
unfolding take_piece plainly with_bytes
byte_taken fs left ps literal (piece.Byte c) more empty h place behind = ap (λ bs. on (at fs left ps (literal ++ bs))) (is_some _ _ h)
byte_taken fs left ps literal (piece.Backslash c) more empty h place behind = ap (λ bs. on (at fs left ps (literal ++ bs))) (is_some _ _ h)
byte_taken fs left ps literal piece.Dollar more empty h place behind = ap (λ bs. on (at fs left ps (literal ++ bs))) (is_some _ _ h)
byte_taken fs left ps literal m more empty h place behind = cc

parameter_is : (c : ℕ) (o : Option Parameter) (p : Part) → option_map (λ x. part.Parameter x) o ≡ Some p → parameter_part c o ≡ p
parameter_is c None p h = cc
parameter_is c (Some x) p h = is_some _ _ h

pub part_taken : (fs : List Frame) (left : ℕ) (ps : List Part) (literal : List ℕ) (m : Piece) (p : Part) (empty : Bool) → part_of m ≡ Some p → (place behind : ℕ) → take_piece (at fs left ps literal) m empty place behind ≡ on (at fs left (with_literal ps literal ++ p ∷ []) [])
unfolding take_piece plainly with_part
part_taken fs left ps literal (piece.Escaped c) p empty h place behind = ap (λ x. on (at fs left (with_literal ps literal ++ x ∷ []) [])) (is_some _ _ h)
part_taken fs left ps literal (piece.SingleQuoted bytes) p empty h place behind = ap (λ x. on (at fs left (with_literal ps literal ++ x ∷ []) [])) (is_some _ _ h)
part_taken fs left ps literal (piece.Variable name) p empty h place behind = ap (λ x. on (at fs left (with_literal ps literal ++ x ∷ []) [])) (is_some _ _ h)
part_taken fs left ps literal (piece.Parameter c) p empty h place behind = ap (λ x. on (at fs left (with_literal ps literal ++ x ∷ []) [])) (parameter_is c (short c) p h)
part_taken fs left ps literal m p empty h place behind = cc

-- ---- frames
last_is : (fs : List Frame) (f : Frame) → last_frame (fs ++ f ∷ []) ≡ Some f
last_is [] f = refl
last_is (g ∷ []) f = refl
last_is (g ∷ h ∷ fs) f = last_is (h ∷ fs) f

others_are : (fs : List Frame) (f : Frame) → other_frames (fs ++ f ∷ []) ≡ fs
others_are [] f = refl
others_are (g ∷ []) f = refl
others_are (g ∷ h ∷ fs) f = ap (λ z. g ∷ z) (others_are (h ∷ fs) f)

pub quotes_behind : (around : Bool) (fs : List Frame) (f : Frame) → in_quotes around (fs ++ f ∷ []) ≡ form_quotes f.form (in_quotes around fs)
quotes_behind around [] f = refl
quotes_behind around (g ∷ fs) f = quotes_behind (form_quotes g.form around) fs f

abbrev pub frame_of : Form → ℕ → List Part → List ℕ → Frame
frame_of f left ps literal = record { form = f; before = with_literal ps literal; left = left }

-- ---- levels
pub level_left : (left : ℕ) → nat_eq (suc left) 0 ≡ false
level_left left = grind (arith, nat_tests)

pub levelled : (left place : ℕ) (o : Outcome) → at_level (suc left) place o ≡ o
levelled left place o = ap (λ t. if t then Err (fault.TooDeep place) else o) (level_left left)

pub one_less : (left : ℕ) → suc left - 1 ≡ left
one_less left = omega arith

-- ---- forms that open and close
pub quotes_opened : (fs : List Frame) (left : ℕ) (ps : List Part) (literal : List ℕ) (empty : Bool) (place behind : ℕ) → take_piece (at fs left ps literal) piece.DoubleQuotesOpen empty place behind ≡ on (at (fs ++ frame_of form.Quotes left ps literal ∷ []) left [] [])
unfolding take_piece plainly opened
quotes_opened fs left ps literal empty place behind = refl

pub arithmetic_opened : (fs : List Frame) (left : ℕ) (ps : List Part) (literal : List ℕ) (empty : Bool) (place behind : ℕ) → take_piece (at fs (suc left) ps literal) piece.ArithmeticOpen empty place behind ≡ on (at (fs ++ frame_of form.Arithmetic (suc left) ps literal ∷ []) left [] [])
unfolding take_piece opened
arithmetic_opened fs left ps literal empty place behind =
    levelled left place _
    ∙ ap (λ n. on (at (fs ++ frame_of form.Arithmetic (suc left) ps literal ∷ []) n [] [])) (one_less left)

pub braces_opened : (fs : List Frame) (left : ℕ) (ps : List Part) (literal : List ℕ) (head : List ℕ) (f : Braces) (empty : Bool) → braces_of head empty ≡ Some f → (place behind : ℕ) → take_piece (at fs (suc left) ps literal) (piece.BraceOpen head) empty place behind ≡ on (at (fs ++ frame_of (form.Braces f) (suc left) ps literal ∷ []) left [] [])
unfolding take_piece opened
braces_opened fs left ps literal head f empty h place behind =
    ap (λ o. open_braces (at fs (suc left) ps literal) place o) h
    ∙ levelled left place _
    ∙ ap (λ n. on (at (fs ++ frame_of (form.Braces f) (suc left) ps literal ∷ []) n [] [])) (one_less left)

pub closed_is : (fs : List Frame) (f : Frame) (left : ℕ) (qs : List Part) (rest : List ℕ) → with_form_part (at (fs ++ f ∷ []) left qs rest) ≡ at fs f.left (f.before ++ form_part f.form (parts_of (with_literal qs rest)) ∷ []) []
unfolding with_form_part
closed_is fs f left qs rest =
    ap (λ o. closed_by o (at (fs ++ f ∷ []) left qs rest)) (last_is fs f)
    ∙ ap (λ gs. at gs f.left (f.before ++ form_part f.form (parts_of (with_literal qs rest)) ∷ []) []) (others_are fs f)

pub quotes_closed : (fs : List Frame) (f : Frame) (left : ℕ) (qs : List Part) (rest : List ℕ) (empty : Bool) (place behind : ℕ) → take_piece (at (fs ++ f ∷ []) left qs rest) piece.DoubleQuotesClose empty place behind ≡ on (at fs f.left (f.before ++ form_part f.form (parts_of (with_literal qs rest)) ∷ []) [])
unfolding take_piece plainly
quotes_closed fs f left qs rest empty place behind = ap on (closed_is fs f left qs rest)

pub braces_closed : (fs : List Frame) (f : Frame) (left : ℕ) (qs : List Part) (rest : List ℕ) (empty : Bool) (place behind : ℕ) → take_piece (at (fs ++ f ∷ []) left qs rest) piece.BraceClose empty place behind ≡ on (at fs f.left (f.before ++ form_part f.form (parts_of (with_literal qs rest)) ∷ []) [])
unfolding take_piece plainly
braces_closed fs f left qs rest empty place behind = ap on (closed_is fs f left qs rest)

pub arithmetic_closed : (fs : List Frame) (f : Frame) (left : ℕ) (qs : List Part) (rest : List ℕ) (empty : Bool) (place behind : ℕ) → take_piece (at (fs ++ f ∷ []) left qs rest) piece.ArithmeticClose empty place behind ≡ on (at fs f.left (f.before ++ form_part f.form (parts_of (with_literal qs rest)) ∷ []) [])
unfolding take_piece plainly
arithmetic_closed fs f left qs rest empty place behind = ap on (closed_is fs f left qs rest)

pub closes_same : (inside rest : List Piece) → begins_closed (inside ++ piece.BraceClose ∷ rest) ≡ begins_closed (inside ++ piece.BraceClose ∷ [])
closes_same [] rest = refl
closes_same (m ∷ ms) rest = refl

-- ---- command substitutions: their pieces are passed over
abbrev pub passing : List Frame → ℕ → List Part → List ℕ → Skip → Building
passing fs left ps literal s = record { parts = ps; literal = literal; left = left; frames = fs; skip = Some s }

abbrev deeper : Skip → Skip
deeper s = record s { depth = suc s.depth }

plain_passed : (fs : List Frame) (left : ℕ) (ps : List Part) (literal : List ℕ) (s : Skip) (m : Piece) (empty : Bool) → is_plain m ≡ true → (place behind : ℕ) → take_piece (passing fs left ps literal s) m empty place behind ≡ on (passing fs left ps literal s)
unfolding take_piece
plain_passed fs left ps literal s piece.CommandsOpen empty h place behind = cc
plain_passed fs left ps literal s piece.CommandsClose empty h place behind = cc
plain_passed fs left ps literal s m empty h place behind = refl

open_passed : (fs : List Frame) (left : ℕ) (ps : List Part) (literal : List ℕ) (s : Skip) (empty : Bool) (place behind : ℕ) → take_piece (passing fs left ps literal s) piece.CommandsOpen empty place behind ≡ on (passing fs left ps literal (deeper s))
unfolding take_piece
open_passed fs left ps literal s empty place behind = refl

shallower : (d : ℕ) → suc d - 1 ≡ d
shallower d = omega arith

close_passed : (fs : List Frame) (left : ℕ) (ps : List Part) (literal : List ℕ) (s : Skip) (empty : Bool) (place behind : ℕ) → take_piece (passing fs left ps literal (deeper s)) piece.CommandsClose empty place behind ≡ on (passing fs left ps literal s)
unfolding take_piece
close_passed fs left ps literal s empty place behind =
    ap (λ t. if t then skip_outcome (passing fs left ps literal (deeper s)) (deeper s) place else on (passing fs left ps literal (record s { depth = suc s.depth - 1 }))) (level_left s.depth)
    ∙ ap (λ d. on (passing fs left ps literal (record s { depth = d }))) (shallower s.depth)

abbrev pub begun_at : ℕ → ℕ → Skip
begun_at place start = record { depth = 0; place = place; start = start }

abbrev pub deep : Skip → ℕ → Skip
deep s d = record s { depth = d }

passed_by : (read : Reader) (text : List ℕ) (fs : List Frame) (left : ℕ) (ps : List Part) (literal : List ℕ) (inside : List Piece) (d : ℕ) → Unclosed inside d → (s : Skip) (rest : List Piece) (bytes : List ℕ) → with_pieces read text (passing fs left ps literal (deep s 0)) (inside ++ rest) bytes ≡ with_pieces read text (passing fs left ps literal (deep s d)) rest (behind_pieces inside bytes)
passed_by read text fs left ps literal inside d spells.empty s rest bytes = refl
passed_by read text fs left ps literal inside d (spells.plain ms n m u p) s rest bytes =
    ap (λ xs. with_pieces read text (passing fs left ps literal (deep s 0)) xs bytes) (append_assoc ms (m ∷ []) rest)
    ∙ passed_by read text fs left ps literal ms n u s (m ∷ rest) bytes
    ∙ step read text _ _ m rest _ (quiet read text _ _ m _ _ (plain_passed fs left ps literal (deep s n) m _ p))
    ∙ ap (λ bs. with_pieces read text (passing fs left ps literal (deep s n)) rest bs) (sym (behind_both ms (m ∷ []) bytes))
passed_by read text fs left ps literal inside d (spells.opens ms n u) s rest bytes =
    ap (λ xs. with_pieces read text (passing fs left ps literal (deep s 0)) xs bytes) (append_assoc ms (piece.CommandsOpen ∷ []) rest)
    ∙ passed_by read text fs left ps literal ms n u s (piece.CommandsOpen ∷ rest) bytes
    ∙ step read text _ _ piece.CommandsOpen rest _ (quiet read text _ _ piece.CommandsOpen _ _ (open_passed fs left ps literal (deep s n) _))
    ∙ ap (λ bs. with_pieces read text (passing fs left ps literal (deep s (suc n))) rest bs) (sym (behind_both ms (piece.CommandsOpen ∷ []) bytes))
passed_by read text fs left ps literal inside d (spells.closes ms n u) s rest bytes =
    ap (λ xs. with_pieces read text (passing fs left ps literal (deep s 0)) xs bytes) (append_assoc ms (piece.CommandsClose ∷ []) rest)
    ∙ passed_by read text fs left ps literal ms (suc n) u s (piece.CommandsClose ∷ rest) bytes
    ∙ step read text _ _ piece.CommandsClose rest _ (quiet read text _ _ piece.CommandsClose _ _ (close_passed fs left ps literal (deep s n) _))
    ∙ ap (λ bs. with_pieces read text (passing fs left ps literal (deep s n)) rest bs) (sym (behind_both ms (piece.CommandsClose ∷ []) bytes))

pub passed : (read : Reader) (text : List ℕ) (fs : List Frame) (left : ℕ) (ps : List Part) (literal : List ℕ) (inside : List Piece) → Balanced inside → (place start : ℕ) (rest : List Piece) (bytes : List ℕ) → with_pieces read text (passing fs left ps literal (begun_at place start)) (inside ++ rest) bytes ≡ with_pieces read text (passing fs left ps literal (begun_at place start)) rest (behind_pieces inside bytes)
passed read text fs left ps literal inside u place start rest bytes = passed_by read text fs left ps literal inside 0 u (begun_at place start) rest bytes

pub answered_by : (read : Reader) (text : List ℕ) (b : Building) (r : Request) (program : CompoundList) → r.is_too_deep ≡ false → read r.left (text_by r.form (text_between text r.start r.«end»)) ≡ Ok program → with_answer read text b (Some r) ≡ Ok (with_program b r.form program)
unfolding answer_of text_of
answered_by read text b r program e h =
    ap (λ o. and_then (at_its_level r (fault_moved (λ place. place_in r place) o)) (λ c. Ok (with_program b r.form c))) h
    ∙ ap (λ z. and_then (if z then Err (fault.TooDeep r.place) else Ok program) (λ c. Ok (with_program b r.form c))) e

pub commands_opened : (read : Reader) (text : List ℕ) (fs : List Frame) (left : ℕ) (ps : List Part) (literal : List ℕ) (empty : Bool) (bytes start : List ℕ) → start ≡ behind_piece piece.CommandsOpen bytes → with_piece read (unread text bytes) (at fs (suc left) ps literal) piece.CommandsOpen empty ≡ Ok (passing fs (suc left) ps literal (begun_at (next text bytes) (here text start)))
unfolding with_piece take_piece
commands_opened read text fs left ps literal empty bytes start same =
    ap (λ o. and_then o (λ t. with_answer read text t.building t.request)) (levelled left (next text bytes) _)
    ∙ ap (λ bs. Ok (passing fs (suc left) ps literal (begun_at (next text bytes) (here text bs)))) (sym same)

pub commands_closed : (read : Reader) (text : List ℕ) (fs : List Frame) (left : ℕ) (ps : List Part) (literal : List ℕ) (place start : ℕ) (empty : Bool) (bytes : List ℕ) (program : CompoundList) → read left (text_between text start (next text bytes)) ≡ Ok program → with_piece read (unread text bytes) (passing fs (suc left) ps literal (begun_at place start)) piece.CommandsClose empty ≡ Ok (at fs (suc left) (with_literal ps literal ++ part.Substitution program ∷ []) [])
unfolding with_piece take_piece with_program with_part
commands_closed read text fs left ps literal place start empty bytes program h =
    answered_by read text (at fs (suc left) ps literal)
    (record { form = substitution.Commands; place = place; start = start; «end» = next text bytes; left = suc left - 1; is_too_deep = false }) program refl
    (ap (λ n. read n (text_between text start (next text bytes))) (one_less left) ∙ h)

-- ---- backquotes
pub text_in_backquotes : (quoted : Bool) (bytes : List ℕ) → text_by (backquotes_by quoted) bytes ≡ backquotes_text quoted bytes
text_in_backquotes true bytes = refl
text_in_backquotes false bytes = refl

part_in_backquotes : (quoted : Bool) (program : CompoundList) → program_part (backquotes_by quoted) program ≡ part.Backquoted program
part_in_backquotes true program = refl
part_in_backquotes false program = refl

pub backquotes_taken : (read : Reader) (text : List ℕ) (fs : List Frame) (quoted : Bool) (left : ℕ) (ps : List Part) (literal between : List ℕ) (empty : Bool) (bytes after : List ℕ) (program : CompoundList) → in_quotes false fs ≡ quoted → after ≡ behind_piece (piece.Backquoted between) bytes → read left (backquotes_text quoted (text_between text (next text bytes) (here text after))) ≡ Ok program → with_piece read (unread text bytes) (at fs (suc left) ps literal) (piece.Backquoted between) empty ≡ Ok (at fs (suc left) (with_literal ps literal ++ part.Backquoted program ∷ []) [])
unfolding with_piece take_piece with_program with_part
backquotes_taken read text fs quoted left ps literal between empty bytes after program e same h =
    let b = at fs (suc left) ps literal in
    let r = backquotes_request b (next text bytes) (here text (behind_piece (piece.Backquoted between) bytes)) in
    answered_by read text b r program (level_left left)
    (text_in (in_quotes false fs) _ _
    ∙ ap (λ bs. read (suc left - 1) (backquotes_text (in_quotes false fs) (text_between text (next text bytes) (here text bs)))) (sym same)
    ∙ ap (λ n. read n (backquotes_text (in_quotes false fs) (text_between text (next text bytes) (here text after)))) (one_less left)
    ∙ ap (λ q. read left (backquotes_text q (text_between text (next text bytes) (here text after)))) e
    ∙ h)
    ∙ ap (λ p. Ok (at fs (suc left) (with_literal ps literal ++ p ∷ []) [])) (part_in_backquotes (in_quotes false fs) program)
  where
    text_in : (q : Bool) (n : ℕ) (bs : List ℕ) → read n (text_by (backquotes_by q) bs) ≡ read n (backquotes_text q bs)
    text_in q n bs = ap (λ xs. read n xs) (text_in_backquotes q bs)

-- ---- a form with what stands in it
pub formed : (read : Reader) (text : List ℕ) (a b c d e : Building) (ms inside rest : List Piece) (m n : Piece) (bytes : List ℕ)
    → with_pieces read text a (ms ++ m ∷ (inside ++ n ∷ rest)) bytes ≡ with_pieces read text b (m ∷ (inside ++ n ∷ rest)) (behind_pieces ms bytes)
    → with_piece read (unread text (behind_pieces ms bytes)) b m (begins_closed (inside ++ n ∷ rest)) ≡ Ok c
    → with_pieces read text c (inside ++ n ∷ rest) (behind_pieces (ms ++ m ∷ []) bytes) ≡ with_pieces read text d (n ∷ rest) (behind_pieces inside (behind_pieces (ms ++ m ∷ []) bytes))
    → with_piece read (unread text (behind_pieces inside (behind_pieces (ms ++ m ∷ []) bytes))) d n (begins_closed rest) ≡ Ok e
    → with_pieces read text a ((ms ++ m ∷ (inside ++ n ∷ [])) ++ rest) bytes ≡ with_pieces read text e rest (behind_pieces (ms ++ m ∷ (inside ++ n ∷ [])) bytes)
formed read text a b c d e ms inside rest m n bytes before opens within closes =
    let start = behind_both ms (m ∷ []) bytes in
    ap (λ xs. with_pieces read text a xs bytes) (append_assoc ms (m ∷ (inside ++ n ∷ [])) rest ∙ ap (λ xs. ms ++ m ∷ xs) (append_assoc inside (n ∷ []) rest))
    ∙ before
    ∙ step read text b c m (inside ++ n ∷ rest) (behind_pieces ms bytes) opens
    ∙ ap (λ bs. with_pieces read text c (inside ++ n ∷ rest) bs) (sym start)
    ∙ within
    ∙ step read text d e n rest _ closes
    ∙ ap (λ bs. with_pieces read text e rest bs)
    (ap (λ bs. behind_piece n (behind_pieces inside bs)) start
    ∙ sym (behind_both inside (n ∷ []) (behind_piece m (behind_pieces ms bytes)))
    ∙ sym (behind_both ms (m ∷ (inside ++ n ∷ [])) bytes))

-- ---- all pieces
pub go : (read : Reader) (text : List ℕ) (quoted : Bool) (left : ℕ) (ms : List Piece) (bytes : List ℕ) (ps : List Part) (literal : List ℕ)
    → Spelled read text quoted left ms bytes ps literal → (fs : List Frame) → in_quotes false fs ≡ quoted → (rest : List Piece)
    → with_pieces read text (at fs left [] []) (ms ++ rest) bytes ≡ with_pieces read text (at fs left ps literal) rest (behind_pieces ms bytes)
go read text quoted left ms bytes ps literal (spells.nothing q n bs) fs e rest = refl
go read text quoted left ms bytes ps literal (spells.stands q n before bs qs l s m more h) fs e rest =
    ap (λ xs. with_pieces read text (at fs n [] []) xs bs) (append_assoc before (m ∷ []) rest)
    ∙ go read text q n before bs qs l s fs e (m ∷ rest)
    ∙ step read text _ _ m rest _ (quiet read text _ _ m _ _ (byte_taken fs n qs l m more _ h))
    ∙ ap (λ xs. with_pieces read text (at fs n qs (l ++ more)) rest xs) (sym (behind_both before (m ∷ []) bs))
go read text quoted left ms bytes ps literal (spells.single q n before bs qs l s m p h) fs e rest =
    ap (λ xs. with_pieces read text (at fs n [] []) xs bs) (append_assoc before (m ∷ []) rest)
    ∙ go read text q n before bs qs l s fs e (m ∷ rest)
    ∙ step read text _ _ m rest _ (quiet read text _ _ m _ _ (part_taken fs n qs l m p _ h))
    ∙ ap (λ xs. with_pieces read text (at fs n (with_literal qs l ++ p ∷ []) []) rest xs) (sym (behind_both before (m ∷ []) bs))
go read text quoted left ms bytes ps literal (spells.quotes q n before bs qs l s inside rs k t) fs e rest =
    let f = frame_of form.Quotes n qs l in
    formed read text _ (at fs n qs l) (at (fs ++ f ∷ []) n [] []) (at (fs ++ f ∷ []) n rs k) _ before inside rest piece.DoubleQuotesOpen piece.DoubleQuotesClose bs
    (go read text q n before bs qs l s fs e _)
    (quiet read text _ _ piece.DoubleQuotesOpen _ _ (quotes_opened fs n qs l _))
    (go read text true n inside _ rs k t (fs ++ f ∷ []) (quotes_behind false fs f) _)
    (quiet read text _ _ piece.DoubleQuotesClose _ _ (quotes_closed fs f n rs k _))
go read text quoted left ms bytes ps literal (spells.braces q n before bs qs l s head b inside rs k h t) fs e rest =
    let f = frame_of (form.Braces b) (suc n) qs l in
    formed read text _ (at fs (suc n) qs l) (at (fs ++ f ∷ []) n [] []) (at (fs ++ f ∷ []) n rs k) _ before inside rest (piece.BraceOpen head) piece.BraceClose bs
    (go read text q (suc n) before bs qs l s fs e _)
    (quiet read text _ _ (piece.BraceOpen head) _ _ (braces_opened fs n qs l head b _ (ap (braces_of head) (closes_same inside rest) ∙ h)))
    (go read text (braces_quote b q) n inside _ rs k t (fs ++ f ∷ []) (quotes_behind false fs f ∙ ap (braces_quote b) e) _)
    (quiet read text _ _ piece.BraceClose _ _ (braces_closed fs f n rs k _))
go read text quoted left ms bytes ps literal (spells.arithmetic q n before bs qs l s inside rs k t) fs e rest =
    let f = frame_of form.Arithmetic (suc n) qs l in
    formed read text _ (at fs (suc n) qs l) (at (fs ++ f ∷ []) n [] []) (at (fs ++ f ∷ []) n rs k) _ before inside rest piece.ArithmeticOpen piece.ArithmeticClose bs
    (go read text q (suc n) before bs qs l s fs e _)
    (quiet read text _ _ piece.ArithmeticOpen _ _ (arithmetic_opened fs n qs l _))
    (go read text false n inside _ rs k t (fs ++ f ∷ []) (quotes_behind false fs f) _)
    (quiet read text _ _ piece.ArithmeticClose _ _ (arithmetic_closed fs f n rs k _))
go read text quoted left ms bytes ps literal (spells.commands q n before bs qs l s inside program b h) fs e rest =
    let place = next text (behind_pieces before bs) in
    let start = here text (behind_pieces (before ++ piece.CommandsOpen ∷ []) bs) in
    let state = passing fs (suc n) qs l (begun_at place start) in
    formed read text _ (at fs (suc n) qs l) state state _ before inside rest piece.CommandsOpen piece.CommandsClose bs
    (go read text q (suc n) before bs qs l s fs e _)
    (commands_opened read text fs n qs l _ (behind_pieces before bs) _ (behind_both before (piece.CommandsOpen ∷ []) bs))
    (passed read text fs (suc n) qs l inside b place start _ _)
    (commands_closed read text fs n qs l place start _ _ program
    (ap (λ xs. read n (text_between text start (next text xs)))
    (ap (behind_pieces inside) (behind_both before (piece.CommandsOpen ∷ []) bs) ∙ sym (behind_both before (piece.CommandsOpen ∷ inside) bs))
    ∙ h))
go read text quoted left ms bytes ps literal (spells.backquotes q n before bs qs l s between program h) fs e rest =
    let m = piece.Backquoted between in
    let after = behind_both before (m ∷ []) bs in
    ap (λ xs. with_pieces read text (at fs (suc n) [] []) xs bs) (append_assoc before (m ∷ []) rest)
    ∙ go read text q (suc n) before bs qs l s fs e (m ∷ rest)
    ∙ step read text _ _ m rest _ (backquotes_taken read text fs q n qs l between _ _ _ program e after h)
    ∙ ap (λ xs. with_pieces read text (at fs (suc n) (with_literal qs l ++ part.Backquoted program ∷ []) []) rest xs) (sym after)

pub whole_is : (left : ℕ) (ps : List Part) (literal : List ℕ) → whole (at [] left ps literal) ≡ parts_of (with_literal ps literal)
unfolding whole_parts
whole_is left ps literal = refl

pub given : (read : Reader) (left : ℕ) (text : List ℕ) (ms : List Piece) (bytes : List ℕ) (parts : List Part) → AreSpelled read text left ms bytes parts → parts_in read left text ms bytes ≡ Ok (parts_of parts)
unfolding parts_in
given read left text ms bytes parts w =
    ap (λ o. and_then o (λ b. Ok (whole b)))
    (ap (λ xs. with_pieces read text (empty_building left) xs bytes) (sym (append-nil ms)) ∙ go read text false left ms bytes w.before w.literal w.spelled [] refl [])
    ∙ ap Ok (whole_is left w.before w.literal ∙ ap parts_of (sym w.same))

pub items_of : Parts → List Part
items_of parts = (view.out-Parts parts).items

pub same_parts : (one other : List Part) → parts_of one ≡ parts_of other → one ≡ other
unfolding items_of
same_parts one other h = ap items_of h

pub is_ok : {A : Type 0} (a b : A) → (r : Result A PartFault) → r ≡ Ok a → r ≡ Ok b → a ≡ b
is_ok a b r h k = ap (λ x. ok_or a x) (sym h ∙ k)
  where
    ok_or : {A : Type 0} → A → Result A PartFault → A
    ok_or a (Ok x) = x
    ok_or a (Err e) = a

pub one_word : (read : Reader) (left : ℕ) (text : List ℕ) (ms : List Piece) (bytes : List ℕ) (one other : List Part) → AreSpelled read text left ms bytes one → AreSpelled read text left ms bytes other → one ≡ other
one_word read left text ms bytes one other v w =
    same_parts one other (is_ok _ _ _ (given read left text ms bytes one v) (given read left text ms bytes other w))

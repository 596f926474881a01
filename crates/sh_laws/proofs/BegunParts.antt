-- The parts of words begin with an action if the commands of their substitutions do.
use Rattle.std.proofs.Common.{◌≡◌, ℕ, ◌-◌, List, [], ◌∷◌, ◌++◌, Option, Some, None, Bool, true, false, sym, ap, ◌∙◌, subst}
use Rattle.std.specs.Prelude.{Result, Ok, Err, nat_eq, if◌then◌else◌}
use Rattle.std.specs.Option.{unwrap_or}
use Rattle.sh_exec_parts.specs.Simple.{Opened}
use Rattle.sh_expand.specs.Parts.{inside, program_of}
use Rattle.sh_parse_leaves.specs.Results.{and_then, fault_moved}
use Rattle.sh_parse_leaves.specs.Words.{Reader, answer_of, at_its_level, begins_closed, parts_in, place_in, text_of, whole, with_answer, with_piece, with_pieces, unread}
use Rattle.sh_parse_words.specs.Building.{Building, Outcome, Taken, at_level, braces_part, closed_by, empty_building, finished_by, form_part, last_frame, on, open_braces, opened, other_frames, parameter_part, parts_of, plainly, program_part, skip_close, skip_outcome, skipping, take_by, take_piece, taking, whole_parts, with_bytes, with_form_part, with_literal, with_part, with_program}
use Rattle.sh_parse_words.specs.Parameters.{braces_of, short}
use Rattle.sh_parse_words.specs.Places.{behind_piece}
use Rattle.sh_parse_words.specs.declared.build.Form.{Form}
use Rattle.sh_parse_words.specs.declared.build.Form.TheVariants as form
use Rattle.sh_parse_words.specs.declared.build.Frame.{Frame}
use Rattle.sh_parse_words.specs.declared.build.Request.{Request}
use Rattle.sh_parse_words.specs.declared.build.Skip.{Skip}
use Rattle.sh_parse_words.specs.declared.build.Substitution.{Substitution}
use Rattle.sh_parse_words.specs.declared.build.Substitution.TheVariants as substitution
use Rattle.sh_parse_words.specs.declared.fault.PartFault.{PartFault}
use Rattle.sh_parse_words.specs.declared.fault.PartFault.TheVariants as fault
use Rattle.sh_parse_words.specs.declared.parameter.Braces.{Braces}
use Rattle.sh_parse_words.specs.declared.parameter.Braces.TheVariants as braces
use Rattle.sh_syntax.specs.declared.tree.Command.TheOpen as layer
use Rattle.sh_syntax.specs.declared.tree.Command.TheViews as view
use Rattle.sh_syntax.specs.declared.tree.CompoundList.{CompoundList}
use Rattle.sh_syntax.specs.declared.tree.Parameter.{Parameter}
use Rattle.sh_syntax.specs.declared.tree.Part.{Part}
use Rattle.sh_syntax.specs.declared.tree.Part.TheVariants as part
use Rattle.sh_syntax.specs.declared.tree.Parts.{Parts}
use Rattle.sh_token_pieces.specs.declared.piece.Piece.{Piece}
use Rattle.sh_token_pieces.specs.declared.piece.Piece.TheVariants as piece
use Rattle.sh_laws.specs.Beginnings.{PartsBegin, ProgramBegins, more_parts, no_parts, no_program, of_program}
use Rattle.sh_laws.proofs.BegunSyntax.{PartsFit, ProgramFits}

-- ---- parts
abbrev pub OpenBegins : Opened layer.Part-F → Type 0
OpenBegins z = PartsBegin (inside z) × ProgramBegins (program_of z)

abbrev pub PartFits : Part → Type 0
PartFits x = OpenBegins (view.out-Part x)

pub parts_fit : (ps : List Part) → PartsBegin ps → PartsFit (parts_of ps)
parts_fit ps f = subst PartsBegin (sym (ap (λ (z : Opened layer.Parts-F). z.items) (view.out-roll-Parts (record { items = ps })))) f

pub alone_fits : (p : Part) → PartFits p → PartsBegin (p ∷ [])
alone_fits p f = more_parts p [] f.0 f.1 no_parts

pub behind_fit : (ps qs : List Part) → PartsBegin ps → PartsBegin qs → PartsBegin (ps ++ qs)
behind_fit _ qs no_parts g = g
behind_fit _ qs (more_parts p ps i o f) g = more_parts p (ps ++ qs) i o (behind_fit ps qs f g)

-- a part of this form
as_form : (x : Part) (z : Opened layer.Part-F) → view.roll-Part z ≡ x → OpenBegins z → PartFits x
as_form x z e f = subst OpenBegins (sym (ap view.out-Part (sym e) ∙ view.out-roll-Part z)) f

pub literal_fits : (bytes : List ℕ) → PartFits (part.Literal bytes)
literal_fits bytes = as_form (part.Literal bytes) (layer.Literal bytes) (part.rolls-Literal bytes) (no_parts, no_program)

pub escaped_fits : (byte : ℕ) → PartFits (part.Escaped byte)
escaped_fits byte = as_form (part.Escaped byte) (layer.Escaped byte) (part.rolls-Escaped byte) (no_parts, no_program)

pub single_quoted_fits : (bytes : List ℕ) → PartFits (part.SingleQuoted bytes)
single_quoted_fits bytes = as_form (part.SingleQuoted bytes) (layer.SingleQuoted bytes) (part.rolls-SingleQuoted bytes) (no_parts, no_program)

pub parameter_fits : (p : Parameter) → PartFits (part.Parameter p)
parameter_fits p = as_form (part.Parameter p) (layer.Parameter p) (part.rolls-Parameter p) (no_parts, no_program)

pub program_fits : (form : Substitution) (program : CompoundList) → ProgramFits program → PartFits (program_part form program)
program_fits substitution.Commands program f = as_form (part.Substitution program) (layer.Substitution program) (part.rolls-Substitution program) (no_parts, of_program program f)
program_fits substitution.Backquotes program f = as_form (part.Backquoted program) (layer.Backquoted program) (part.rolls-Backquoted program) (no_parts, of_program program f)
program_fits substitution.QuotedBackquotes program f = as_form (part.Backquoted program) (layer.Backquoted program) (part.rolls-Backquoted program) (no_parts, of_program program f)

braces_fit : (b : Braces) (word : Parts) → PartsFit word → PartFits (braces_part b word)
braces_fit (braces.Value p) word f = parameter_fits p
braces_fit (braces.Length p) word f = as_form (part.Length p) (layer.Length p) (part.rolls-Length p) (no_parts, no_program)
braces_fit (braces.Conditional p absence action) word f =
    as_form (part.Conditional p absence action word) (layer.Conditional p absence action word) (part.rolls-Conditional p absence action word) (f, no_program)
braces_fit (braces.Removal p affix extent) word f =
    as_form (part.Removal p affix extent word) (layer.Removal p affix extent word) (part.rolls-Removal p affix extent word) (f, no_program)

form_fits : (x : Form) (word : Parts) → PartsFit word → PartFits (form_part x word)
form_fits form.Quotes word f = as_form (part.DoubleQuoted word) (layer.DoubleQuoted word) (part.rolls-DoubleQuoted word) (f, no_program)
form_fits (form.Braces b) word f = braces_fit b word f
form_fits form.Arithmetic word f = as_form (part.Arithmetic word) (layer.Arithmetic word) (part.rolls-Arithmetic word) (f, no_program)

pub with_literal_fits : (ps : List Part) (bytes : List ℕ) → PartsBegin ps → PartsBegin (with_literal ps bytes)
with_literal_fits ps [] f = f
with_literal_fits ps (b ∷ bs) f = behind_fit ps (part.Literal (b ∷ bs) ∷ []) f (alone_fits (part.Literal (b ∷ bs)) (literal_fits (b ∷ bs)))

-- ---- parts that are being put together
abbrev pub FramesFit : List Frame → Type 0
FramesFit [] = Unit {0}
FramesFit (f ∷ fs) = PartsBegin f.before × FramesFit fs

abbrev pub BuildingFits : Building → Type 0
BuildingFits b = PartsBegin b.parts × FramesFit b.frames

-- of an answer that is no fault
abbrev pub Unless : {A : Type 0} → (A → Type 0) → Result A PartFault → Type 0
Unless P (Ok x) = P x
Unless P (Err e) = Unit {0}

pub either : {A : Type 0} (P : A → Type 0) (b : Bool) (x y : A) → P x → P y → P (if b then x else y)
either P true x y f g = f
either P false x y f g = g

pub and_then_fits : {A B : Type 0} (P : A → Type 0) (Q : B → Type 0) (r : Result A PartFault) (f : A → Result B PartFault) → Unless P r → ((x : A) → P x → Unless Q (f x)) → Unless Q (and_then r f)
and_then_fits P Q (Ok x) f g h = h x g
and_then_fits P Q (Err e) f g h = tt

frames_behind : (fs gs : List Frame) → FramesFit fs → FramesFit gs → FramesFit (fs ++ gs)
frames_behind [] gs f g = g
frames_behind (x ∷ fs) gs f g = (f.0, frames_behind fs gs f.1 g)

others_fit : (fs : List Frame) → FramesFit fs → FramesFit (other_frames fs)
others_fit [] f = tt
others_fit (x ∷ []) f = tt
others_fit (x ∷ y ∷ fs) f = (f.0, others_fit (y ∷ fs) f.1)

with_part_fits : (b : Building) (p : Part) → BuildingFits b → PartFits p → BuildingFits (with_part b p)
unfolding with_part
with_part_fits b p f g = (behind_fit (with_literal b.parts b.literal) (p ∷ []) (with_literal_fits b.parts b.literal f.0) (alone_fits p g), f.1)

with_bytes_fits : (b : Building) (bytes : List ℕ) → BuildingFits b → BuildingFits (with_bytes b bytes)
unfolding with_bytes
with_bytes_fits b bytes f = f

opened_fits : (b : Building) (x : Form) (left : ℕ) → BuildingFits b → BuildingFits (opened b x left)
unfolding opened
opened_fits b x left f =
    (no_parts, frames_behind b.frames (record { form = x; before = with_literal b.parts b.literal; left = b.left } ∷ []) f.1 (with_literal_fits b.parts b.literal f.0, tt))

abbrev LastFits : Option Frame → Type 0
LastFits None = Unit {0}
LastFits (Some x) = PartsBegin x.before

last_fits : (fs : List Frame) → FramesFit fs → LastFits (last_frame fs)
last_fits [] f = tt
last_fits (x ∷ []) f = f.0
last_fits (x ∷ y ∷ fs) f = last_fits (y ∷ fs) f.1

closed_fits : (o : Option Frame) (b : Building) → LastFits o → BuildingFits b → BuildingFits (closed_by o b)
closed_fits None b l f = (f.0, others_fit b.frames f.1)
closed_fits (Some x) b l f =
    let closed = form_part x.form (parts_of (with_literal b.parts b.literal)) in
    let own = form_fits x.form (parts_of (with_literal b.parts b.literal)) (parts_fit (with_literal b.parts b.literal) (with_literal_fits b.parts b.literal f.0)) in
    (behind_fit x.before (closed ∷ []) l (alone_fits closed own), others_fit b.frames f.1)

form_part_fits : (b : Building) → BuildingFits b → BuildingFits (with_form_part b)
unfolding with_form_part
form_part_fits b f = closed_fits (last_frame b.frames) b (last_fits b.frames f.1) f

parameter_part_fits : (c : ℕ) (o : Option Parameter) → PartFits (parameter_part c o)
parameter_part_fits c None = literal_fits (36 ∷ c ∷ [])
parameter_part_fits c (Some p) = parameter_fits p

plainly_fits : (b : Building) (m : Piece) → BuildingFits b → BuildingFits (plainly b m)
unfolding plainly
plainly_fits b (piece.Byte c) f = with_bytes_fits b (c ∷ []) f
plainly_fits b (piece.Escaped c) f = with_part_fits b (part.Escaped c) f (escaped_fits c)
plainly_fits b (piece.Backslash c) f = with_bytes_fits b (92 ∷ c ∷ []) f
plainly_fits b (piece.SingleQuoted bytes) f = with_part_fits b (part.SingleQuoted bytes) f (single_quoted_fits bytes)
plainly_fits b piece.DoubleQuotesOpen f = opened_fits b form.Quotes b.left f
plainly_fits b piece.DoubleQuotesClose f = form_part_fits b f
plainly_fits b piece.Dollar f = with_bytes_fits b (36 ∷ []) f
plainly_fits b (piece.Variable bytes) f = with_part_fits b _ f (parameter_fits _)
plainly_fits b (piece.Parameter c) f = with_part_fits b (parameter_part c (short c)) f (parameter_part_fits c (short c))
plainly_fits b piece.BraceClose f = form_part_fits b f
plainly_fits b piece.ArithmeticClose f = form_part_fits b f
plainly_fits b m f = f

abbrev TakenFits : Taken → Type 0
TakenFits t = BuildingFits t.building

at_level_fits : (left place : ℕ) (o : Outcome) → Unless TakenFits o → Unless TakenFits (at_level left place o)
at_level_fits left place o f = either (Unless TakenFits) (nat_eq left 0) (Err (fault.TooDeep place)) o tt f

open_braces_fits : (b : Building) (place : ℕ) (o : Option Braces) → BuildingFits b → Unless TakenFits (open_braces b place o)
open_braces_fits b place None f = at_level_fits b.left place _ tt
open_braces_fits b place (Some x) f = at_level_fits b.left place (on (opened b (form.Braces x) (b.left - 1))) (opened_fits b (form.Braces x) (b.left - 1) f)

taking_fits : (b : Building) (m : Piece) (empty : Bool) (place behind : ℕ) → BuildingFits b → Unless TakenFits (taking b m empty place behind)
taking_fits b (piece.BraceOpen head) empty place behind f = open_braces_fits b place (braces_of head empty) f
taking_fits b piece.ArithmeticOpen empty place behind f = at_level_fits b.left place (on (opened b form.Arithmetic (b.left - 1))) (opened_fits b form.Arithmetic (b.left - 1) f)
taking_fits b piece.CommandsOpen empty place behind f = at_level_fits b.left place _ f
taking_fits b (piece.Backquoted bytes) empty place behind f = f
taking_fits b m empty place behind f = plainly_fits b m f

skip_close_fits : (b : Building) (s : Skip) (here : ℕ) → BuildingFits b → Unless TakenFits (skip_close b s here)
skip_close_fits b s here f = either (Unless TakenFits) (nat_eq s.depth 0) (skip_outcome b s here) (on (record b { skip = Some (record s { depth = s.depth - 1 }) })) f f

skipping_fits : (b : Building) (s : Skip) (m : Piece) (here : ℕ) → BuildingFits b → Unless TakenFits (skipping b s m here)
skipping_fits b s piece.CommandsOpen here f = f
skipping_fits b s piece.CommandsClose here f = skip_close_fits b s here f
skipping_fits b s m here f = f

take_by_fits : (o : Option Skip) (b : Building) (m : Piece) (empty : Bool) (place behind : ℕ) → BuildingFits b → Unless TakenFits (take_by o b m empty place behind)
take_by_fits None b m empty place behind f = taking_fits b m empty place behind f
take_by_fits (Some s) b m empty place behind f = skipping_fits b s m place f

take_fits : (b : Building) (m : Piece) (empty : Bool) (place behind : ℕ) → BuildingFits b → Unless TakenFits (take_piece b m empty place behind)
unfolding take_piece
take_fits b m empty place behind f = take_by_fits b.skip b m empty place behind f

with_program_fits : (b : Building) (form : Substitution) (program : CompoundList) → BuildingFits b → ProgramFits program → BuildingFits (with_program b form program)
unfolding with_program
with_program_fits b form program f g = with_part_fits b (program_part form program) f (program_fits form program g)

-- ---- readers
abbrev pub ReaderFits : Reader → Type 0
ReaderFits read = (left : ℕ) (text : List ℕ) → Unless ProgramFits (read left text)

pub moved_fits : {A : Type 0} (P : A → Type 0) (move : ℕ → ℕ) (r : Result A PartFault) → Unless P r → Unless P (fault_moved move r)
moved_fits P move (Ok x) f = f
moved_fits P move (Err e) f = tt

level_fits : (r : Request) (o : Result CompoundList PartFault) → Unless ProgramFits o → Unless ProgramFits (at_its_level r o)
level_fits r (Err e) f = tt
level_fits r (Ok c) f = either (Unless ProgramFits) r.is_too_deep (Err (fault.TooDeep r.place)) (Ok c) tt f

abbrev WholeFits : Option Parts → Type 0
WholeFits None = Unit {0}
WholeFits (Some x) = PartsFit x

finished_fits : (fs : List Frame) (s : Option Skip) (ps : List Part) → PartsBegin ps → WholeFits (finished_by fs s ps)
finished_fits [] None ps f = parts_fit ps f
finished_fits [] (Some s) ps f = tt
finished_fits (x ∷ fs) s ps f = tt

whole_fits : (b : Building) → BuildingFits b → WholeFits (whole_parts b)
unfolding whole_parts
whole_fits b f = finished_fits b.frames b.skip (with_literal b.parts b.literal) (with_literal_fits b.parts b.literal f.0)

else_empty : (o : Option Parts) → WholeFits o → PartsFit (unwrap_or o (parts_of []))
else_empty None f = parts_fit [] no_parts
else_empty (Some x) f = f

module _ (read : Reader) (reads : ReaderFits read) (text : List ℕ) where
  answer_fits : (r : Request) → Unless ProgramFits (answer_of read text r)
  unfolding answer_of
  answer_fits r =
      level_fits r (fault_moved (λ at. place_in r at) (read r.left (text_of r text)))
      (moved_fits ProgramFits (λ at. place_in r at) (read r.left (text_of r text)) (reads r.left (text_of r text)))

  with_answer_fits : (b : Building) (o : Option Request) → BuildingFits b → Unless BuildingFits (with_answer read text b o)
  with_answer_fits b None f = f
  with_answer_fits b (Some r) f =
      and_then_fits ProgramFits BuildingFits (answer_of read text r) (λ c. Ok (with_program b r.form c)) (answer_fits r) (λ c g. with_program_fits b r.form c f g)

  with_piece_fits : (b : Building) (m : Piece) (empty : Bool) (bytes : List ℕ) → BuildingFits b → Unless BuildingFits (with_piece read (unread text bytes) b m empty)
  unfolding with_piece
  with_piece_fits b m empty bytes f =
      and_then_fits TakenFits BuildingFits _ (λ t. with_answer read text t.building t.request) (take_fits b m empty _ _ f) (λ t g. with_answer_fits t.building t.request g)

  with_pieces_fits : (b : Building) (ms : List Piece) (bytes : List ℕ) → BuildingFits b → Unless BuildingFits (with_pieces read text b ms bytes)
  with_pieces_fits b [] bytes f = f
  with_pieces_fits b (m ∷ ms) bytes f =
      and_then_fits BuildingFits BuildingFits (with_piece read (unread text bytes) b m (begins_closed ms)) (λ c. with_pieces read text c ms (behind_piece m bytes))
      (with_piece_fits b m (begins_closed ms) bytes f) (λ c g. with_pieces_fits c ms (behind_piece m bytes) g)

  pub parts_in_fit : (left : ℕ) (ms : List Piece) (bytes : List ℕ) → Unless PartsFit (parts_in read left text ms bytes)
  unfolding parts_in
  parts_in_fit left ms bytes =
      and_then_fits BuildingFits PartsFit (with_pieces read text (empty_building left) ms bytes) (λ b. Ok (whole b)) (with_pieces_fits (empty_building left) ms bytes (no_parts, tt))
      (λ b g. else_empty (whole_parts b) (whole_fits b g))

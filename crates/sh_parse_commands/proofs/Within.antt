-- The place of a fault is of its text: of a fault in a word, in the commands of a substitution, in a body.
use Rattle.std.proofs.Common.{◌≡◌, ℕ, zero, suc, ◌+◌, ◌-◌, ◌^◌, ◌≤◌, nat_eq, Bool, true, false, not, ◌&&◌, List, [], ◌∷◌, ◌++◌, length, take, drop, min, Option, Some, None, unwrap_or, slice_get, Result, Ok, Err, refl, subst, arith, if◌then◌else◌}
use Rattle.std.proofs.Math.Nat.{min-le_left, min-le_right}
use Rattle.std.proofs.lemmas.List.{length-take, length-drop}
use Rattle.sh_token_pieces.specs.declared.here.Delimiter.{Delimiter}
use Rattle.sh_token_pieces.specs.declared.here.Tabs.{Tabs}
use Rattle.sh_token_pieces.specs.Here.{lines, line_in, without_tabs, is_end_line, joins_next}
use Rattle.sh_token_pieces.specs.declared.piece.Piece.{Piece}
use Rattle.sh_token_pieces.specs.declared.piece.Piece.TheVariants as piece
use Rattle.sh_token_pieces.specs.TokenClasses.{literal_prefix}
use Rattle.sh_token.specs.declared.token.TokenKind.{TokenKind}
use Rattle.sh_base.specs.declared.span.Span.{Span}
use Rattle.sh_syntax.specs.declared.tree.CompoundList.{CompoundList}
use Rattle.sh_syntax.specs.declared.tree.Part.{Part}
use Rattle.sh_syntax.specs.declared.tree.Parts.{Parts}
use Rattle.sh_parse_documents.specs.declared.document.Document.{Document}
use Rattle.sh_parse_documents.specs.Documents.{Line, lines_at, lines_from, body_line, places_from, kept_places, Cut, over, with_line, cut_of, cut_all, documents, between, place_at}
use Rattle.sh_parse_documents.specs.declared.item.Item.{Item}
use Rattle.sh_parse_words.specs.declared.parameter.Braces.{Braces}
use Rattle.sh_parse_words.specs.declared.build.Form.{Form}
use Rattle.sh_parse_words.specs.declared.build.Form.TheVariants as form
use Rattle.sh_parse_words.specs.declared.build.Frame.{Frame}
use Rattle.sh_parse_words.specs.declared.build.Skip.{Skip}
use Rattle.sh_parse_words.specs.declared.build.Request.{Request}
use Rattle.sh_parse_words.specs.declared.build.Substitution.{Substitution}
use Rattle.sh_parse_words.specs.declared.build.Substitution.TheVariants as substitution
use Rattle.sh_parse_words.specs.declared.fault.PartFault.{PartFault}
use Rattle.sh_parse_words.specs.declared.fault.PartFault.TheVariants as fault
use Rattle.sh_parse_words.specs.Building.{Building, Outcome, empty_building, with_literal, parts_of, with_part, with_bytes, opened, last_frame, closed_by, with_form_part, on, skip_close, skipping, open_braces, plainly, taking, take_by, take_piece, with_program}
use Rattle.sh_parse_words.specs.Parameters.{braces_of, machine_number}
use Rattle.sh_parse_words.specs.Places.{behind_joins, behind_piece, place_of}
use Rattle.sh_parse_leaves.specs.Results.{and_then, fault_moved}
use Rattle.sh_parse_leaves.specs.Sources.{text_between, behind_pieces}
use Rattle.sh_parse_leaves.specs.Words.{Reader, text_by, text_of, place_by, place_in, refused_or_deep, at_its_level, answer_of, with_answer, with_piece, begins_closed, with_pieces, whole, parts_in, within, unread}
use Rattle.sh_parse_leaves.specs.Leaves.{name_size, assignment_leaf, plain_leaf, leaf_by, word_leaf, leaf_of}
use Rattle.sh_parse_commands.specs.Documents.{expanded_body, document_parts, with_documents, bodies_of}

-- the place is at most this
abbrev pub FaultIn : ℕ → PartFault → Type 0
FaultIn size (fault.BadSubstitution at) = at ≤ size
FaultIn size (fault.TooDeep at) = at ≤ size
FaultIn size (fault.Refused at) = at ≤ size
FaultIn size (fault.NoMemory _) = Unit {0}

abbrev pub FaultsIn : {A : Type 0} → ℕ → Result A PartFault → Type 0
FaultsIn size (Ok x) = Unit {0}
FaultsIn size (Err f) = FaultIn size f

then_in : {A B : Type 0} (size : ℕ) (x : Result A PartFault) (f : A → Result B PartFault) → FaultsIn size x → ((y : A) → FaultsIn size (f y)) → FaultsIn size (and_then x f)
then_in size (Ok x) f h k = k x
then_in size (Err e) f h k = h

moved_in : {A : Type 0} (size inner : ℕ) (f : ℕ → ℕ) → ((at : ℕ) → at ≤ inner → f at ≤ size) → (x : Result A PartFault) → FaultsIn inner x → FaultsIn size (fault_moved f x)
moved_in size inner f g (Ok x) h = tt
moved_in size inner f g (Err (fault.BadSubstitution at)) h = g at h
moved_in size inner f g (Err (fault.TooDeep at)) h = g at h
moved_in size inner f g (Err (fault.Refused at)) h = g at h
moved_in size inner f g (Err (fault.NoMemory _)) h = tt

all_moved_in : {A : Type 0} (size : ℕ) (f : ℕ → ℕ) → ((at : ℕ) → f at ≤ size) → (x : Result A PartFault) → FaultsIn size (fault_moved f x)
all_moved_in size f g (Ok x) = tt
all_moved_in size f g (Err (fault.BadSubstitution at)) = g at
all_moved_in size f g (Err (fault.TooDeep at)) = g at
all_moved_in size f g (Err (fault.Refused at)) = g at
all_moved_in size f g (Err (fault.NoMemory _)) = tt

-- what is being put together
abbrev SkipIn : ℕ → Option Skip → Type 0
SkipIn size None = Unit {0}
SkipIn size (Some s) = (s.place ≤ size) × (s.start ≤ size)

abbrev RequestIn : ℕ → Option Request → Type 0
RequestIn size None = Unit {0}
RequestIn size (Some r) = (r.place ≤ size) × (r.start ≤ size)

abbrev OutcomeIn : ℕ → Outcome → Type 0
OutcomeIn size (Ok t) = SkipIn size t.building.skip × RequestIn size t.request
OutcomeIn size (Err f) = FaultIn size f

part_in : (size : ℕ) (b : Building) (p : Part) → SkipIn size b.skip → SkipIn size (with_part b p).skip
unfolding with_part
part_in size b p h = h

bytes_in : (size : ℕ) (b : Building) (bytes : List ℕ) → SkipIn size b.skip → SkipIn size (with_bytes b bytes).skip
unfolding with_bytes
bytes_in size b bytes h = h

opened_in : (size : ℕ) (b : Building) (f : Form) (left : ℕ) → SkipIn size b.skip → SkipIn size (opened b f left).skip
unfolding opened
opened_in size b f left h = h

closed_in_by : (size : ℕ) (b : Building) (o : Option Frame) → SkipIn size b.skip → SkipIn size (closed_by o b).skip
closed_in_by size b None h = h
closed_in_by size b (Some f) h = h

closed_in : (size : ℕ) (b : Building) → SkipIn size b.skip → SkipIn size (with_form_part b).skip
unfolding with_form_part
closed_in size b h = closed_in_by size b (last_frame b.frames) h

plainly_in : (size : ℕ) (b : Building) (m : Piece) → SkipIn size b.skip → SkipIn size (plainly b m).skip
unfolding plainly
plainly_in size b (piece.Byte c) h = bytes_in size b _ h
plainly_in size b (piece.Escaped c) h = part_in size b _ h
plainly_in size b (piece.Backslash c) h = bytes_in size b _ h
plainly_in size b (piece.SingleQuoted bytes) h = part_in size b _ h
plainly_in size b piece.DoubleQuotesOpen h = opened_in size b form.Quotes b.left h
plainly_in size b piece.DoubleQuotesClose h = closed_in size b h
plainly_in size b piece.Dollar h = bytes_in size b _ h
plainly_in size b (piece.Variable bytes) h = part_in size b _ h
plainly_in size b (piece.Parameter c) h = part_in size b _ h
plainly_in size b piece.BraceClose h = closed_in size b h
plainly_in size b piece.ArithmeticClose h = closed_in size b h
plainly_in size b m h = h

level_in : (size place : ℕ) (o : Outcome) (z : Bool) → place ≤ size → OutcomeIn size o → OutcomeIn size (if z then Err (fault.TooDeep place) else o)
level_in size place o true p h = p
level_in size place o false p h = h

braces_in : (size : ℕ) (b : Building) (place : ℕ) (o : Option Braces) → place ≤ size → SkipIn size b.skip → OutcomeIn size (open_braces b place o)
braces_in size b place None p h = level_in size place (Err (fault.BadSubstitution place)) (nat_eq b.left 0) p p
braces_in size b place (Some f) p h =
    level_in size place (on (opened b (form.Braces f) (b.left - 1))) (nat_eq b.left 0) p (opened_in size b (form.Braces f) (b.left - 1) h, tt)

taking_in : (size : ℕ) (b : Building) (m : Piece) (empty : Bool) (place behind : ℕ) → place ≤ size → behind ≤ size → SkipIn size b.skip → OutcomeIn size (taking b m empty place behind)
taking_in size b (piece.BraceOpen head) empty place behind p q h = braces_in size b place (braces_of head empty) p h
taking_in size b piece.ArithmeticOpen empty place behind p q h =
    level_in size place (on (opened b form.Arithmetic (b.left - 1))) (nat_eq b.left 0) p (opened_in size b form.Arithmetic (b.left - 1) h, tt)
taking_in size b piece.CommandsOpen empty place behind p q h =
    level_in size place (on (record b { skip = Some (record { depth = 0; place = place; start = behind }) })) (nat_eq b.left 0) p ((p, q), tt)
taking_in size b (piece.Backquoted bytes) empty place behind p q h = (h, (p, p))
taking_in size b m empty place behind p q h = (plainly_in size b m h, tt)

close_in : (size : ℕ) (b : Building) (s : Skip) (here : ℕ) (z : Bool) → nat_eq s.depth 0 ≡ z → SkipIn size (Some s) → OutcomeIn size (skip_close b s here)
close_in size b s here true e h = rw e (tt, h)
close_in size b s here false e h = rw e (h, tt)

skipping_in : (size : ℕ) (b : Building) (s : Skip) (m : Piece) (here : ℕ) → SkipIn size b.skip → SkipIn size (Some s) → OutcomeIn size (skipping b s m here)
skipping_in size b s piece.CommandsOpen here h k = (k, tt)
skipping_in size b s piece.CommandsClose here h k = close_in size b s here (nat_eq s.depth 0) refl k
skipping_in size b s m here h k = (h, tt)

take_in_by : (size : ℕ) (b : Building) (m : Piece) (empty : Bool) (place behind : ℕ) (o : Option Skip) → b.skip ≡ o → place ≤ size → behind ≤ size → SkipIn size b.skip
    → OutcomeIn size (take_by o b m empty place behind)
take_in_by size b m empty place behind None e p q h = taking_in size b m empty place behind p q h
take_in_by size b m empty place behind (Some s) e p q h = skipping_in size b s m place h (subst (λ x. SkipIn size x) e h)

take_in : (size : ℕ) (b : Building) (m : Piece) (empty : Bool) (place behind : ℕ) → place ≤ size → behind ≤ size → SkipIn size b.skip → OutcomeIn size (take_piece b m empty place behind)
unfolding take_piece
take_in size b m empty place behind p q h = take_in_by size b m empty place behind b.skip refl p q h

program_in_parts : (size : ℕ) (b : Building) (s : Substitution) (c : CompoundList) → SkipIn size b.skip → SkipIn size (with_program b s c).skip
unfolding with_program
program_in_parts size b s c h = part_in size b _ h

-- the commands of a substitution stand in the text around it
between_in : (text : List ℕ) (start stop at : ℕ) → start ≤ length text → at ≤ length (text_between text start stop) → machine_number (start + at) ≤ length text
between_in text start stop at l h =
    let a : length (text_between text start stop) ≡ min (stop - start) (length (drop start text)) = length-take (stop - start) (drop start text) in
    let b : min (stop - start) (length (drop start text)) ≤ length (drop start text) = min-le_right (stop - start) (length (drop start text)) in
    let c : length (drop start text) ≡ length text - start = length-drop start text in
    let d : machine_number (start + at) ≤ start + at = min-le_left (start + at) (2 ^ 64 - 1) in
    omega (a, b, c, d, l, h, arith)

place_by_in : (text : List ℕ) (r : Request) (s : Substitution) → RequestIn (length text) (Some r) → (at : ℕ) → at ≤ length (text_by s (text_between text r.start r.«end»)) → place_by s r at ≤ length text
place_by_in text r substitution.Commands h at l = between_in text r.start r.«end» at h.1 l
place_by_in text r substitution.Backquotes h at l = h.0
place_by_in text r substitution.QuotedBackquotes h at l = h.0

place_in_text : (text : List ℕ) (r : Request) → RequestIn (length text) (Some r) → (at : ℕ) → at ≤ length (text_of r text) → place_in r at ≤ length text
unfolding place_in text_of
place_in_text text r h at l = place_by_in text r r.form h at l

-- lines of bodies
abbrev NextIn : ℕ → Line → List Line → Type 0
NextIn stop l [] = Unit {0}
NextIn stop l (k ∷ ks) = suc (l.start + length l.bytes) ≤ stop

abbrev LinesIn : ℕ → List Line → Type 0
LinesIn stop [] = Unit {0}
LinesIn stop (l ∷ ls) = (l.start + length l.bytes ≤ stop) × NextIn stop l ls × LinesIn stop ls

next_in : (stop : ℕ) (l : Line) (ls : List Line) → suc (l.start + length l.bytes) ≤ stop → NextIn stop l ls
next_in stop l [] h = tt
next_in stop l (k ∷ ks) h = h

pub pushed_size : (line : List ℕ) (b : ℕ) → length (line ++ b ∷ []) ≡ suc (length line)
pushed_size [] b = refl
pushed_size (c ∷ cs) b = let e = pushed_size cs b in omega (e, arith)

placed_lines : (stop n : ℕ) (line bs : List ℕ) → n + length line + length bs ≤ stop → LinesIn stop (lines_at n (lines line bs))
placed_lines stop n line [] h = (omega (h, arith), tt, tt)
placed_lines stop n line (b ∷ bs) h =
    go (nat_eq b 10) refl (placed_lines stop (suc (n + length line)) [] bs (omega (h, arith)))
    (let e = pushed_size line b in placed_lines stop n (line ++ b ∷ []) bs (omega (h, e, arith)))
  where
    go : (c : Bool) → nat_eq b 10 ≡ c → LinesIn stop (lines_at (suc (n + length line)) (lines [] bs)) → LinesIn stop (lines_at n (lines (line ++ b ∷ []) bs)) → LinesIn stop (lines_at n (lines line (b ∷ bs)))
    go true e f g =
        rw e (omega (h, arith), next_in stop (record { start = n; bytes = line }) (lines_at (suc (n + length line)) (lines [] bs)) (omega (h, arith)), f)
    go false e f g = rw e g

lines_in : (start : ℕ) (bytes : List ℕ) → LinesIn (start + length bytes) (lines_from start bytes)
lines_in start bytes = placed_lines (start + length bytes) start [] bytes (omega arith)

-- bodies
abbrev PlacesIn : ℕ → List ℕ → Type 0
PlacesIn size [] = Unit {0}
PlacesIn size (p ∷ ps) = (p ≤ size) × PlacesIn size ps

both_in : (size : ℕ) (ps qs : List ℕ) → PlacesIn size ps → PlacesIn size qs → PlacesIn size (ps ++ qs)
both_in size [] qs h k = k
both_in size (p ∷ ps) qs h k = (h.0, both_in size ps qs h.1 k)

some_in : (size n k : ℕ) → n + k ≤ size → PlacesIn size (places_from n k)
some_in size n zero h = tt
some_in size n (suc k) h = (omega (h, arith), some_in size (suc n) k (omega (h, arith)))

tabs_size : (line : List ℕ) → length (without_tabs line) ≤ length line
tabs_size [] = omega arith
tabs_size (b ∷ bs) = go (nat_eq b 9) refl (tabs_size bs)
  where
    go : (c : Bool) → nat_eq b 9 ≡ c → length (without_tabs bs) ≤ length bs → length (without_tabs (b ∷ bs)) ≤ length (b ∷ bs)
    go true e h = rw e (omega (h, arith))
    go false e h = rw e (omega arith)

line_size : (tabs : Tabs) (line : List ℕ) → length (line_in tabs line) ≤ length line
line_size Tabs.Kept line = omega arith
line_size Tabs.Stripped line = tabs_size line

pub kept_size : (d : Delimiter) (joined : Bool) (line : List ℕ) → length (body_line d joined line) ≤ length line
kept_size d true line = omega arith
kept_size d false line = line_size d.tabs line

kept_in : (size : ℕ) (d : Delimiter) (joined : Bool) (start : ℕ) (line : List ℕ) → start + length line ≤ size → PlacesIn size (kept_places d joined start line)
kept_in size d joined start line h =
    let k = kept_size d joined line in
    some_in size (start + (length line - length (body_line d joined line))) (length (body_line d joined line)) (omega (h, k, arith))

record CutIn (stop : ℕ) (c : Cut) : Type 0 where
  pub places : PlacesIn stop c.places
  pub ends : c.«end» ≤ stop
  pub rest : LinesIn stop c.rest

with_line_in : (stop : ℕ) (d : Delimiter) (joined : Bool) (start : ℕ) (line : List ℕ) (c : Cut) → start + length line ≤ stop → CutIn stop c → CutIn stop (with_line d joined start line c)
with_line_in stop d joined start line c h k =
    record { places = both_in stop (kept_places d joined start line) c.places (kept_in stop d joined start line h) k.places; ends = k.ends; rest = k.rest }

nothing_left : (stop : ℕ) → CutIn stop (over stop (lines_from stop []))
nothing_left stop = record { places = tt; ends = omega arith; rest = (omega arith, tt, tt) }

cut_in : (stop : ℕ) (d : Delimiter) (joined : Bool) (ls : List Line) → LinesIn stop ls → CutIn stop (cut_of stop d joined ls)
cut_in stop d joined [] h = nothing_left stop
cut_in stop d joined (l ∷ []) h = go (not joined && is_end_line d l.bytes) (with_line_in stop d joined l.start l.bytes (over stop (lines_from stop [])) h.0 (nothing_left stop))
  where
    go : (c : Bool) → CutIn stop (with_line d joined l.start l.bytes (over stop (lines_from stop [])))
        → CutIn stop (if c then over l.start (lines_from stop []) else with_line d joined l.start l.bytes (over stop (lines_from stop [])))
    go true x = let a : l.start + length l.bytes ≤ stop = h.0 in record { places = tt; ends = omega (a, arith); rest = (omega arith, tt, tt) }
    go false x = x
cut_in stop d joined (l ∷ k ∷ ls) h =
    go (not joined && is_end_line d l.bytes)
    (let e = pushed_size l.bytes 10 in
    let a : suc (l.start + length l.bytes) ≤ stop = h.1 in
    with_line_in stop d joined l.start (l.bytes ++ 10 ∷ []) (cut_of stop d (joins_next d l.bytes) (k ∷ ls)) (omega (e, a, arith)) (cut_in stop d (joins_next d l.bytes) (k ∷ ls) h.2))
  where
    go : (c : Bool) → CutIn stop (with_line d joined l.start (l.bytes ++ 10 ∷ []) (cut_of stop d (joins_next d l.bytes) (k ∷ ls)))
        → CutIn stop (if c then over l.start (k ∷ ls) else with_line d joined l.start (l.bytes ++ 10 ∷ []) (cut_of stop d (joins_next d l.bytes) (k ∷ ls)))
    go true x = let a : l.start + length l.bytes ≤ stop = h.0 in record { places = tt; ends = omega (a, arith); rest = h.2 }
    go false x = x

record DocumentIn (size : ℕ) (d : Document) : Type 0 where
  pub places : PlacesIn size d.places
  pub ends : d.«end» ≤ size

abbrev DocumentsIn : ℕ → List Document → Type 0
DocumentsIn size [] = Unit {0}
DocumentsIn size (d ∷ ds) = DocumentIn size d × DocumentsIn size ds

cut_all_in : (stop : ℕ) (due : List Delimiter) (ls : List Line) → LinesIn stop ls → DocumentsIn stop (cut_all stop due ls)
cut_all_in stop [] ls h = tt
cut_all_in stop (d ∷ ds) ls h =
    let c = cut_in stop d false ls h in (record { places = c.places; ends = c.ends }, cut_all_in stop ds (cut_of stop d false ls).rest c.rest)

documents_stop : (start : ℕ) (due : List Delimiter) (bytes : List ℕ) → DocumentsIn (start + length bytes) (documents due start bytes)
unfolding documents
documents_stop start due bytes = cut_all_in (start + length bytes) due (lines_from start bytes) (lines_in start bytes)

wider_places : (n m : ℕ) → n ≤ m → (ps : List ℕ) → PlacesIn n ps → PlacesIn m ps
wider_places n m l [] h = tt
wider_places n m l (p ∷ ps) h = let a : p ≤ n = h.0 in (omega (a, l, arith), wider_places n m l ps h.1)

wider : (n m : ℕ) → n ≤ m → (ds : List Document) → DocumentsIn n ds → DocumentsIn m ds
wider n m l [] h = tt
wider n m l (d ∷ ds) h =
    let a : d.«end» ≤ n = h.0.ends in (record { places = wider_places n m l d.places h.0.places; ends = omega (a, l, arith) }, wider n m l ds h.1)

documents_in : (text : List ℕ) (due : List Delimiter) (start stop : ℕ) → start ≤ length text → DocumentsIn (length text) (documents due start (between start stop text))
documents_in text due start stop l =
    let a : length (between start stop text) ≡ min (stop - start) (length (drop start text)) = length-take (stop - start) (drop start text) in
    let b : min (stop - start) (length (drop start text)) ≤ length (drop start text) = min-le_right (stop - start) (length (drop start text)) in
    let c : length (drop start text) ≡ length text - start = length-drop start text in
    wider (start + length (between start stop text)) (length text) (omega (a, b, c, l, arith)) (documents due start (between start stop text)) (documents_stop start due (between start stop text))

get_in : (size : ℕ) (ps : List ℕ) (n last : ℕ) → PlacesIn size ps → last ≤ size → unwrap_or (slice_get ps n) last ≤ size
get_in size [] n last h l = l
get_in size (p ∷ ps) zero last h l = h.0
get_in size (p ∷ ps) (suc n) last h l = get_in size ps n last h.1 l

place_at_in : (size : ℕ) (d : Document) → DocumentIn size d → (n : ℕ) → place_at d n ≤ size
unfolding place_at
place_at_in size d h n = get_in size d.places n d.«end» h.places h.ends

-- words, bodies and tokens of a text, where faults of the texts of substitutions stand in these
module _ (read : Reader) (reads : (left : ℕ) (text : List ℕ) → FaultsIn (length text) (read left text)) where
  abbrev AfterIn : ℕ → Result Building PartFault → Type 0
  AfterIn size (Ok b) = SkipIn size b.skip
  AfterIn size (Err f) = FaultIn size f

  deep_in : (size place : ℕ) (f : PartFault) → place ≤ size → FaultIn size f → FaultIn size (refused_or_deep place f)
  deep_in size place (fault.Refused at) p h = h
  deep_in size place (fault.TooDeep at) p h = p
  deep_in size place (fault.BadSubstitution at) p h = p
  deep_in size place (fault.NoMemory _) p h = tt

  either_in : (size place : ℕ) (z : Bool) (f : PartFault) → place ≤ size → FaultIn size f → FaultIn size (if z then refused_or_deep place f else f)
  either_in size place true f p h = deep_in size place f p h
  either_in size place false f p h = h

  kept_program_in : (size place : ℕ) (z : Bool) (c : CompoundList) → place ≤ size → FaultsIn size (if z then Err (fault.TooDeep place) else Ok c)
  kept_program_in size place true c p = p
  kept_program_in size place false c p = tt

  its_level_in : (size : ℕ) (r : Request) (x : Result CompoundList PartFault) → r.place ≤ size → FaultsIn size x → FaultsIn size (at_its_level r x)
  its_level_in size r (Ok c) p h = kept_program_in size r.place r.is_too_deep c p
  its_level_in size r (Err f) p h = either_in size r.place r.is_too_deep f p h

  answer_in : (text : List ℕ) (r : Request) → RequestIn (length text) (Some r) → FaultsIn (length text) (answer_of read text r)
  unfolding answer_of
  answer_in text r h =
      its_level_in (length text) r (fault_moved (λ at. place_in r at) (read r.left (text_of r text))) h.0
      (moved_in (length text) (length (text_of r text)) (λ at. place_in r at) (λ at l. place_in_text text r h at l) (read r.left (text_of r text)) (reads r.left (text_of r text)))

  made_in : (size : ℕ) (b : Building) (s : Substitution) (x : Result CompoundList PartFault) → FaultsIn size x → SkipIn size b.skip → AfterIn size (and_then x (λ c. Ok (with_program b s c)))
  made_in size b s (Ok c) h k = program_in_parts size b s c k
  made_in size b s (Err f) h k = h

  answered_in : (text : List ℕ) (b : Building) (o : Option Request) → SkipIn (length text) b.skip → RequestIn (length text) o → AfterIn (length text) (with_answer read text b o)
  answered_in text b None h k = h
  answered_in text b (Some r) h k = made_in (length text) b r.form (answer_of read text r) (answer_in text r k) h

  step_in : (text : List ℕ) (o : Outcome) → OutcomeIn (length text) o → AfterIn (length text) (and_then o (λ t. with_answer read text t.building t.request))
  step_in text (Ok t) h = answered_in text t.building t.request h.0 h.1
  step_in text (Err f) h = h

  piece_in : (text : List ℕ) (b : Building) (m : Piece) (empty : Bool) (bytes : List ℕ) → SkipIn (length text) b.skip → AfterIn (length text) (with_piece read (unread text bytes) b m empty)
  unfolding with_piece
  piece_in text b m empty bytes h =
      step_in text (take_piece b m empty (place_of (length text) (behind_joins bytes)) (place_of (length text) (behind_piece m bytes)))
      (take_in (length text) b m empty (place_of (length text) (behind_joins bytes)) (place_of (length text) (behind_piece m bytes)) (omega arith) (omega arith) h)

  next_piece_in : (size : ℕ) (o : Result Building PartFault) (f : Building → Result Building PartFault) → AfterIn size o → ((b : Building) → SkipIn size b.skip → AfterIn size (f b)) → AfterIn size (and_then o f)
  next_piece_in size (Ok b) f h k = k b h
  next_piece_in size (Err e) f h k = h

  pieces_in : (text : List ℕ) (ms : List Piece) (b : Building) (bytes : List ℕ) → SkipIn (length text) b.skip → AfterIn (length text) (with_pieces read text b ms bytes)
  pieces_in text [] b bytes h = h
  pieces_in text (m ∷ ms) b bytes h =
      next_piece_in (length text) (with_piece read (unread text bytes) b m (begins_closed ms)) (λ c. with_pieces read text c ms (behind_piece m bytes))
      (piece_in text b m (begins_closed ms) bytes h) (λ c k. pieces_in text ms c (behind_piece m bytes) k)

  whole_in : (size : ℕ) (o : Result Building PartFault) → AfterIn size o → FaultsIn size (and_then o (λ b. Ok (whole b)))
  whole_in size (Ok b) h = tt
  whole_in size (Err f) h = h

  word_parts_in : (left : ℕ) (text : List ℕ) (ms : List Piece) (bytes : List ℕ) → FaultsIn (length text) (parts_in read left text ms bytes)
  unfolding parts_in
  word_parts_in left text ms bytes = whole_in (length text) (with_pieces read text (empty_building left) ms bytes) (pieces_in text ms (empty_building left) bytes tt)

  word_by_in : (left : ℕ) (text : List ℕ) (ms : List Piece) (span : Span) (prefix : List ℕ) (size : Option ℕ) → FaultsIn (length text) (leaf_by (within read left text) ms span prefix size)
  word_by_in left text ms span prefix None =
      then_in (length text) (parts_in read left text ms (drop span.start text)) (λ parts. Ok (plain_leaf ms prefix parts (text_between text span.start span.«end»)))
      (word_parts_in left text ms (drop span.start text)) (λ parts. tt)
  word_by_in left text ms span prefix (Some size) =
      then_in (length text) (parts_in read left text (drop (suc size) ms) (behind_pieces (take (suc size) ms) (drop span.start text)))
      (λ value. Ok (assignment_leaf prefix size value (text_between text span.start span.«end»)))
      (word_parts_in left text (drop (suc size) ms) (behind_pieces (take (suc size) ms) (drop span.start text))) (λ value. tt)

  word_in : (left : ℕ) (text : List ℕ) (ms : List Piece) (span : Span) → FaultsIn (length text) (word_leaf read left text ms span)
  unfolding word_leaf
  word_in left text ms span = word_by_in left text ms span (literal_prefix ms) (name_size (literal_prefix ms))

  pub leaf_in : (left : ℕ) (text : List ℕ) (kind : TokenKind) (span : Span) → FaultsIn (length text) (leaf_of read left text kind span)
  leaf_in left text (TokenKind.Operator o) span = tt
  leaf_in left text TokenKind.Number span = tt
  leaf_in left text (TokenKind.Word ms) span = word_in left text ms span
  leaf_in left text TokenKind.End span = tt

  quoted_in : (size : ℕ) (z : Bool) (parts : Parts) (x : Result Parts PartFault) → FaultsIn size x → FaultsIn size (if z then Ok parts else x)
  quoted_in size true parts x h = tt
  quoted_in size false parts x h = h

  document_in : (left size : ℕ) (d : Document) → DocumentIn size d → FaultsIn size (document_parts read left d)
  unfolding document_parts
  document_in left size d h =
      quoted_in size d.is_quoted (parts_of (with_literal [] d.text)) (fault_moved (λ at. place_at d at) (expanded_body read left d.text))
      (all_moved_in size (λ at. place_at d at) (λ at. place_at_in size d h at) (expanded_body read left d.text))

  all_documents_in : (left size : ℕ) (ds : List Document) (bodies : List Parts) → DocumentsIn size ds → FaultsIn size (with_documents read left bodies ds)
  all_documents_in left size [] bodies h = tt
  all_documents_in left size (d ∷ ds) bodies h =
      then_in size (document_parts read left d) (λ parts. with_documents read left (bodies ++ parts ∷ []) ds)
      (document_in left size d h.0) (λ parts. all_documents_in left size ds (bodies ++ parts ∷ []) h.1)

  pub bodies_in : (left : ℕ) (text : List ℕ) (due : List Delimiter) (item : Item) → item.token.span.«end» ≤ length text → FaultsIn (length text) (bodies_of read left text due item)
  unfolding bodies_of
  bodies_in left text due item l =
      all_documents_in left (length text) (documents due item.token.span.«end» (between item.token.span.«end» item.«end» text)) []
      (documents_in text due item.token.span.«end» item.«end» l)

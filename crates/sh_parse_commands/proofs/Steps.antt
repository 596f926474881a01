-- The steps of a reading, each as what is known of its parts.
use Rattle.sh_base.specs.Memory.{no_memory}
use Rattle.std.proofs.Common.{◌≡◌, ℕ, suc, ◌-◌, Bool, true, false, nat_lt, List, [], ◌∷◌, ◌++◌, length, take, drop, Option, Some, None, Result, Ok, Err, refl, sym, ap, subst, ◌∙◌, if◌then◌else◌}
use Rattle.sh_base.specs.declared.span.Span.{Span}
use Rattle.sh_token_grammar.specs.Shell.{substitution}
use Rattle.sh_token_pieces.specs.declared.piece.Piece.{Piece}
use Rattle.sh_token_pieces.specs.declared.here.Delimiter.{Delimiter}
use Rattle.sh_token_pieces.specs.TokenClasses.{literal_prefix}
use Rattle.sh_syntax.specs.declared.tree.CompoundList.{CompoundList}
use Rattle.sh_syntax.specs.declared.tree.Parts.{Parts}
use Rattle.sh_parse_actions.specs.declared.leaf.Leaf.{Leaf}
use Rattle.sh_parse_documents.specs.declared.document.Document.{Document}
use Rattle.sh_parse_documents.specs.Documents.{between, documents, place_at}
use Rattle.sh_parse_documents.specs.declared.item.Item.{Item}
use Rattle.sh_parse_documents.specs.Waiting.{Waiting, nothing, behind_token, due_at}
use Rattle.sh_parse_documents.specs.Stream.{Items, items_of, waiting_behind}
use Rattle.sh_parse_words.specs.declared.build.Request.{Request}
use Rattle.sh_parse_words.specs.declared.fault.PartFault.{PartFault}
use Rattle.sh_parse_words.specs.declared.fault.PartFault.TheVariants as fault
use Rattle.sh_parse_words.specs.Building.{Building, Taken, Outcome, Takes, empty_building, with_literal, parts_of, take_piece, with_program}
use Rattle.sh_parse_words.specs.Places.{behind_joins, behind_piece, place_of}
use Rattle.sh_parse_leaves.specs.Results.{and_then, at_other_place, fault_moved, GivesFault, Gives}
use Rattle.sh_parse_leaves.specs.Sources.{text_between, behind_pieces}
use Rattle.sh_parse_leaves.specs.Inputs.{input_of}
use Rattle.sh_parse_leaves.specs.Words.{Reader, text_of, place_in, refused_or_deep, level_fault, at_its_level, answer_of, with_answer, with_piece, begins_closed, with_pieces, whole, parts_in, within, unread}
use Rattle.sh_parse_leaves.specs.Leaves.{name_size, assignment_leaf, plain_leaf, leaf_by, word_leaf, leaf_of}
use Rattle.sh_parse_commands.specs.declared.body_prefix.BodyPrefix.{BodyPrefix}
use Rattle.sh_parse_commands.specs.Documents.{prefix_of, unless, expanded_body, document_parts, with_documents, bodies_of}
use Rattle.sh_parse_commands.specs.Judging.{Judged, none_of, with_input, takes, open_in, with_leaf, taken_item, with_item, with_items}
use Rattle.sh_parse_commands.specs.Programs.{ended_by}

-- a fault goes on
pub then_fault : {A B : Type 0} → (e : PartFault) (r : Result A PartFault) (f : A → Result B PartFault) → GivesFault e r → GivesFault e (and_then r f)
then_fault (fault.NoMemory _) r f g = tt
then_fault (fault.BadSubstitution at) r f g = ap (λ z. and_then z f) g
then_fault (fault.TooDeep at) r f g = ap (λ z. and_then z f) g
then_fault (fault.Refused at) r f g = ap (λ z. and_then z f) g

pub moved_fault : {A : Type 0} → (e : PartFault) (r : Result A PartFault) (f : ℕ → ℕ) → GivesFault e r → GivesFault (at_other_place f e) (fault_moved f r)
moved_fault (fault.NoMemory _) r f g = tt
moved_fault (fault.BadSubstitution at) r f g = ap (λ z. fault_moved f z) g
moved_fault (fault.TooDeep at) r f g = ap (λ z. fault_moved f z) g
moved_fault (fault.Refused at) r f g = ap (λ z. fault_moved f z) g

-- an answer
itself : (e : PartFault) → GivesFault {A = CompoundList} e (Err e)
itself (fault.NoMemory _) = tt
itself (fault.BadSubstitution at) = refl
itself (fault.TooDeep at) = refl
itself (fault.Refused at) = refl

either_gives : (b : Bool) (place : ℕ) (c : CompoundList) → Gives (if b then Err (fault.TooDeep place) else Ok c) (if b then Err (fault.TooDeep place) else Ok c)
either_gives true place c = refl
either_gives false place c = refl

no_memory_gives : (b : Bool) (place : ℕ) (x : Result CompoundList PartFault) → GivesFault (if b then refused_or_deep place (fault.NoMemory no_memory) else (fault.NoMemory no_memory)) x
no_memory_gives true place x = tt
no_memory_gives false place x = tt

level_gives : (r : Request) (e : PartFault) (x : Result CompoundList PartFault) → GivesFault e x → GivesFault (level_fault r e) (at_its_level r x)
level_gives r (fault.NoMemory _) x g = no_memory_gives r.is_too_deep r.place (at_its_level r x)
level_gives r (fault.BadSubstitution at) x g =
    subst (λ z. GivesFault (level_fault r (fault.BadSubstitution at)) (at_its_level r z)) (sym g) (itself (level_fault r (fault.BadSubstitution at)))
level_gives r (fault.TooDeep at) x g =
    subst (λ z. GivesFault (level_fault r (fault.TooDeep at)) (at_its_level r z)) (sym g) (itself (level_fault r (fault.TooDeep at)))
level_gives r (fault.Refused at) x g =
    subst (λ z. GivesFault (level_fault r (fault.Refused at)) (at_its_level r z)) (sym g) (itself (level_fault r (fault.Refused at)))

pub answer_gives : (read : Reader) (text : List ℕ) (r : Request) (inner : List ℕ) (program : CompoundList) (result : Result CompoundList PartFault) → inner ≡ text_of r text
    → read r.left inner ≡ Ok program → result ≡ at_its_level r (Ok program) → Gives result (answer_of read text r)
unfolding answer_of
answer_gives read text r inner program result e h is =
    subst (λ z. Gives z (answer_of read text r)) (sym is)
    (subst (λ z. Gives (at_its_level r (Ok program)) (at_its_level r (fault_moved (λ at. place_in r at) z)))
    (sym h ∙ ap (λ z. read r.left z) e) (either_gives r.is_too_deep r.place program))

pub answer_fault : (read : Reader) (text : List ℕ) (r : Request) (inner : List ℕ) (e told result : PartFault) → inner ≡ text_of r text → GivesFault e (read r.left inner)
    → told ≡ at_other_place (λ at. place_in r at) e → result ≡ level_fault r told → GivesFault result (answer_of read text r)
unfolding answer_of
answer_fault read text r inner e told result i h m l =
    subst (λ z. GivesFault z (at_its_level r (fault_moved (λ at. place_in r at) (read r.left (text_of r text))))) (sym l)
    (level_gives r told (fault_moved (λ at. place_in r at) (read r.left (text_of r text)))
    (subst (λ z. GivesFault z (fault_moved (λ at. place_in r at) (read r.left (text_of r text)))) (sym m)
    (moved_fault e (read r.left (text_of r text)) (λ at. place_in r at) (subst (λ z. GivesFault e (read r.left z)) i h))))

-- a piece
abbrev piece_at : List ℕ → Building → Piece → Bool → List ℕ → Outcome
piece_at text b m empty bytes = take_piece b m empty (place_of (length text) (behind_joins bytes)) (place_of (length text) (behind_piece m bytes))

pub piece_alone : (read : Reader) (text : List ℕ) (b : Building) (m : Piece) (empty : Bool) (bytes : List ℕ) (new : Building)
    → piece_at text b m empty bytes ≡ Ok (record { building = new; request = None }) → with_piece read (unread text bytes) b m empty ≡ Ok new
unfolding with_piece
piece_alone read text b m empty bytes new h = ap (λ z. and_then z (λ (t : Taken). with_answer read text t.building t.request)) h

pub piece_answered : (read : Reader) (text : List ℕ) (b : Building) (m : Piece) (empty : Bool) (bytes : List ℕ) (middle new : Building) (r : Request) (program shared : CompoundList)
    → piece_at text b m empty bytes ≡ Ok (record { building = middle; request = Some r }) → answer_of read text r ≡ Ok program → shared ≡ program → new ≡ with_program middle r.form shared
    → with_piece read (unread text bytes) b m empty ≡ Ok new
unfolding with_piece
piece_answered read text b m empty bytes middle new r program shared h a p n =
    ap (λ z. and_then z (λ (t : Taken). with_answer read text t.building t.request)) h
    ∙ ap (λ z. and_then z (λ (c : CompoundList). Ok (with_program middle r.form c))) a
    ∙ ap (λ z. Ok (with_program middle r.form z)) (sym p)
    ∙ ap (λ (z : Building). Ok z) (sym n)

pub piece_fault : (read : Reader) (text : List ℕ) (b : Building) (m : Piece) (empty : Bool) (bytes : List ℕ) (new : Building) (e : PartFault)
    → Takes (Err e) new (piece_at text b m empty bytes) → GivesFault e (with_piece read (unread text bytes) b m empty)
unfolding with_piece
piece_fault read text b m empty bytes new (fault.NoMemory _) h = tt
piece_fault read text b m empty bytes new (fault.BadSubstitution at) h = ap (λ z. and_then z (λ (t : Taken). with_answer read text t.building t.request)) h
piece_fault read text b m empty bytes new (fault.TooDeep at) h = ap (λ z. and_then z (λ (t : Taken). with_answer read text t.building t.request)) h
piece_fault read text b m empty bytes new (fault.Refused at) h = ap (λ z. and_then z (λ (t : Taken). with_answer read text t.building t.request)) h

pub piece_answer_fault : (read : Reader) (text : List ℕ) (b : Building) (m : Piece) (empty : Bool) (bytes : List ℕ) (middle : Building) (r : Request) (e : PartFault)
    → piece_at text b m empty bytes ≡ Ok (record { building = middle; request = Some r }) → GivesFault e (answer_of read text r) → GivesFault e (with_piece read (unread text bytes) b m empty)
unfolding with_piece
piece_answer_fault read text b m empty bytes middle r e h a =
    subst (λ z. GivesFault e (and_then z (λ (t : Taken). with_answer read text t.building t.request))) (sym h)
    (then_fault e (answer_of read text r) (λ (c : CompoundList). Ok (with_program middle r.form c)) a)

-- the parts of pieces
pub parts_done : (read : Reader) (left : ℕ) (text : List ℕ) (ms : List Piece) (bytes : List ℕ) (b : Building) (rest : List Piece) (behind : List ℕ) (parts : Parts)
    → with_pieces read text b rest behind ≡ with_pieces read text (empty_building left) ms bytes → rest ≡ [] → parts ≡ whole b → parts_in read left text ms bytes ≡ Ok parts
unfolding parts_in
parts_done read left text ms bytes b rest behind parts h e p =
    ap (λ z. and_then z (λ (c : Building). Ok (whole c))) (sym h) ∙ ap (λ z. and_then (with_pieces read text b z behind) (λ (c : Building). Ok (whole c))) e
    ∙ ap (λ (z : Parts). Ok z) (sym p)

pub parts_fault : (read : Reader) (left : ℕ) (text : List ℕ) (ms : List Piece) (bytes : List ℕ) (b : Building) (rest : List Piece) (behind : List ℕ) (m : Piece) (others : List Piece) (e : PartFault)
    → with_pieces read text b rest behind ≡ with_pieces read text (empty_building left) ms bytes → rest ≡ m ∷ others → GivesFault e (with_piece read (unread text behind) b m (begins_closed others))
    → GivesFault e (parts_in read left text ms bytes)
unfolding parts_in
parts_fault read left text ms bytes b rest behind m others e h r g =
    subst (λ z. GivesFault e (and_then z (λ (c : Building). Ok (whole c)))) h
    (then_fault e (with_pieces read text b rest behind) (λ (c : Building). Ok (whole c))
    (subst (λ z. GivesFault e (with_pieces read text b z behind)) (sym r)
    (then_fault e (with_piece read (unread text behind) b m (begins_closed others)) (λ c. with_pieces read text c others (behind_piece m behind)) g)))

-- a word
pub word_plain : (read : Reader) (left : ℕ) (text : List ℕ) (ms : List Piece) (span : Span) (prefix bytes source : List ℕ) (parts : Parts) (l : Leaf)
    → bytes ≡ drop span.start text → source ≡ text_between text span.start span.«end» → prefix ≡ literal_prefix ms → name_size prefix ≡ None → parts_in read left text ms bytes ≡ Ok parts
    → l ≡ plain_leaf ms prefix parts source → word_leaf read left text ms span ≡ Ok l
unfolding word_leaf
word_plain read left text ms span prefix bytes source parts l b s f n h is =
    ap (λ z. leaf_by (within read left text) ms span z (name_size z)) (sym f)
    ∙ ap (λ z. leaf_by (within read left text) ms span prefix z) n
    ∙ ap (λ z. and_then (parts_in read left text ms z) (λ p. Ok (plain_leaf ms prefix p (text_between text span.start span.«end»)))) (sym b)
    ∙ ap (λ z. and_then z (λ p. Ok (plain_leaf ms prefix p (text_between text span.start span.«end»)))) h
    ∙ ap (λ z. Ok (plain_leaf ms prefix parts z)) (sym s)
    ∙ ap (λ (z : Leaf). Ok z) (sym is)

pub word_plain_fault : (read : Reader) (left : ℕ) (text : List ℕ) (ms : List Piece) (span : Span) (prefix bytes : List ℕ) (e : PartFault)
    → bytes ≡ drop span.start text → prefix ≡ literal_prefix ms → name_size prefix ≡ None → GivesFault e (parts_in read left text ms bytes) → GivesFault e (word_leaf read left text ms span)
unfolding word_leaf
word_plain_fault read left text ms span prefix bytes e b f n h =
    subst (λ z. GivesFault e z)
    (sym (ap (λ z. leaf_by (within read left text) ms span z (name_size z)) (sym f)
    ∙ ap (λ z. leaf_by (within read left text) ms span prefix z) n
    ∙ ap (λ z. and_then (parts_in read left text ms z) (λ p. Ok (plain_leaf ms prefix p (text_between text span.start span.«end»)))) (sym b)))
    (then_fault e (parts_in read left text ms bytes) (λ p. Ok (plain_leaf ms prefix p (text_between text span.start span.«end»))) h)

assigned_is : (read : Reader) (left : ℕ) (text : List ℕ) (ms : List Piece) (span : Span) (prefix bytes : List ℕ) (size : ℕ) (first others : List Piece) (behind : List ℕ)
    → bytes ≡ drop span.start text → prefix ≡ literal_prefix ms → name_size prefix ≡ Some size → others ≡ drop (suc size) ms → first ≡ take (suc size) ms → behind ≡ behind_pieces first bytes
    → word_leaf read left text ms span ≡ and_then (parts_in read left text others behind) (λ p. Ok (assignment_leaf prefix size p (text_between text span.start span.«end»)))
unfolding word_leaf
assigned_is read left text ms span prefix bytes size first others behind b f n o t h =
    ap (λ z. leaf_by (within read left text) ms span z (name_size z)) (sym f)
    ∙ ap (λ z. leaf_by (within read left text) ms span prefix z) n
    ∙ ap (λ z. and_then (parts_in read left text z (behind_pieces (take (suc size) ms) (drop span.start text))) (λ p. Ok (assignment_leaf prefix size p (text_between text span.start span.«end»)))) (sym o)
    ∙ ap (λ z. and_then (parts_in read left text others (behind_pieces z (drop span.start text))) (λ p. Ok (assignment_leaf prefix size p (text_between text span.start span.«end»)))) (sym t)
    ∙ ap (λ z. and_then (parts_in read left text others (behind_pieces first z)) (λ p. Ok (assignment_leaf prefix size p (text_between text span.start span.«end»)))) (sym b)
    ∙ ap (λ z. and_then (parts_in read left text others z) (λ p. Ok (assignment_leaf prefix size p (text_between text span.start span.«end»)))) (sym h)

pub word_assigned : (read : Reader) (left : ℕ) (text : List ℕ) (ms : List Piece) (span : Span) (prefix bytes source : List ℕ) (size : ℕ) (first others : List Piece) (behind : List ℕ) (value : Parts) (l : Leaf)
    → bytes ≡ drop span.start text → source ≡ text_between text span.start span.«end» → prefix ≡ literal_prefix ms → name_size prefix ≡ Some size → others ≡ drop (suc size) ms → first ≡ take (suc size) ms → behind ≡ behind_pieces first bytes
    → parts_in read left text others behind ≡ Ok value → l ≡ assignment_leaf prefix size value source → word_leaf read left text ms span ≡ Ok l
word_assigned read left text ms span prefix bytes source size first others behind value l b s f n o t h v is =
    assigned_is read left text ms span prefix bytes size first others behind b f n o t h
    ∙ ap (λ z. and_then z (λ p. Ok (assignment_leaf prefix size p (text_between text span.start span.«end»)))) v
    ∙ ap (λ z. Ok (assignment_leaf prefix size value z)) (sym s)
    ∙ ap (λ (z : Leaf). Ok z) (sym is)

pub word_assigned_fault : (read : Reader) (left : ℕ) (text : List ℕ) (ms : List Piece) (span : Span) (prefix bytes : List ℕ) (size : ℕ) (first others : List Piece) (behind : List ℕ) (e : PartFault)
    → bytes ≡ drop span.start text → prefix ≡ literal_prefix ms → name_size prefix ≡ Some size → others ≡ drop (suc size) ms → first ≡ take (suc size) ms → behind ≡ behind_pieces first bytes
    → GivesFault e (parts_in read left text others behind) → GivesFault e (word_leaf read left text ms span)
word_assigned_fault read left text ms span prefix bytes size first others behind e b f n o t h g =
    subst (λ z. GivesFault e z) (sym (assigned_is read left text ms span prefix bytes size first others behind b f n o t h))
    (then_fault e (parts_in read left text others behind) (λ p. Ok (assignment_leaf prefix size p (text_between text span.start span.«end»))) g)

-- a body
unless_gives : (f : Option PartFault) (parts : Parts) → Gives (unless f parts) (unless f parts)
unless_gives None parts = refl
unless_gives (Some (fault.NoMemory _)) parts = tt
unless_gives (Some (fault.BadSubstitution at)) parts = refl
unless_gives (Some (fault.TooDeep at)) parts = refl
unless_gives (Some (fault.Refused at)) parts = refl

pub body_gives : (read : Reader) (left : ℕ) (bytes : List ℕ) (prefix : BodyPrefix) (parts : Parts) (result : Result Parts PartFault)
    → prefix ≡ prefix_of bytes → parts_in read left bytes prefix.pieces bytes ≡ Ok parts → result ≡ unless prefix.fault parts → Gives result (expanded_body read left bytes)
unfolding expanded_body
body_gives read left bytes prefix parts result f p r =
    subst (λ z. Gives z (expanded_body read left bytes)) (sym r)
    (subst (λ z. Gives (unless prefix.fault parts) (and_then (parts_in read left bytes z.pieces bytes) (λ ps. unless z.fault ps))) f
    (subst (λ z. Gives (unless prefix.fault parts) (and_then z (λ ps. unless prefix.fault ps))) (sym p) (unless_gives prefix.fault parts)))

pub body_fault : (read : Reader) (left : ℕ) (bytes : List ℕ) (prefix : BodyPrefix) (e : PartFault)
    → prefix ≡ prefix_of bytes → GivesFault e (parts_in read left bytes prefix.pieces bytes) → GivesFault e (expanded_body read left bytes)
unfolding expanded_body
body_fault read left bytes prefix e f g =
    subst (λ z. GivesFault e (and_then (parts_in read left bytes z.pieces bytes) (λ ps. unless z.fault ps))) f
    (then_fault e (parts_in read left bytes prefix.pieces bytes) (λ ps. unless prefix.fault ps) g)

pub document_quoted : (read : Reader) (left : ℕ) (d : Document) (parts : Parts) → d.is_quoted ≡ true → parts ≡ parts_of (with_literal [] d.text) → document_parts read left d ≡ Ok parts
unfolding document_parts
document_quoted read left d parts q p =
    ap (λ b. if b then Ok (parts_of (with_literal [] d.text)) else fault_moved (λ at. place_at d at) (expanded_body read left d.text)) q ∙ ap (λ (z : Parts). Ok z) (sym p)

pub document_expanded : (read : Reader) (left : ℕ) (d : Document) (bytes : List ℕ) (parts : Parts) → d.is_quoted ≡ false → bytes ≡ d.text → expanded_body read left bytes ≡ Ok parts → document_parts read left d ≡ Ok parts
unfolding document_parts
document_expanded read left d bytes parts q e h =
    ap (λ b. if b then Ok (parts_of (with_literal [] d.text)) else fault_moved (λ at. place_at d at) (expanded_body read left d.text)) q
    ∙ ap (λ z. fault_moved (λ at. place_at d at) (expanded_body read left z)) (sym e)
    ∙ ap (λ z. fault_moved (λ at. place_at d at) z) h

pub document_fault : (read : Reader) (left : ℕ) (d : Document) (bytes : List ℕ) (e result : PartFault) → d.is_quoted ≡ false → bytes ≡ d.text → GivesFault e (expanded_body read left bytes)
    → result ≡ at_other_place (λ at. place_at d at) e → GivesFault result (document_parts read left d)
unfolding document_parts
document_fault read left d bytes e result q i h m =
    subst (λ b. GivesFault result (if b then Ok (parts_of (with_literal [] d.text)) else fault_moved (λ at. place_at d at) (expanded_body read left d.text))) (sym q)
    (subst (λ z. GivesFault z (fault_moved (λ at. place_at d at) (expanded_body read left d.text))) (sym m)
    (moved_fault e (expanded_body read left d.text) (λ at. place_at d at) (subst (λ z. GivesFault e (expanded_body read left z)) i h)))

-- the bodies behind an item
abbrev all_documents : List ℕ → List Delimiter → Item → List Document
all_documents text due item = documents due item.token.span.«end» (between item.token.span.«end» item.«end» text)

pub bodies_done : (read : Reader) (left : ℕ) (text : List ℕ) (due : List Delimiter) (item : Item) (found rest : List Document) (none bodies : List Parts)
    → found ≡ all_documents text due item → none ≡ [] → with_documents read left bodies rest ≡ with_documents read left none found → rest ≡ [] → bodies_of read left text due item ≡ Ok bodies
unfolding bodies_of
bodies_done read left text due item found rest none bodies f n h r =
    ap (λ z. with_documents read left [] z) (sym f) ∙ ap (λ z. with_documents read left z found) (sym n) ∙ sym h ∙ ap (λ z. with_documents read left bodies z) r

pub bodies_fault : (read : Reader) (left : ℕ) (text : List ℕ) (due : List Delimiter) (item : Item) (found rest : List Document) (none bodies : List Parts) (d : Document) (others : List Document) (e : PartFault)
    → found ≡ all_documents text due item → none ≡ [] → with_documents read left bodies rest ≡ with_documents read left none found → rest ≡ d ∷ others → GivesFault e (document_parts read left d)
    → GivesFault e (bodies_of read left text due item)
unfolding bodies_of
bodies_fault read left text due item found rest none bodies d others e f n h r g =
    subst (λ z. GivesFault e z) (sym (ap (λ z. with_documents read left [] z) (sym f) ∙ ap (λ z. with_documents read left z found) (sym n) ∙ sym h ∙ ap (λ z. with_documents read left bodies z) r))
    (then_fault e (document_parts read left d) (λ parts. with_documents read left (bodies ++ parts ∷ []) others) g)

-- an item
pub item_refused : (read : Reader) (left : ℕ) (text : List ℕ) (due : List Delimiter) (item : Item) (j k : Judged) → k ≡ with_input j (input_of item) → takes k ≡ false
    → with_item (within read left text) due item j ≡ Err (fault.Refused item.token.span.start)
unfolding with_item
item_refused read left text due item j k e t =
    ap (λ z. taken_item (within read left text) due item z) (sym e)
    ∙ ap (λ b. if b then (if nat_lt left (open_in k) then Err (fault.TooDeep item.token.span.start) else with_leaf (within read (left - open_in k) text) due item k) else Err (fault.Refused item.token.span.start)) t

item_by : (read : Reader) (left : ℕ) (text : List ℕ) (due : List Delimiter) (item : Item) (j k : Judged) (opens : ℕ) (b : Bool) → k ≡ with_input j (input_of item) → takes k ≡ true → opens ≡ open_in k → nat_lt left opens ≡ b
    → with_item (within read left text) due item j ≡ (if b then Err (fault.TooDeep item.token.span.start) else with_leaf (within read (left - opens) text) due item k)
unfolding with_item
item_by read left text due item j k opens b e t o d =
    ap (λ z. taken_item (within read left text) due item z) (sym e)
    ∙ ap (λ b. if b then (if nat_lt left (open_in k) then Err (fault.TooDeep item.token.span.start) else with_leaf (within read (left - open_in k) text) due item k) else Err (fault.Refused item.token.span.start)) t
    ∙ ap (λ n. if nat_lt left n then Err (fault.TooDeep item.token.span.start) else with_leaf (within read (left - n) text) due item k) (sym o)
    ∙ ap (λ b. if b then Err (fault.TooDeep item.token.span.start) else with_leaf (within read (left - opens) text) due item k) d

pub item_deep : (read : Reader) (left : ℕ) (text : List ℕ) (due : List Delimiter) (item : Item) (j k : Judged) (opens : ℕ) → k ≡ with_input j (input_of item) → takes k ≡ true → opens ≡ open_in k → nat_lt left opens ≡ true
    → with_item (within read left text) due item j ≡ Err (fault.TooDeep item.token.span.start)
item_deep read left text due item j k opens e t o d = item_by read left text due item j k opens true e t o d

pub leaf_fault : (read : Reader) (left : ℕ) (text : List ℕ) (due : List Delimiter) (item : Item) (j k : Judged) (opens : ℕ) (x : PartFault) → k ≡ with_input j (input_of item) → takes k ≡ true → opens ≡ open_in k → nat_lt left opens ≡ false
    → GivesFault x (leaf_of read (left - opens) text item.token.kind item.token.span) → GivesFault x (with_item (within read left text) due item j)
leaf_fault read left text due item j k opens x e t o d g =
    subst (λ z. GivesFault x z) (sym (item_by read left text due item j k opens false e t o d))
    (then_fault x (leaf_of read (left - opens) text item.token.kind item.token.span)
    (λ l. and_then (bodies_of read (left - opens) text due item) (λ others. Ok (record k { leaves = k.leaves ++ l ∷ []; bodies = k.bodies ++ others; is_behind_blank = false }))) g)

with_leaf_is : (read : Reader) (left : ℕ) (text : List ℕ) (due : List Delimiter) (item : Item) (k : Judged) (l : Leaf) → leaf_of read left text item.token.kind item.token.span ≡ Ok l
    → with_leaf (within read left text) due item k ≡ and_then (bodies_of read left text due item) (λ others. Ok (record k { leaves = k.leaves ++ l ∷ []; bodies = k.bodies ++ others; is_behind_blank = false }))
with_leaf_is read left text due item k l h =
    ap (λ z. and_then z (λ (l : Leaf). and_then (bodies_of read left text due item) (λ others. Ok (record k { leaves = k.leaves ++ l ∷ []; bodies = k.bodies ++ others; is_behind_blank = false })))) h

pub item_bodies_fault : (read : Reader) (left : ℕ) (text : List ℕ) (due : List Delimiter) (item : Item) (j k : Judged) (opens : ℕ) (l : Leaf) (x : PartFault) → k ≡ with_input j (input_of item) → takes k ≡ true → opens ≡ open_in k → nat_lt left opens ≡ false
    → leaf_of read (left - opens) text item.token.kind item.token.span ≡ Ok l → GivesFault x (bodies_of read (left - opens) text due item) → GivesFault x (with_item (within read left text) due item j)
item_bodies_fault read left text due item j k opens l x e t o d h g =
    subst (λ z. GivesFault x z) (sym (item_by read left text due item j k opens false e t o d ∙ with_leaf_is read (left - opens) text due item k l h))
    (then_fault x (bodies_of read (left - opens) text due item) (λ others. Ok (record k { leaves = k.leaves ++ l ∷ []; bodies = k.bodies ++ others; is_behind_blank = false })) g)

pub item_taken : (read : Reader) (left : ℕ) (text : List ℕ) (due : List Delimiter) (item : Item) (j k new : Judged) (opens : ℕ) (l : Leaf) (bodies : List Parts) → k ≡ with_input j (input_of item) → takes k ≡ true → opens ≡ open_in k → nat_lt left opens ≡ false
    → leaf_of read (left - opens) text item.token.kind item.token.span ≡ Ok l → bodies_of read (left - opens) text due item ≡ Ok bodies
    → new ≡ record k { leaves = k.leaves ++ l ∷ []; bodies = k.bodies ++ bodies; is_behind_blank = false } → with_item (within read left text) due item j ≡ Ok new
item_taken read left text due item j k new opens l bodies e t o d h b n =
    item_by read left text due item j k opens false e t o d
    ∙ with_leaf_is read (left - opens) text due item k l h
    ∙ ap (λ z. and_then z (λ (others : List Parts). Ok (record k { leaves = k.leaves ++ l ∷ []; bodies = k.bodies ++ others; is_behind_blank = false }))) b
    ∙ ap (λ (z : Judged). Ok z) (sym n)

pub none_left : {A : Type 0} → (xs : List A) → length xs ≡ 0 → xs ≡ []
none_left [] h = refl
none_left (x ∷ xs) h = absurd (cc)

-- The faults of a text's tokens, and what ends these, stand in the text.
use Rattle.std.proofs.Common.{◌≡◌, ℕ, zero, suc, ◌+◌, ◌-◌, ◌<◌, ◌≤◌, nat_lt, Bool, true, false, List, [], ◌∷◌, ◌++◌, length, drop, Option, Some, None, Result, Ok, Err, refl, subst, arith, if◌then◌else◌}
use Rattle.std.specs.Option.{unwrap_or}
use Rattle.std.proofs.lemmas.List.{length-drop}
use Rattle.sh_token.specs.declared.token.TokenKind.{TokenKind}
use Rattle.sh_token.specs.FirstToken.{FirstToken, Found, Unfinished, DeepAt, IsFirst}
use Rattle.sh_token.specs.Found.{first_token}
use Rattle.sh_token.proofs.Laws.{is_first}
use Rattle.sh_syntax.specs.declared.tree.CompoundList.{CompoundList}
use Rattle.sh_parse_documents.specs.declared.item.Item.{Item}
use Rattle.sh_parse_documents.specs.Bodies.{bodies_size}
use Rattle.sh_parse_documents.specs.Waiting.{Waiting, nothing, behind_token, due_at}
use Rattle.sh_parse_documents.specs.Items.{FirstItem, FoundItem, NoItem, first_item, item_of, with_bodies}
use Rattle.sh_parse_documents.specs.Stream.{Ending, AtEnd, Cut, Items, with_item, with_first, items_from, items_of, waiting_behind}
use Rattle.sh_parse_words.specs.declared.fault.PartFault.{PartFault}
use Rattle.sh_token_grammar.specs.Shell.{substitution}
use Rattle.sh_token_pieces.specs.declared.here.Delimiter.{Delimiter}
use Rattle.sh_aliases.specs.declared.alias.Alias.{Alias}
use Rattle.sh_aliases.specs.Aliases.{AliasTable}
use Rattle.sh_parse_leaves.specs.Results.{and_then, fault_moved}
use Rattle.sh_parse_leaves.specs.Words.{Reader, within}
use Rattle.sh_parse_leaves.specs.Leaves.{leaf_of}
use Rattle.sh_parse_commands.specs.Documents.{bodies_of}
use Rattle.sh_parse_leaves.specs.Inputs.{input_of}
use Rattle.sh_parse_commands.specs.Judging.{Judged, none_of, with_input, takes, open_in, with_leaf, with_item as judged_item, are_whole, tree_by}
use Rattle.sh_parse_commands.specs.Replacing.{Inside, Origin, origin, alias_at, with_token, with_token_by, with_tokens}
use Rattle.sh_parse_words.specs.declared.fault.PartFault.TheVariants as fault
use Rattle.sh_parse_commands.specs.Cuts.{told_of, cut_fault}
use Rattle.sh_parse_commands.specs.Programs.{depth_of, ended_by, inside_at, inside_of as whole_inside, program_in}
use Rattle.sh_parse.specs.Insides.{AreInside}
use Rattle.sh_parse.proofs.Insides.{found_inside, inside_of}
use Rattle.sh_parse_commands.proofs.Within.{FaultIn, FaultsIn, leaf_in, bodies_in}

-- what ends the items of a text
abbrev pub EndingIn : ℕ → Ending → Type 0
EndingIn size AtEnd = Unit {0}
EndingIn size (Cut at) = at ≤ size

abbrev FirstIn : ℕ → FirstToken → Type 0
FirstIn size (Found kind start stop) = Unit {0}
FirstIn size Unfinished = Unit {0}
FirstIn size (DeepAt place) = place ≤ size

abbrev NoItemIn : ℕ → FirstItem → Type 0
NoItemIn size (FoundItem kind start stop after) = Unit {0}
NoItemIn size (NoItem fault) = FirstIn size fault

with_bodies_in : (size : ℕ) (kind : TokenKind) (start stop : ℕ) (o : Option ℕ) → NoItemIn size (with_bodies kind start stop o)
with_bodies_in size kind start stop None = tt
with_bodies_in size kind start stop (Some n) = tt

item_of_in : (e : Bool) (limit : ℕ) (w : Waiting) (bytes : List ℕ) (f : FirstToken) → IsFirst e limit bytes f → NoItemIn (length bytes) (item_of e w bytes f)
item_of_in e limit w bytes (Found kind start stop) x = with_bodies_in (length bytes) kind start stop (bodies_size e (due_at kind w) (drop stop bytes))
item_of_in e limit w bytes Unfinished x = tt
item_of_in e limit w bytes (DeepAt place) x =
    let rest = x.0 in
    let to : place + length rest ≡ length bytes = x.2 in
    omega (to, arith)

first_item_in : (e : Bool) (limit : ℕ) (w : Waiting) (bytes : List ℕ) → NoItemIn (length bytes) (first_item e limit w bytes)
unfolding first_item
first_item_in e limit w bytes = item_of_in e limit w bytes (first_token e limit bytes) (is_first e limit bytes)

item_ending : (size : ℕ) (kind : TokenKind) (start stop after : ℕ) (others : Items) → ((kind ≡ TokenKind.End → ⊥) → EndingIn size others.ending)
    → EndingIn size (with_item kind start stop after others).ending
item_ending size TokenKind.End start stop after others h = tt
item_ending size (TokenKind.Operator o) start stop after others h = h (λ x. cc)
item_ending size TokenKind.Number start stop after others h = h (λ x. cc)
item_ending size (TokenKind.Word ms) start stop after others h = h (λ x. cc)

-- what is told where the tokens break off
abbrev pub SomeIn : ℕ → Option PartFault → Type 0
SomeIn size None = Unit {0}
SomeIn size (Some f) = FaultIn size f

told_in : (at : ℕ) (text : List ℕ) → at ≤ length text → (first : FirstItem) → NoItemIn (length (drop at text)) first → SomeIn (length text) (told_of at first)
told_in at text l (FoundItem kind start stop after) h = tt
told_in at text l (NoItem (Found kind start stop)) h = tt
told_in at text l (NoItem Unfinished) h = tt
told_in at text l (NoItem (DeepAt place)) h = let a : length (drop at text) ≡ length text - at = length-drop at text in omega (a, l, h, arith)

pub cut_fault_in : (left : ℕ) (text : List ℕ) (w : Waiting) (at : ℕ) → at ≤ length text → SomeIn (length text) (cut_fault left text w at)
unfolding cut_fault
cut_fault_in left text w at l = told_in at text l (first_item true left w (drop at text)) (first_item_in true left w (drop at text))

cut_short_in : (size : ℕ) (o : Option PartFault) → SomeIn size o → FaultIn size (unwrap_or o (fault.Refused size))
cut_short_in size None h = omega arith
cut_short_in size (Some f) h = h

first_ending : (e : Bool) (text : List ℕ) (w : Waiting) (at : ℕ) → at ≤ length text → (others : Waiting → ℕ → Items)
    → ((v : Waiting) (place : ℕ) → place ≤ length text → EndingIn (length text) (others v place).ending)
    → (first : FirstItem) → first_item e (length text) w (drop at text) ≡ first → EndingIn (length text) (with_first others w at first).ending
first_ending e text w at l others more (NoItem fault) h = l
first_ending e text w at l others more (FoundItem kind start stop after) h =
    item_ending (length text) kind (at + start) (at + stop) (at + after) (others (behind_token kind w) (at + after)) (λ k.
    more (behind_token kind w) (at + after) (found_inside e text w at l kind start stop after k h).inside)

ending_from : (n : ℕ) (e : Bool) (text : List ℕ) (w : Waiting) (at : ℕ) → at ≤ length text → EndingIn (length text) (items_from n e text w at).ending
ending_from zero e text w at l = l
ending_from (suc n) e text w at l =
    first_ending e text w at l (λ v place. items_from n e text v place) (λ v place m. ending_from n e text v place m) (first_item e (length text) w (drop at text)) refl

pub ending_in : (e : Bool) (text : List ℕ) → EndingIn (length text) (items_of e text).ending
ending_in e text = ending_from (suc (length text)) e text nothing 0 (omega arith)

-- tokens
pub token_in : (at size : ℕ) (before : List Item) (t : Item) (after : List Item) → AreInside at size (before ++ t ∷ after)
    → (t.token.span.start ≤ size) × (t.token.span.«end» ≤ size)
token_in at size [] t after h =
    let a : t.token.span.start < t.token.span.«end» = h.1 in
    let b : t.token.span.«end» ≤ t.«end» = h.2 in
    let c : t.«end» ≤ size = h.3 in
    (omega (a, b, c, arith), omega (b, c, arith))
token_in at size (b ∷ before) t after h = token_in b.«end» size before t after h.4

-- faults of the texts that are read stand in these
abbrev pub ReadsIn : Reader → Type 0
ReadsIn read = (left : ℕ) (text : List ℕ) → FaultsIn (length text) (read left text)

then_in : {A B : Type 0} (size : ℕ) (r : Result A PartFault) (f : A → Result B PartFault) → FaultsIn size r → ((x : A) → FaultsIn size (f x)) → FaultsIn size (and_then r f)
then_in size (Ok x) f h k = k x
then_in size (Err e) f h k = h

moved_in : {A : Type 0} (size place : ℕ) → place ≤ size → (r : Result A PartFault) → FaultsIn size (fault_moved (λ at. place) r)
moved_in size place l (Ok x) = tt
moved_in size place l (Err (fault.BadSubstitution at)) = l
moved_in size place l (Err (fault.TooDeep at)) = l
moved_in size place l (Err (fault.Refused at)) = l
moved_in size place l (Err (fault.NoMemory _)) = tt

module _ (read : Reader) (reads : ReadsIn read) (left : ℕ) (text : List ℕ) where
  leaf_behind_in : (left' : ℕ) (due : List Delimiter) (item : Item) (j : Judged) → item.token.span.«end» ≤ length text → FaultsIn (length text) (with_leaf (within read left' text) due item j)
  leaf_behind_in left' due item j m =
      then_in (length text) (leaf_of read left' text item.token.kind item.token.span) _ (leaf_in read reads left' text item.token.kind item.token.span)
      (λ l. then_in (length text) (bodies_of read left' text due item) _ (bodies_in read reads left' text due item m) (λ others. tt))

  pub item_in : (due : List Delimiter) (item : Item) (j : Judged) → item.token.span.start ≤ length text → item.token.span.«end» ≤ length text
      → FaultsIn (length text) (judged_item (within read left text) due item j)
  unfolding judged_item
  item_in due item j l m = go (takes (with_input j (input_of item))) (nat_lt left (open_in (with_input j (input_of item))))
    where
      go : (b c : Bool) → FaultsIn (length text) (if b then if c then Err (fault.TooDeep item.token.span.start) else with_leaf (within read (left - open_in (with_input j (input_of item))) text) due item (with_input j (input_of item)) else Err (fault.Refused item.token.span.start))
      go true true = l
      go true false = leaf_behind_in (left - open_in (with_input j (input_of item))) due item (with_input j (input_of item)) m
      go false true = l
      go false false = l

-- tokens of which some are replaced
module _ (table : AliasTable) (inside : Inside) (reads : (from : List (List ℕ)) → ReadsIn (inside.read from)) (o : Origin) where
  token_by_in : (due : List Delimiter) (item : Item) (j : Judged) → item.token.span.start ≤ length o.text → item.token.span.«end» ≤ length o.text → (a : Option Alias)
      → FaultsIn (length o.text) (with_token_by inside o due item j a)
  token_by_in due item j l m None = item_in (inside.read o.from) (reads o.from) o.left o.text due item j l m
  token_by_in due item j l m (Some alias) = moved_in (length o.text) item.token.span.start l _

  pub taken_in : (due : List Delimiter) (item : Item) (j : Judged) → item.token.span.start ≤ length o.text → item.token.span.«end» ≤ length o.text
      → FaultsIn (length o.text) (with_token table inside o due item j)
  unfolding with_token
  taken_in due item j l m = token_by_in due item j l m (alias_at table o.from j item)

  all_in : (at : ℕ) (items : List Item) → AreInside at (length o.text) items → (w : Waiting) (j : Judged) → FaultsIn (length o.text) (with_tokens table inside o w items j)
  all_in at [] h w j = tt
  all_in at (t ∷ items) h w j =
      let p = token_in at (length o.text) [] t items h in
      then_in (length o.text) (with_token table inside o (due_at t.token.kind w) t j) _ (taken_in (due_at t.token.kind w) t j p.0 p.1)
      (λ k. all_in t.«end» items h.4 (behind_token t.token.kind w) k)

  whole_or_in : (b : Bool) (tree : CompoundList) → FaultsIn (length o.text) (if b then Ok tree else Err (fault.Refused (length o.text)))
  whole_or_in true tree = tt
  whole_or_in false tree = omega arith

  ended_in : (w : Waiting) (j : Judged) (ending : Ending) → EndingIn (length o.text) ending → FaultsIn (length o.text) (ended_by o.left o.text w j ending)
  ended_in w j AtEnd i = whole_or_in (are_whole j) (tree_by j)
  ended_in w j (Cut at) i = cut_short_in (length o.text) (cut_fault (o.left - open_in j) o.text w at) (cut_fault_in (o.left - open_in j) o.text w at i)

  program_told_in : FaultsIn (length o.text) (program_in table inside o)
  unfolding program_in
  program_told_in =
      then_in (length o.text) (with_tokens table inside o nothing (items_of true o.text).items (none_of substitution)) _
      (all_in 0 (items_of true o.text).items (inside_of true o.text) nothing (none_of substitution))
      (λ j. ended_in (waiting_behind nothing (items_of true o.text).items) j (items_of true o.text).ending (ending_in true o.text))

-- the texts of substitutions
texts_at : (table : AliasTable) (d : ℕ) (from : List (List ℕ)) → ReadsIn ((inside_at table d).read from)
texts_at table zero from left text = omega arith
texts_at table (suc d) from left text = program_told_in table (inside_at table d) (texts_at table d) (origin from left text)

pub texts_in : (table : AliasTable) (from : List (List ℕ)) → ReadsIn ((whole_inside table).read from)
texts_in table from left text = texts_at table (depth_of table (origin from left text)) from left text

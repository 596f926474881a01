-- A fault stands before the decision place at which it is told.
use Rattle.std.proofs.Common.{◌≡◌, ℕ, ◌+◌, ◌-◌, ◌^◌, ◌<◌, ◌≤◌, Bool, true, false, List, [], ◌∷◌, length, take, drop, min, Option, Some, None, Result, Ok, Err, refl, if◌then◌else◌, arith}
use Rattle.std.specs.Prelude.{nat_lt}
use Rattle.std.specs.Option.{option_map, unwrap_or}
use Rattle.std.proofs.Math.Nat.{min-le_left}
use Rattle.std.proofs.lemmas.List.{length-drop, length-take}
use Rattle.sh_token_grammar.specs.Shell.{complete}
use Rattle.sh_token_pieces.specs.declared.here.Delimiter.{Delimiter}
use Rattle.sh_token.specs.FirstToken.{FirstToken, Found, Unfinished, DeepAt, IsFirst}
use Rattle.sh_token.specs.Found.{first_token}
use Rattle.sh_token.specs.declared.token.TokenKind.{TokenKind}
use Rattle.sh_token.proofs.Laws.{is_first}
use Rattle.sh_syntax.specs.declared.tree.Parts.{Parts}
use Rattle.sh_parse_documents.specs.declared.item.Item.{Item}
use Rattle.sh_parse_documents.specs.Bodies.{bodies_size}
use Rattle.sh_parse_documents.specs.Items.{FirstItem, FoundItem, NoItem, first_item, item_of, with_bodies}
use Rattle.sh_parse_documents.specs.Stream.{Ending, AtEnd, Cut, items_of}
use Rattle.sh_parse_documents.specs.Waiting.{Waiting, nothing, behind_token, due_at}
use Rattle.sh_parse_words.specs.declared.fault.PartFault.{PartFault}
use Rattle.sh_parse_words.specs.declared.fault.PartFault.TheVariants as fault
use Rattle.sh_aliases.specs.Aliases.{AliasTable}
use Rattle.sh_aliases.specs.declared.alias.Alias.{Alias}
use Rattle.sh_parse_commands.specs.Cuts.{told_of, cut_fault}
use Rattle.sh_parse_commands.specs.Documents.{bodies_of}
use Rattle.sh_parse_leaves.specs.Inputs.{input_of}
use Rattle.sh_parse_commands.specs.Judging.{Judged, none_of, open_in, is_none, are_whole, takes, tree_by, with_input, with_item as judged_item, with_leaf}
use Rattle.sh_parse_leaves.specs.Leaves.{leaf_of}
use Rattle.sh_parse_commands.specs.Programs.{inside_of as whole_inside, read_text}
use Rattle.sh_parse_commands.specs.Replacing.{alias_at, origin, with_token as taken, with_token_by}
use Rattle.sh_parse_leaves.specs.Results.{and_then, fault_moved}
use Rattle.sh_parse_leaves.specs.Words.{within}
use Rattle.sh_parse.specs.Insides.{AreInside}
use Rattle.sh_parse.specs.Reading.{Answer, answer_at_newline, at_cut, at_end, at_last, complete_answer, fault_of, first_answer, is_newline, newline_says, nul_in, reading, refusal, source, standing, stands_before, unless_nul, with_nul, with_token}
use Rattle.sh_parse.specs.declared.Reading.TheVariants.{Complete, Blank}
use Rattle.sh_parse.specs.declared.ParseFault.TheVariants.{Refused, Unclosed}
use Rattle.sh_parse.proofs.Faults.{EndingIn, ReadsIn, ending_in, texts_in}
use Rattle.sh_parse.proofs.Insides.{inside_of}
use Rattle.sh_parse.proofs.Nuls.{nul_within}
use Rattle.sh_laws.specs.Standing.{Stands, StandsBefore}
use Rattle.sh_laws.proofs.Bodies.{bodies_stand}
use Rattle.sh_laws.proofs.Levels.{deep_some}
use Rattle.sh_laws.proofs.Words.{AllStand, FaultsStand, all_faults_stand}

before_stop : (start stop used : ℕ) (f : PartFault) → stop ≤ used → Stands start stop f → StandsBefore (Err (fault_of used f))
before_stop start stop used (fault.BadSubstitution at) l h = let a : at < stop = h.1 in omega (a, l, arith)
before_stop start stop used (fault.TooDeep at) l h = let a : at < stop = h.1 in omega (a, l, arith)
before_stop start stop used (fault.Refused at) l h = let a : at < stop = h.1 in omega (a, l, arith)
before_stop start stop used (fault.NoMemory _) l h = tt

-- the first fault of the tokens so far stands before this place
abbrev Before : {A : Type 0} → ℕ → Result A PartFault → Type 0
Before at (Ok x) = Unit {0}
Before at (Err f) = StandsBefore (Err (fault_of at f))

known_before : {A : Type 0} (at : ℕ) (r : Result A PartFault) → ((f : PartFault) → r ≡ Err f → StandsBefore (Err (fault_of at f))) → Before at r
known_before at (Ok x) h = tt
known_before at (Err f) h = h f refl

fault_later : (at later : ℕ) (f : PartFault) → at ≤ later → StandsBefore (Err (fault_of at f)) → StandsBefore (Err (fault_of later f))
fault_later at later (fault.BadSubstitution p) l h = let a : p < at = h in omega (a, l, arith)
fault_later at later (fault.TooDeep p) l h = let a : p < at = h in omega (a, l, arith)
fault_later at later (fault.Refused p) l h = let a : p < at = h in omega (a, l, arith)
fault_later at later (fault.NoMemory _) l h = tt

later_before : {A : Type 0} (at later : ℕ) (r : Result A PartFault) → at ≤ later → Before at r → Before later r
later_before at later (Ok x) l h = tt
later_before at later (Err f) l h = fault_later at later f l h

then_before : {A B : Type 0} (at : ℕ) (r : Result A PartFault) (f : A → Result B PartFault) → Before at r → ((x : A) → Before at (f x)) → Before at (and_then r f)
then_before at (Ok x) f h k = k x
then_before at (Err e) f h k = h

moved_before : {A : Type 0} (at place : ℕ) → place < at → (r : Result A PartFault) → Before at (fault_moved (λ p. place) r)
moved_before at place l (Ok x) = tt
moved_before at place l (Err (fault.BadSubstitution p)) = l
moved_before at place l (Err (fault.TooDeep p)) = l
moved_before at place l (Err (fault.Refused p)) = l
moved_before at place l (Err (fault.NoMemory _)) = tt

-- what a decision place says
abbrev SaysBefore : Option Answer → Type 0
SaysBefore None = Unit {0}
SaysBefore (Some answer) = StandsBefore answer

-- what is told of a token that isn't finished
abbrev DeepBefore : ℕ → FirstItem → Type 0
DeepBefore size (FoundItem kind start stop after) = Unit {0}
DeepBefore size (NoItem (Found kind start stop)) = Unit {0}
DeepBefore size (NoItem Unfinished) = Unit {0}
DeepBefore size (NoItem (DeepAt place)) = place < size

bodies_deep : (size : ℕ) (kind : TokenKind) (start stop : ℕ) (o : Option ℕ) → DeepBefore size (with_bodies kind start stop o)
bodies_deep size kind start stop None = tt
bodies_deep size kind start stop (Some n) = tt

item_before : (e : Bool) (limit : ℕ) (w : Waiting) (bytes : List ℕ) (f : FirstToken) → IsFirst e limit bytes f → DeepBefore (length bytes) (item_of e w bytes f)
item_before e limit w bytes (Found kind start stop) x = bodies_deep (length bytes) kind start stop (bodies_size e (due_at kind w) (drop stop bytes))
item_before e limit w bytes Unfinished x = tt
item_before e limit w bytes (DeepAt place) x =
    let to : place + length x.0 ≡ length bytes = x.2 in
    let some = deep_some e limit bytes x.0 x.1 in
    omega (to, some, arith)

first_item_before : (e : Bool) (limit : ℕ) (w : Waiting) (bytes : List ℕ) → DeepBefore (length bytes) (first_item e limit w bytes)
unfolding first_item
first_item_before e limit w bytes = item_before e limit w bytes (first_token e limit bytes) (is_first e limit bytes)

abbrev SomeBefore : ℕ → Option PartFault → Type 0
SomeBefore used None = Unit {0}
SomeBefore used (Some f) = StandsBefore (Err (fault_of used f))

told_before : (at : ℕ) (text : List ℕ) → at ≤ length text → (first : FirstItem) → DeepBefore (length (drop at text)) first → SomeBefore (length text) (told_of at first)
told_before at text l (FoundItem kind start stop after) h = tt
told_before at text l (NoItem (Found kind start stop)) h = tt
told_before at text l (NoItem Unfinished) h = tt
told_before at text l (NoItem (DeepAt place)) h = let a : length (drop at text) ≡ length text - at = length-drop at text in omega (a, l, h, arith)

cut_before : (left : ℕ) (text : List ℕ) (w : Waiting) (at : ℕ) → at ≤ length text → SomeBefore (length text) (cut_fault left text w at)
unfolding cut_fault
cut_before left text w at l = told_before at text l (first_item true left w (drop at text)) (first_item_before true left w (drop at text))

some_before : (used : ℕ) (o : Option PartFault) → SomeBefore used o → StandsBefore (Err (unwrap_or (option_map (fault_of used) o) (Unclosed used)))
some_before used None h = tt
some_before used (Some f) h = h

module _ (table : AliasTable) (e : Bool) (text : List ℕ) (small : length text < 2 ^ 64) where
  reads : ReadsIn (read_text table)
  reads = texts_in table []

  abbrev Stand : Item → Type 0
  Stand t = FaultsStand (read_text table) reads e text small t

  abbrev AllOf : List Item → Type 0
  AllOf items = AllStand (read_text table) reads e text small items

  -- one more token
  bodies_before : (left : ℕ) (due : List Delimiter) (t : Item) → t.token.span.«end» ≤ t.«end» → Before t.«end» (bodies_of (read_text table) left text due t)
  bodies_before left due t l =
      known_before t.«end» (bodies_of (read_text table) left text due t)
      (λ f h. before_stop t.token.span.«end» t.«end» t.«end» f (omega arith) (bodies_stand (read_text table) reads left text due t f l h))

  leaf_before : (left : ℕ) (due : List Delimiter) (t : Item) (j : Judged) → t.token.span.«end» ≤ t.«end» → Stand t → Before t.«end» (with_leaf (within (read_text table) left text) due t j)
  leaf_before left due t j l s =
      then_before t.«end» (leaf_of (read_text table) left text t.token.kind t.token.span) _
      (known_before t.«end» (leaf_of (read_text table) left text t.token.kind t.token.span)
      (λ f h. before_stop t.token.span.start t.token.span.«end» t.«end» f l (s left f h)))
      (λ x. then_before t.«end» (bodies_of (read_text table) left text due t) _ (bodies_before left due t l) (λ others. tt))

  item_stands_before : (due : List Delimiter) (t : Item) (j : Judged) → t.token.span.start < t.token.span.«end» → t.token.span.«end» ≤ t.«end» → Stand t
      → Before t.«end» (judged_item (within (read_text table) 500 text) due t j)
  unfolding judged_item
  item_stands_before due t j b l s = go (takes (with_input j (input_of t))) (nat_lt 500 (open_in (with_input j (input_of t))))
    where
      go : (c d : Bool) → Before t.«end» (if c then if d then Err (fault.TooDeep t.token.span.start) else with_leaf (within (read_text table) (500 - open_in (with_input j (input_of t))) text) due t (with_input j (input_of t)) else Err (fault.Refused t.token.span.start))
      go true true = omega (b, l, arith)
      go true false = leaf_before (500 - open_in (with_input j (input_of t))) due t (with_input j (input_of t)) l s
      go false true = omega (b, l, arith)
      go false false = omega (b, l, arith)

  replaced_before : (due : List Delimiter) (t : Item) (j : Judged) → t.token.span.start < t.token.span.«end» → t.token.span.«end» ≤ t.«end» → Stand t → (a : Option Alias)
      → Before t.«end» (with_token_by (whole_inside table) (origin [] 500 text) due t j a)
  replaced_before due t j b l s None = item_stands_before due t j b l s
  replaced_before due t j b l s (Some alias) = moved_before t.«end» t.token.span.start (omega (b, l, arith)) _

  token_before : (w : Waiting) (t : Item) (j : Judged) → t.token.span.start < t.token.span.«end» → t.token.span.«end» ≤ t.«end» → Stand t → Before t.«end» (with_token table text w t j)
  unfolding taken
  token_before w t j b l s = replaced_before (due_at t.token.kind w) t j b l s (alias_at table [] j t)

  next_before : (at : ℕ) (w : Waiting) (t : Item) → at ≤ t.«end» → t.token.span.start < t.token.span.«end» → t.token.span.«end» ≤ t.«end» → Stand t → (j : Result Judged PartFault) → Before at j
      → Before t.«end» (and_then j (with_token table text w t))
  next_before at w t m b l s (Ok j) h = token_before w t j b l s
  next_before at w t m b l s (Err f) h = fault_later at t.«end» f m h

  -- at a newline
  complete_before : (j : Judged) (used : ℕ) (r : Result (List Parts) PartFault) → Before used r → StandsBefore (complete_answer j used r)
  complete_before j used (Ok others) h = tt
  complete_before j used (Err f) h = h

  refusal_before : (used : ℕ) (r : Result Judged PartFault) → Before used r → SaysBefore (refusal used r)
  refusal_before used (Ok j) h = tt
  refusal_before used (Err f) h = h

  line_before : (at : ℕ) (w : Waiting) (t : Item) → at ≤ t.«end» → t.token.span.start < t.token.span.«end» → t.token.span.«end» ≤ t.«end» → Stand t → (j : Result Judged PartFault) → Before at j
      → SaysBefore (answer_at_newline table text w t j)
  line_before at w t m b l s (Err f) h = fault_later at t.«end» f m h
  line_before at w t m b l s (Ok j) h = go (is_none j) (are_whole j)
    where
      go : (c d : Bool) → SaysBefore (if c then Some (Ok (Blank t.«end»)) else if d then Some (complete_answer j t.«end» (bodies_of (read_text table) 500 text (due_at t.token.kind w) t))
          else refusal t.«end» (with_token table text w t j))
      go true d = tt
      go false true = complete_before j t.«end» (bodies_of (read_text table) 500 text (due_at t.token.kind w) t) (bodies_before 500 (due_at t.token.kind w) t l)
      go false false = refusal_before t.«end» (with_token table text w t j) (token_before w t j b l s)

  -- with NULs
  nul_place : (used p : ℕ) → nul_in (take used text) ≡ Some p → p < used
  nul_place used p h =
      let a = nul_within p (take used text) h in
      let b : length (take used text) ≡ min used (length text) = length-take used text in
      let c : min used (length text) ≤ used = min-le_left used (length text) in
      omega (a, b, c, arith)

  unless_before : (used : ℕ) (n : Option ℕ) → ((p : ℕ) → n ≡ Some p → p < used) → (answer : Answer) → StandsBefore answer → StandsBefore (unless_nul n used answer)
  unless_before used None l answer h = h
  unless_before used (Some p) l (Ok r) h = l p refl
  unless_before used (Some p) l (Err f) h = go (stands_before f p)
    where
      go : (c : Bool) → StandsBefore (if c then Err f else Err (Refused p used))
      go true = h
      go false = l p refl

  nul_before : (used : ℕ) (n : Option ℕ) → ((p : ℕ) → n ≡ Some p → p < used) → (d : Option Answer) → SaysBefore d → SaysBefore (with_nul n used d)
  nul_before used None l d h = h
  nul_before used (Some p) l None h = l p refl
  nul_before used (Some p) l (Some answer) h = unless_before used (Some p) l answer h

  -- at the end of the text
  whole_before : (answer : Answer) → StandsBefore answer → StandsBefore (unless_nul (nul_in text) (length text) answer)
  whole_before answer h = unless_before (length text) (nul_in text) (λ p k. nul_within p text k) answer h

  end_before : (j : Result Judged PartFault) → Before (length text) j → StandsBefore (at_end text j)
  end_before (Err f) h = h
  end_before (Ok j) h = go (is_none j) (are_whole j)
    where
      go : (c d : Bool) → StandsBefore (if c then Ok (Blank (length text)) else if d then Ok (Complete (tree_by j) (length text)) else Err (Unclosed (length text)))
      go true d = tt
      go false true = tt
      go false false = tt

  cut_off_before : (w : Waiting) (j : Result Judged PartFault) (at : ℕ) → at ≤ length text → Before (length text) j → StandsBefore (at_cut text w j at)
  cut_off_before w (Ok j) at l h = some_before (length text) (cut_fault (500 - open_in j) text w at) (cut_before (500 - open_in j) text w at l)
  cut_off_before w (Err f) at l h = h

  last_before : (w : Waiting) (j : Result Judged PartFault) → Before (length text) j → (b : Bool) (ending : Ending) → EndingIn (length text) ending → StandsBefore (at_last b text w j ending)
  last_before w j h b AtEnd l = whole_before (at_end text j) (end_before j h)
  last_before w j h true (Cut at) l = whole_before (at_cut text w j at) (cut_off_before w j at l h)
  last_before w j h false (Cut at) l = tt

  said_or : (d : Option Answer) (later : Answer) → SaysBefore d → StandsBefore later → StandsBefore (unwrap_or d later)
  said_or None later h k = k
  said_or (Some answer) later h k = h

  at_line : (b : Bool) (d : Option Answer) → SaysBefore d → SaysBefore (if b then d else None)
  at_line true d h = h
  at_line false d h = tt

  all_before : (at : ℕ) (items : List Item) → AreInside at (length text) items → AllOf items → at ≤ length text → (j : Result Judged PartFault) → Before at j → (w : Waiting) (ending : Ending)
      → EndingIn (length text) ending → StandsBefore (first_answer (source table e text) (standing j w) items ending)
  all_before at [] i s m j h w ending l = last_before w j (later_before at (length text) j m h) e ending l
  all_before at (t ∷ items) i s m j h w ending l =
      let a : at ≤ t.token.span.start = i.0 in
      let b : t.token.span.start < t.token.span.«end» = i.1 in
      let c : t.token.span.«end» ≤ t.«end» = i.2 in
      let n : at ≤ t.«end» = omega (a, b, c, arith) in
      said_or (if is_newline t.token.kind then newline_says table text w t j else None) _
      (at_line (is_newline t.token.kind) (newline_says table text w t j)
      (nul_before t.«end» (nul_in (take t.«end» text)) (λ p k. nul_place t.«end» p k) (answer_at_newline table text w t j) (line_before at w t n b c s.0 j h)))
      (all_before t.«end» items i.4 s.1 i.3 (and_then j (with_token table text w t)) (next_before at w t n b c s.0 j h) (behind_token t.token.kind w) ending l)

pub fault_before : (table : AliasTable) (e : Bool) (text : List ℕ) → length text < 2 ^ 64 → StandsBefore (reading table e text)
unfolding reading
fault_before table e text small =
    all_before table e text small 0 (items_of e text).items (inside_of e text) (all_faults_stand (read_text table) (texts_in table []) e text small) (omega arith) (Ok (none_of complete)) tt nothing
    (items_of e text).ending (ending_in e text)

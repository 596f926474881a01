-- What is read is of its text, and no text has two readings.
use Rattle.std.proofs.Common.{◌≡◌, ◌⊎◌, inl, inr, ℕ, ◌<◌, ◌≤◌, Bool, true, false, List, [], ◌∷◌, length, take, min, Option, Some, None, ◌-◌, Result, Ok, Err, refl, sym, subst, ◌∙◌, if◌then◌else◌, arith}
use Rattle.std.proofs.Math.Nat.{min-le_right}
use Rattle.std.proofs.lemmas.List.{length-take}
use Rattle.std.specs.Option.{option_map, unwrap_or}
use Rattle.sh_token_grammar.specs.Shell.{complete}
use Rattle.sh_token.specs.declared.token.TokenKind.{TokenKind}
use Rattle.sh_syntax.specs.declared.tree.Parts.{Parts}
use Rattle.sh_parse_documents.specs.declared.item.Item.{Item}
use Rattle.sh_parse_documents.specs.Waiting.{Waiting, nothing, behind_token, due_at}
use Rattle.sh_parse_documents.specs.Items.{first_item}
use Rattle.sh_parse_documents.specs.Stream.{Ending, AtEnd, Cut, items_of}
use Rattle.sh_token.specs.Found.{first_token}
use Rattle.sh_parse_words.specs.declared.fault.PartFault.{PartFault}
use Rattle.sh_parse_words.specs.declared.fault.PartFault.TheVariants as fault
use Rattle.sh_aliases.specs.Aliases.{AliasTable, no_aliases}
use Rattle.sh_parse_leaves.specs.Results.{and_then}
use Rattle.sh_parse_commands.specs.Documents.{bodies_of}
use Rattle.sh_parse_commands.specs.Judging.{Judged, none_of, open_in, is_none, are_whole, tree_by}
use Rattle.sh_parse_commands.specs.Replacing.{origin}
use Rattle.sh_parse_commands.specs.Programs.{inside_of as whole_inside, read_text}
use Rattle.sh_parse_commands.specs.Cuts.{cut_fault}
use Rattle.sh_parse_commands.proofs.Within.{FaultIn, FaultsIn, bodies_in}
use Rattle.sh_parse.specs.Reading.{Answer, Standing, answer_at_newline, at_cut, at_end, at_last, complete_answer, cut_short, fault_of, first_answer, is_newline, newline_says, nul_in, reading, refusal, source, standing, stands_before, stands_behind, unless_nul, with_nul, with_token}
use Rattle.sh_parse.specs.declared.Reading.TheVariants.{Complete, Blank, More}
use Rattle.sh_parse.specs.declared.ParseFault.TheVariants.{Refused, Unclosed}
use Rattle.sh_parse.specs.Defined.{IsReading}
use Rattle.sh_parse.specs.Insides.{IsInside, AreInside}
use Rattle.sh_parse.proofs.Decisions.{reading_defined}
use Rattle.sh_parse.proofs.Nuls.{nul_within}
use Rattle.sh_parse.proofs.Insides.{inside_of, last_inside}
use Rattle.sh_parse.proofs.Faults.{SomeIn, cut_fault_in, EndingIn, ending_in, taken_in, texts_in, token_in}

fault_inside : (e : Bool) (text : List ℕ) (used : ℕ) (f : PartFault) → (0 < used) × (used ≤ length text) → FaultIn (length text) f → IsInside e text (Err (fault_of used f))
fault_inside e text used (fault.BadSubstitution at) p h = (h, p.0, p.1)
fault_inside e text used (fault.TooDeep at) p h = (h, p.0, p.1)
fault_inside e text used (fault.Refused at) p h = (h, p.0, p.1)
fault_inside e text used (fault.NoMemory _) p h = tt

-- a NUL stands in its text, and the bytes up to the decision place are some
nul_inside : (e : Bool) (text : List ℕ) (used : ℕ) → (0 < used) × (used ≤ length text) → (n : Option ℕ) → ((p : ℕ) → n ≡ Some p → p ≤ length text) → (answer : Answer) → IsInside e text answer
    → IsInside e text (unless_nul n used answer)
nul_inside e text used u None l answer h = h
nul_inside e text used u (Some p) l (Ok r) h = (l p refl, u.0, u.1)
nul_inside e text used u (Some p) l (Err f) h = go (stands_before f p)
  where
    go : (c : Bool) → IsInside e text (if c then Err f else Err (Refused p used))
    go true = h
    go false = (l p refl, u.0, u.1)

taken_size : (n : ℕ) (bs : List ℕ) → length (take n bs) ≤ length bs
taken_size n bs =
    let a : length (take n bs) ≡ min n (length bs) = length-take n bs in
    let b : min n (length bs) ≤ length bs = min-le_right n (length bs) in
    omega (a, b, arith)

nul_place : (n : ℕ) (text : List ℕ) (p : ℕ) → nul_in (take n text) ≡ Some p → p ≤ length text
nul_place n text p h =
    let a = nul_within p (take n text) h in
    let b = taken_size n text in
    omega (a, b, arith)

-- a decision place up to and with which so many bytes come
module _ (table : AliasTable) (e : Bool) (text : List ℕ) where
  abbrev OptionInside : Option Answer → Type 0
  OptionInside None = Unit {0}
  OptionInside (Some answer) = IsInside e text answer

  abbrev Used : ℕ → Type 0
  Used used = (0 < used) × (used ≤ length text)

  complete_inside : (j : Judged) (used : ℕ) → Used used → (r : Result (List Parts) PartFault) → FaultsIn (length text) r → IsInside e text (complete_answer j used r)
  complete_inside j used u (Ok others) h = u
  complete_inside j used u (Err f) h = fault_inside e text used f u h

  refusal_inside : (used : ℕ) → Used used → (r : Result Judged PartFault) → FaultsIn (length text) r → OptionInside (refusal used r)
  refusal_inside used u (Ok j) h = tt
  refusal_inside used u (Err f) h = fault_inside e text used f u h

  token_inside : (w : Waiting) (t : Item) (j : Judged) → t.token.span.start ≤ length text → t.token.span.«end» ≤ length text → FaultsIn (length text) (with_token table text w t j)
  token_inside w t j l m = taken_in table (whole_inside table) (texts_in table) (origin [] 500 text) (due_at t.token.kind w) t j l m

  line_inside : (at : ℕ) (w : Waiting) (t : Item) (items : List Item) → AreInside at (length text) (t ∷ items) → (j : Result Judged PartFault) → FaultsIn (length text) j
      → OptionInside (answer_at_newline table text w t j)
  line_inside at w t items i (Err f) h = fault_inside e text t.«end» f (last_inside at (length text) t items i) h
  line_inside at w t items i (Ok j) h = go (is_none j) (are_whole j)
    where
      u : Used t.«end»
      u = last_inside at (length text) t items i

      p : (t.token.span.start ≤ length text) × (t.token.span.«end» ≤ length text)
      p = token_in at (length text) [] t items i

      go : (b c : Bool) → OptionInside (if b then Some (Ok (Blank t.«end»)) else if c then Some (complete_answer j t.«end» (bodies_of (read_text table) 500 text (due_at t.token.kind w) t))
          else refusal t.«end» (with_token table text w t j))
      go true c = (inl u.0, u.1)
      go false true = complete_inside j t.«end» u (bodies_of (read_text table) 500 text (due_at t.token.kind w) t) (bodies_in (read_text table) (texts_in table []) 500 text (due_at t.token.kind w) t p.1)
      go false false = refusal_inside t.«end» u (with_token table text w t j) (token_inside w t j p.0 p.1)

  with_nul_at : (used : ℕ) → Used used → (n : Option ℕ) → ((p : ℕ) → n ≡ Some p → p ≤ length text) → (d : Option Answer) → OptionInside d → OptionInside (with_nul n used d)
  with_nul_at used u None l d h = h
  with_nul_at used u (Some p) l None h = (l p refl, u.0, u.1)
  with_nul_at used u (Some p) l (Some answer) h = nul_inside e text used u (Some p) l answer h

  says_inside : (at : ℕ) (w : Waiting) (t : Item) (items : List Item) → AreInside at (length text) (t ∷ items) → (j : Result Judged PartFault) → FaultsIn (length text) j
      → OptionInside (newline_says table text w t j)
  says_inside at w t items i j h =
      with_nul_at t.«end» (last_inside at (length text) t items i) (nul_in (take t.«end» text)) (λ p k. nul_place t.«end» text p k) (answer_at_newline table text w t j) (line_inside at w t items i j h)

  next_inside : (w : Waiting) (t : Item) → t.token.span.start ≤ length text → t.token.span.«end» ≤ length text → (j : Result Judged PartFault) → FaultsIn (length text) j
      → FaultsIn (length text) (and_then j (with_token table text w t))
  next_inside w t l m (Ok j) h = token_inside w t j l m
  next_inside w t l m (Err f) h = h

  -- the end of a text that has bytes
  module _ (some : 0 < length text) where
    all : Used (length text)
    all = (some, omega arith)

    end_inside : (j : Result Judged PartFault) → FaultsIn (length text) j → IsInside e text (at_end text j)
    end_inside (Err f) h = fault_inside e text (length text) f all h
    end_inside (Ok j) h = go (is_none j) (are_whole j)
      where
        go : (b c : Bool) → IsInside e text (if b then Ok (Blank (length text)) else if c then Ok (Complete (tree_by j) (length text)) else Err (Unclosed (length text)))
        go true c = (inl some, omega arith)
        go false true = all
        go false false = refl

    short_inside : (o : Option PartFault) → SomeIn (length text) o → IsInside e text (Err (unwrap_or (option_map (fault_of (length text)) o) (Unclosed (length text))))
    short_inside None h = refl
    short_inside (Some f) h = fault_inside e text (length text) f all h

    cut_off_inside : (w : Waiting) (j : Result Judged PartFault) (at : ℕ) → at ≤ length text → FaultsIn (length text) j → IsInside e text (at_cut text w j at)
    cut_off_inside w (Ok j) at l h = short_inside (cut_fault (500 - open_in j) text w at) (cut_fault_in (500 - open_in j) text w at l)
    cut_off_inside w (Err f) at l h = fault_inside e text (length text) f all h

    with_nul_inside : (answer : Answer) → IsInside e text answer → IsInside e text (unless_nul (nul_in text) (length text) answer)
    with_nul_inside answer h = nul_inside e text (length text) all (nul_in text) (λ p k. let l = nul_within p text k in omega (l, arith)) answer h

    last_told : (w : Waiting) (j : Result Judged PartFault) → FaultsIn (length text) j → (b : Bool) → e ≡ b → (ending : Ending) → EndingIn (length text) ending → IsInside e text (at_last b text w j ending)
    last_told w j h b q AtEnd i = with_nul_inside (at_end text j) (end_inside j h)
    last_told w j h true q (Cut at) i = with_nul_inside (at_cut text w j at) (cut_off_inside w j at i h)
    last_told w j h false q (Cut at) i = q

    said_or : (d : Option Answer) (later : Answer) → OptionInside d → IsInside e text later → IsInside e text (unwrap_or d later)
    said_or None later h k = k
    said_or (Some answer) later h k = h

    at_line : (b : Bool) (d : Option Answer) → OptionInside d → OptionInside (if b then d else None)
    at_line true d h = h
    at_line false d h = tt

    all_inside : (at : ℕ) (items : List Item) → AreInside at (length text) items → (j : Result Judged PartFault) → FaultsIn (length text) j → (w : Waiting) (ending : Ending) → EndingIn (length text) ending
        → IsInside e text (first_answer (source table e text) (standing j w) items ending)
    all_inside at [] i j h w ending l = last_told w j h e refl ending l
    all_inside at (t ∷ items) i j h w ending l =
        let p = token_in at (length text) [] t items i in
        said_or (if is_newline t.token.kind then newline_says table text w t j else None) _ (at_line (is_newline t.token.kind) (newline_says table text w t j) (says_inside at w t items i j h))
        (all_inside t.«end» items i.4 (and_then j (with_token table text w t)) (next_inside w t p.0 p.1 j h) (behind_token t.token.kind w) ending l)

-- nothing is read in an empty text
nothing_inside : (table : AliasTable) (e : Bool) → IsInside e [] (reading table e [])
unfolding reading first_item first_token
nothing_inside table true = (inr refl, omega arith)
nothing_inside table false = refl

pub reading_inside : (table : AliasTable) (e : Bool) (text : List ℕ) → IsInside e text (reading table e text)
unfolding reading
reading_inside table e [] = nothing_inside table e
reading_inside table e (b ∷ bytes) =
    all_inside table e (b ∷ bytes) (omega arith) 0 (items_of e (b ∷ bytes)).items (inside_of e (b ∷ bytes)) (Ok (none_of complete)) tt nothing (items_of e (b ∷ bytes)).ending (ending_in e (b ∷ bytes))

-- one reading alone
pub one_reading : (e : Bool) (text : List ℕ) (x y : Answer) → IsReading e text x → IsReading e text y → x ≡ y
one_reading e text x y a b = sym ((reading_defined e text x).1 a) ∙ (reading_defined e text y).1 b

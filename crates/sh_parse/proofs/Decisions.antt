-- What is decided is what derivations say.
use Rattle.std.proofs.Common.{◌≡◌, ◌⊎◌, inl, inr, ◌↔◌, ℕ, Bool, true, false, List, [], ◌∷◌, ◌++◌, length, Option, Some, None, Result, Ok, Err, refl, sym, ap, subst, ◌∙◌, append_assoc, if◌then◌else◌}
use Rattle.std.specs.Option.{unwrap_or}
use Rattle.std.proofs.lemmas.List.{append-nil}
use Rattle.sh_grammar.specs.Computed.{is_whole}
use Rattle.sh_token_grammar.specs.Shell.{complete}
use Rattle.sh_syntax.specs.declared.tree.CompoundList.{CompoundList as Tree}
use Rattle.sh_syntax.specs.declared.tree.Parts.{Parts}
use Rattle.sh_token.specs.declared.token.TokenKind.{TokenKind}
use Rattle.sh_parse_documents.specs.declared.item.Item.{Item}
use Rattle.sh_parse_documents.specs.Waiting.{Waiting, nothing, due_at}
use Rattle.sh_parse_documents.specs.Stream.{Ending, AtEnd, Cut, items_of, waiting_behind}
use Rattle.sh_parse_words.specs.declared.fault.PartFault.{PartFault}
use Rattle.sh_parse_leaves.specs.Inputs.{inputs_of}
use Rattle.sh_parse_leaves.specs.Results.{and_then}
use Rattle.sh_parse_leaves.specs.Words.{within}
use Rattle.sh_parse_commands.specs.Judging.{IsShell, Judged, with_item, are_no, tree_by}
use Rattle.sh_parse_commands.specs.Programs.{read_text}
use Rattle.sh_parse_commands.specs.Defined.{Judge, Derive, AreFaultless, AreTree, AreTokens}
use Rattle.sh_parse_commands.proofs.Taking.{behind, judged_next, Told, next_told, next_fault}
use Rattle.sh_parse_commands.proofs.Faultless.{waiting_push, judged, JudgedSo, judged_told, judged_push, faultless_judged, fault_judged}
use Rattle.sh_parse_commands.proofs.Texts.{derive_whole, whole_not_derive, derive_not_whole, whole_derive, tree_found, tree_gives, tree_whole, tree_alone, alone_gives, none_told, some_told, some_leaves, tokens_of}
use Rattle.sh_aliases.specs.Aliases.{no_aliases}
use Rattle.sh_parse.proofs.Plain.{plain_at_newline, plain_first, plain_token, same_first}
use Rattle.sh_parse.specs.Reading.{Answer, is_newline, nul_in, unless_nul, with_nul, complete_answer, refusal, at_end, at_cut, at_last, reading, standing}
use Rattle.sh_parse.specs.declared.Reading.TheVariants.{Complete, Blank}
use Rattle.sh_parse.specs.declared.ParseFault.TheVariants.{Unclosed}
use Rattle.sh_parse.specs.Defined.{outer, last_bodies, TokensSay, blank_line, faulty_line, whole_line, faulty_bodies, faulty_newline, AreOpen, nul_before, Says, of_tokens, of_nul, IsSilent, AreSilent, Ends, blank_text, faulty_text, whole_text, open_text, FaultOr, cut_answer, EndSays, NewlineDecides, EndDecides, IsReading}

commands : IsShell complete
commands = inl refl

no_value : (r : Result Judged PartFault) (f : PartFault) (k : Judged) → r ≡ Err f → r ≡ Ok k → ⊥
no_value (Ok j) f k e h = cc
no_value (Err x) f k e h = cc

-- a newline
abbrev saying : ℕ → Judged → Bool → Bool → Result (List Parts) PartFault → Result Judged PartFault → Option Answer
saying used j b c o r = if b then Some (Ok (Blank used)) else if c then Some (complete_answer j used o) else refusal used r

says_blank : (used : ℕ) (j : Judged) (b c : Bool) (o : Result (List Parts) PartFault) (r : Result Judged PartFault) → b ≡ true → saying used j b c o r ≡ Some (Ok (Blank used))
says_blank used j b c o r e = rw e refl

says_whole : (used : ℕ) (j : Judged) (b c : Bool) (o p : Result (List Parts) PartFault) (r : Result Judged PartFault) → b ≡ false → c ≡ true → o ≡ p
    → saying used j b c o r ≡ Some (complete_answer j used p)
says_whole used j b c o p r e d f = rw (e, d, f) refl

says_refused : (used : ℕ) (j : Judged) (b c : Bool) (o : Result (List Parts) PartFault) (r q : Result Judged PartFault) → b ≡ false → c ≡ false → r ≡ q
    → saying used j b c o r ≡ refusal used q
says_refused used j b c o r q e d f = rw (e, d, f) refl

module _ (text : List ℕ) (before : List Item) (newline : Item) where
  abbrev g : Judge
  g = outer text

  abbrev by : Result Judged PartFault → Option Answer
  by r = plain_at_newline text (waiting_behind nothing before) newline r

  abbrev pub says_at : Option Answer
  says_at = by (judged g before)

  abbrev Speaks : Option Answer → Type 0
  Speaks None = AreOpen text before newline
  Speaks (Some answer) = TokensSay text before newline answer

  abbrev whole : Bool
  whole = is_whole complete (inputs_of before)

  -- what it says is so
  module _ (x : AreFaultless (outer text) before) where
    abbrev here : Judged
    here = behind (outer text) before x.leaves x.bodies

    abbrev next : Result Judged PartFault
    next = judged_next (outer text) before newline x.leaves x.bodies

    going : (k : Judged) → next ≡ Ok k → AreFaultless (outer text) (before ++ newline ∷ [])
    going k e =
        let is : judged (outer text) (before ++ newline ∷ []) ≡ Ok k =
        judged_push (outer text) before newline
        ∙ (ap (λ o. and_then o (λ j. with_item (within (read_text no_aliases) 500 text) (due_at newline.token.kind (waiting_behind nothing before)) newline j)) (faultless_judged (outer text) commands before x) ∙ e) in
        let so : JudgedSo (outer text) (before ++ newline ∷ []) (Ok k) = subst (λ r. JudgedSo (outer text) (before ++ newline ∷ []) r) is (judged_told (outer text) commands (before ++ newline ∷ [])) in
        so.0

    next_says : (before ≡ [] → ⊥) → (Derive (outer text) before → ⊥) → (r : Result Judged PartFault) → next ≡ r → Told (outer text) before newline x.leaves x.bodies r → Speaks (refusal newline.«end» r)
    next_says n d (Ok k) e h = record { some = n; unfinished = d; faultless = going k e }
    next_says n d (Err f) e h = faulty_newline n x d f h refl

    bodies_say : (before ≡ [] → ⊥) → AreTokens before → whole ≡ true → (o : Result (List Parts) PartFault) → last_bodies text before newline ≡ o
        → TokensSay text before newline (complete_answer here newline.«end» o)
    bodies_say n a w (Ok others) e = whole_line n others e _ (tree_found (outer text) commands before x a w others) refl
    bodies_say n a w (Err f) e = faulty_bodies n x (whole_derive (outer text) commands before w) f e refl

    some_say : (before ≡ [] → ⊥) → AreTokens before → (c : Bool) → whole ≡ c
        → Speaks (if c then Some (complete_answer here newline.«end» (last_bodies text before newline)) else refusal newline.«end» next)
    some_say n a true w = bodies_say n a w (last_bodies text before newline) refl
    some_say n a false w =
        next_says n (whole_not_derive (outer text) commands before w) next refl (next_told (outer text) before newline x.leaves x.bodies commands)

    all_say : AreTokens before → (b : Bool) → are_no x.leaves ≡ b
        → Speaks (saying newline.«end» here b whole (last_bodies text before newline) next)
    all_say a true e = blank_line (none_told (outer text) before x e) refl
    all_say a false e = some_say (some_told (outer text) before x e) a whole refl

  speaks_by : AreTokens before → (r : Result Judged PartFault) → JudgedSo (outer text) before r → Speaks (by r)
  speaks_by a (Ok k) (x, e) = subst (λ j. Speaks (by (Ok j))) (sym e) (all_say x a (are_no x.leaves) refl)
  speaks_by a (Err f) h = faulty_line f h refl

  pub speaks : AreTokens before → (d : Option Answer) → says_at ≡ d → Speaks d
  speaks a d e = subst (λ x. Speaks x) e (speaks_by a (judged (outer text) before) (judged_told (outer text) commands before))

  -- and what is so it says
  of_faultless : (x : AreFaultless (outer text) before) → says_at ≡ by (Ok (behind (outer text) before x.leaves x.bodies))
  of_faultless x = ap (λ r. by r) (faultless_judged (outer text) commands before x)

  whole_is : (others : List Parts) (tree : Tree) → (before ≡ [] → ⊥) → last_bodies text before newline ≡ Ok others → (a : AreTree (outer text) before others tree)
      → says_at ≡ Some (Ok (Complete tree newline.«end»))
  whole_is others tree n b a =
      of_faultless a.faultless
      ∙ (says_whole newline.«end» (behind (outer text) before a.faultless.leaves a.faultless.bodies) (are_no a.faultless.leaves) whole (last_bodies text before newline) (Ok others)
      (judged_next (outer text) before newline a.faultless.leaves a.faultless.bodies)
      (some_leaves (outer text) before a.faultless n) (tree_whole (outer text) commands before others tree a) b
      ∙ ap (λ c. Some (Ok (Complete c newline.«end»))) (tree_gives (outer text) commands before others tree a))

  blank_is : before ≡ [] → says_at ≡ Some (Ok (Blank newline.«end»))
  blank_is e = of_none before e
    where
      of_none : (xs : List Item) → xs ≡ [] → plain_at_newline text (waiting_behind nothing xs) newline (judged (outer text) xs) ≡ Some (Ok (Blank newline.«end»))
      of_none [] e = refl
      of_none (t ∷ xs) e = absurd (cc)

  pub says : (answer : Answer) → TokensSay text before newline answer → says_at ≡ Some answer
  says answer (blank_line e h) = blank_is e ∙ ap Some (sym h)
  says answer (faulty_line f x h) = ap (λ r. by r) (fault_judged (outer text) commands before f x) ∙ ap Some (sym h)
  says answer (whole_line n others b tree a h) = whole_is others tree n b a ∙ ap Some (sym h)
  says answer (faulty_bodies n x d f b h) =
      of_faultless x
      ∙ (says_whole newline.«end» (behind (outer text) before x.leaves x.bodies) (are_no x.leaves) whole (last_bodies text before newline) (Err f)
      (judged_next (outer text) before newline x.leaves x.bodies)
      (some_leaves (outer text) before x n) (derive_whole (outer text) commands before d) b
      ∙ ap Some (sym h))
  says answer (faulty_newline n x d f w h) =
      of_faultless x
      ∙ (says_refused newline.«end» (behind (outer text) before x.leaves x.bodies) (are_no x.leaves) whole (last_bodies text before newline)
      (judged_next (outer text) before newline x.leaves x.bodies) (Err f)
      (some_leaves (outer text) before x n) (derive_not_whole (outer text) commands before d) (next_fault (outer text) before newline x.leaves x.bodies commands f w)
      ∙ ap Some (sym h))

  silent_by : (r : Result Judged PartFault) → JudgedSo (outer text) before r → (k : Judged) → (before ≡ [] → ⊥) → (Derive (outer text) before → ⊥)
      → and_then r (λ j. with_item (within (read_text no_aliases) 500 text) (due_at newline.token.kind (waiting_behind nothing before)) newline j) ≡ Ok k → by r ≡ None
  silent_by (Ok j) (x, e) k n d h =
      says_refused newline.«end» j (are_no j.leaves) (is_whole j.grammar j.tokens) (last_bodies text before newline) (plain_token text (waiting_behind nothing before) newline j) (Ok k)
      (ap (λ (i : Judged). are_no i.leaves) e ∙ some_leaves (outer text) before x n)
      (ap (λ (i : Judged). is_whole i.grammar i.tokens) e ∙ derive_not_whole (outer text) commands before d) h
  silent_by (Err f) q k n d h = absurd (no_value (Err f) f k refl h)

  pub silent : AreOpen text before newline → says_at ≡ None
  silent q =
      silent_by (judged (outer text) before) (judged_told (outer text) commands before) (behind (outer text) (before ++ newline ∷ []) q.faultless.leaves q.faultless.bodies) q.some q.unfinished
      (sym (judged_push (outer text) before newline) ∙ faultless_judged (outer text) commands (before ++ newline ∷ []) q.faultless)

  -- with a NUL before its end
  abbrev nul : Option ℕ
  nul = nul_before text newline

  abbrev pub line_says : Option Answer
  line_says = with_nul nul newline.«end» says_at

  abbrev Tells : Option Answer → Type 0
  Tells None = IsSilent text before newline
  Tells (Some answer) = Says text before newline answer

  tells_by : AreTokens before → (n : Option ℕ) → nul ≡ n → (d : Option Answer) → says_at ≡ d → Tells (with_nul n newline.«end» d)
  tells_by a None e None h = record { open_tokens = speaks a None h; clean = e }
  tells_by a None e (Some x) h = of_tokens x (speaks a (Some x) h) (sym (ap (λ n. unless_nul n newline.«end» x) e))
  tells_by a (Some p) e None h = of_nul (speaks a None h) p e refl
  tells_by a (Some p) e (Some x) h = of_tokens x (speaks a (Some x) h) (sym (ap (λ n. unless_nul n newline.«end» x) e))

  pub line_tells : AreTokens before → (d : Option Answer) → line_says ≡ d → Tells d
  line_tells a d e = subst (λ x. Tells x) e (tells_by a nul refl says_at refl)

  with_some : (n : Option ℕ) (used : ℕ) (x : Answer) → with_nul n used (Some x) ≡ Some (unless_nul n used x)
  with_some None used x = refl
  with_some (Some p) used x = refl

  pub line_told : (answer : Answer) → Says text before newline answer → line_says ≡ Some answer
  line_told answer (of_tokens x t h) = ap (with_nul nul newline.«end») (says x t) ∙ (with_some nul newline.«end» x ∙ ap Some (sym h))
  line_told answer (of_nul q p e h) = ap (with_nul nul newline.«end») (silent q) ∙ (ap (λ n. with_nul n newline.«end» None) e ∙ ap Some (sym h))

  pub line_silent : IsSilent text before newline → line_says ≡ None
  line_silent q = ap (with_nul nul newline.«end») (silent q.open_tokens) ∙ ap (λ n. with_nul n newline.«end» None) q.clean

-- the end of the text
module _ (text : List ℕ) (tokens : List Item) where
  abbrev wait : Waiting
  wait = waiting_behind nothing tokens

  ends_by : (x : AreFaultless (outer text) tokens) → AreTokens tokens → (b c : Bool) → are_no x.leaves ≡ b → is_whole complete (inputs_of tokens) ≡ c
      → Ends text tokens (if b then Ok (Blank (length text)) else if c then Ok (Complete (tree_by (behind (outer text) tokens x.leaves x.bodies)) (length text)) else Err (Unclosed (length text)))
  ends_by x a true c e d = blank_text (none_told (outer text) tokens x e) refl
  ends_by x a false true e d = whole_text (some_told (outer text) tokens x e) _ (tree_alone (outer text) commands tokens x a d) refl
  ends_by x a false false e d = open_text (some_told (outer text) tokens x e) x (whole_not_derive (outer text) commands tokens d) refl

  ends_told : AreTokens tokens → (r : Result Judged PartFault) → JudgedSo (outer text) tokens r → Ends text tokens (at_end text r)
  ends_told a (Ok k) (x, is) =
      subst (λ j. Ends text tokens (at_end text (Ok j))) (sym is) (ends_by x a (are_no x.leaves) (is_whole complete (inputs_of tokens)) refl refl)
  ends_told a (Err f) h = faulty_text f h refl

  cut_told : (at : ℕ) (r : Result Judged PartFault) → JudgedSo (outer text) tokens r → FaultOr text tokens (cut_answer text tokens at) (at_cut text wait r at)
  cut_told at (Ok k) (x, is) = inr (x, ap (λ j. at_cut text wait (Ok j) at) is)
  cut_told at (Err f) h = inl (f, h, refl)

  abbrev last : Bool → Ending → Answer
  last e ending = at_last e text wait (judged (outer text) tokens) ending

  end_told : (e : Bool) → AreTokens tokens → (ending : Ending) → EndSays e text tokens ending (last e ending)
  end_told true a AtEnd = (at_end text (judged (outer text) tokens), ends_told a (judged (outer text) tokens) (judged_told (outer text) commands tokens), refl)
  end_told false a AtEnd = (at_end text (judged (outer text) tokens), ends_told a (judged (outer text) tokens) (judged_told (outer text) commands tokens), refl)
  end_told true a (Cut at) = (at_cut text wait (judged (outer text) tokens) at, cut_told at (judged (outer text) tokens) (judged_told (outer text) commands tokens), refl)
  end_told false a (Cut at) = refl

  -- and back
  last_whole : (j : Judged) (tree : Tree) → are_no j.leaves ≡ false → is_whole j.grammar j.tokens ≡ true → tree_by j ≡ tree
      → at_end text (Ok j) ≡ Ok (Complete tree (length text))
  last_whole j tree n w t = rw (n, w, t) refl

  last_open : (j : Judged) → are_no j.leaves ≡ false → is_whole j.grammar j.tokens ≡ false → at_end text (Ok j) ≡ Err (Unclosed (length text))
  last_open j n w = rw (n, w) refl

  last_of : (x : AreFaultless (outer text) tokens) → at_end text (judged (outer text) tokens) ≡ at_end text (Ok (behind (outer text) tokens x.leaves x.bodies))
  last_of x = ap (λ r. at_end text r) (faultless_judged (outer text) commands tokens x)

  ends_said : (answer : Answer) → Ends text tokens answer → at_end text (judged (outer text) tokens) ≡ answer
  ends_said answer (blank_text n h) = of_none tokens n ∙ sym h
    where
      of_none : (xs : List Item) → xs ≡ [] → at_end text (judged (outer text) xs) ≡ Ok (Blank (length text))
      of_none [] n = refl
      of_none (t ∷ xs) n = absurd (cc)
  ends_said answer (faulty_text f x h) = ap (λ r. at_end text r) (fault_judged (outer text) commands tokens f x) ∙ sym h
  ends_said answer (whole_text n tree a h) =
      last_of a.faultless
      ∙ (last_whole (behind (outer text) tokens a.faultless.leaves a.faultless.bodies) tree (some_leaves (outer text) tokens a.faultless n)
      (tree_whole (outer text) commands tokens [] tree a) (alone_gives (outer text) commands tokens tree a) ∙ sym h)
  ends_said answer (open_text n x d h) =
      last_of x
      ∙ (last_open (behind (outer text) tokens x.leaves x.bodies) (some_leaves (outer text) tokens x n) (derive_not_whole (outer text) commands tokens d) ∙ sym h)

  cut_said : (at : ℕ) (answer : Answer) → FaultOr text tokens (cut_answer text tokens at) answer → at_cut text wait (judged (outer text) tokens) at ≡ answer
  cut_said at answer (inl (f, x, h)) = ap (λ r. at_cut text wait r at) (fault_judged (outer text) commands tokens f x) ∙ sym h
  cut_said at answer (inr (x, h)) = ap (λ r. at_cut text wait r at) (faultless_judged (outer text) commands tokens x) ∙ sym h

  end_said : (e : Bool) (ending : Ending) (answer : Answer) → EndSays e text tokens ending answer → last e ending ≡ answer
  end_said true AtEnd answer (x, s, h) = ap (unless_nul (nul_in text) (length text)) (ends_said x s) ∙ sym h
  end_said false AtEnd answer (x, s, h) = ap (unless_nul (nul_in text) (length text)) (ends_said x s) ∙ sym h
  end_said true (Cut at) answer (x, s, h) = ap (unless_nul (nul_in text) (length text)) (cut_said at x s) ∙ sym h
  end_said false (Cut at) answer h = sym h

-- one token more
silent_push : (text : List ℕ) (start before : List Item) (t : Item) → AreSilent text start before → (is_newline t.token.kind ≡ true → IsSilent text (start ++ before) t)
    → AreSilent text start (before ++ t ∷ [])
silent_push text start [] t s h = ((λ l. subst (λ x. IsSilent text x t) (append-nil start) (h l)), tt)
silent_push text start (b ∷ before) t s h =
    (s.0, silent_push text (start ++ b ∷ []) before t s.1 (λ l. subst (λ x. IsSilent text x t) (sym (append_assoc start (b ∷ []) before)) (h l)))

tokens_push : (before : List Item) (t : Item) → AreTokens before → (t.token.kind ≡ TokenKind.End → ⊥) → AreTokens (before ++ t ∷ [])
tokens_push [] t a n = (n, tt)
tokens_push (b ∷ before) t a n = (a.0, tokens_push before t a.1 n)

module _ (e : Bool) (text : List ℕ) (ending : Ending) where
  abbrev Decides : List Item → Answer → Type 0
  Decides tokens answer = NewlineDecides text tokens answer ⊎ EndDecides e text tokens ending answer

  -- what is decided behind tokens
  abbrev from : List Item → List Item → Answer
  from before tokens = plain_first e text (standing (judged (outer text) before) (waiting_behind nothing before)) tokens ending

  abbrev goes : Bool → Option Answer → Answer → Answer
  goes b d later = unwrap_or (if b then d else None) later

  from_next : (before : List Item) (t : Item) (tokens : List Item)
      → from before (t ∷ tokens) ≡ goes (is_newline t.token.kind) (line_says text before t) (from (before ++ t ∷ []) tokens)
  from_next before t tokens =
      ap (λ later. goes (is_newline t.token.kind) (line_says text before t) later)
      (ap (λ w. plain_first e text (standing (and_then (judged (outer text) before) (plain_token text (waiting_behind nothing before) t)) w) tokens ending) (sym (waiting_push nothing before t))
      ∙ ap (λ r. plain_first e text (standing r (waiting_behind nothing (before ++ t ∷ []))) tokens ending) (sym (judged_push (outer text) before t)))

  sound_step : (before : List Item) (t : Item) (tokens : List Item) (later : Answer) (b : Bool) (d : Option Answer) → AreTokens before → AreSilent text [] before
      → is_newline t.token.kind ≡ b → line_says text before t ≡ d → (AreSilent text [] (before ++ t ∷ []) → Decides (before ++ t ∷ tokens) later)
      → Decides (before ++ t ∷ tokens) (goes b d later)
  sound_step before t tokens later false d a s l h more = more (silent_push text [] before t s (λ x. let z : true ≡ false = sym x ∙ l in absurd (cc)))
  sound_step before t tokens later true None a s l h more = more (silent_push text [] before t s (λ x. line_tells text before t a None h))
  sound_step before t tokens later true (Some answer) a s l h more =
      inl (record { before = before; newline = t; after = tokens; joined = refl; line = l; first = s; says = line_tells text before t a (Some answer) h })

  sound : (tokens before : List Item) → AreTokens before → AreTokens tokens → AreSilent text [] before → Decides (before ++ tokens) (from before tokens)
  sound [] before a n s =
      subst (λ x. Decides x (at_last e text (waiting_behind nothing before) (judged (outer text) before) ending)) (sym (append-nil before)) (inr (record { silent = s; says = end_told text before e a ending }))
  sound (t ∷ tokens) before a n s =
      subst (λ x. Decides (before ++ t ∷ tokens) x) (sym (from_next before t tokens))
      (sound_step before t tokens (from (before ++ t ∷ []) tokens) (is_newline t.token.kind) (line_says text before t) a s refl refl
      (λ x. subst (λ y. Decides y (from (before ++ t ∷ []) tokens)) (append_assoc before (t ∷ []) tokens) (sound tokens (before ++ t ∷ []) (tokens_push before t a n.0) n.1 x)))

  pass_step : (before : List Item) (t : Item) (later : Answer) (b : Bool) → is_newline t.token.kind ≡ b → (is_newline t.token.kind ≡ true → IsSilent text before t)
      → goes b (line_says text before t) later ≡ later
  pass_step before t later false l h = refl
  pass_step before t later true l h = ap (λ d. unwrap_or d later) (line_silent text before t (h l))

  walk : (middle before others : List Item) → AreSilent text before middle → from before (middle ++ others) ≡ from (before ++ middle) others
  walk [] before others s = ap (λ x. from x others) (sym (append-nil before))
  walk (t ∷ middle) before others s =
      from_next before t (middle ++ others)
      ∙ (pass_step before t (from (before ++ t ∷ []) (middle ++ others)) (is_newline t.token.kind) refl s.0
      ∙ (walk middle (before ++ t ∷ []) others s.1 ∙ ap (λ x. from x others) (append_assoc before (t ∷ []) middle)))

  at_line : (before : List Item) (t : Item) (later answer : Answer) → is_newline t.token.kind ≡ true → Says text before t answer
      → goes (is_newline t.token.kind) (line_says text before t) later ≡ answer
  at_line before t later answer l h =
      ap (λ b. goes b (line_says text before t) later) l ∙ ap (λ d. unwrap_or d later) (line_told text before t answer h)

  by_newline : (tokens : List Item) (answer : Answer) → NewlineDecides text tokens answer → from [] tokens ≡ answer
  by_newline tokens answer n =
      ap (λ x. from [] x) n.joined
      ∙ (walk n.before [] (n.newline ∷ n.after) n.first
      ∙ (from_next n.before n.newline n.after ∙ at_line n.before n.newline (from (n.before ++ n.newline ∷ []) n.after) answer n.line n.says))

  by_end : (tokens : List Item) (answer : Answer) → EndDecides e text tokens ending answer → from [] tokens ≡ answer
  by_end tokens answer n = ap (λ x. from [] x) (sym (append-nil tokens)) ∙ (walk tokens [] [] n.silent ∙ end_said text tokens e ending answer n.says)

  complete_for : (tokens : List Item) (answer : Answer) → Decides tokens answer → from [] tokens ≡ answer
  complete_for tokens answer (inl n) = by_newline tokens answer n
  complete_for tokens answer (inr n) = by_end tokens answer n

reading_plain : (e : Bool) (text : List ℕ) → reading no_aliases e text ≡ from e text (items_of e text).ending [] (items_of e text).items
unfolding reading
reading_plain e text = same_first e text (judged (outer text) []) nothing (items_of e text).items (items_of e text).ending

pub reading_defined : (e : Bool) (text : List ℕ) (answer : Answer) → (reading no_aliases e text ≡ answer) ↔ IsReading e text answer
reading_defined e text answer = (
  (λ h. subst (λ x. IsReading e text x) (sym (reading_plain e text) ∙ h) (sound e text (items_of e text).ending (items_of e text).items [] tt (tokens_of e text) tt)),
  (λ h. reading_plain e text ∙ complete_for e text (items_of e text).ending (items_of e text).items answer h),
)

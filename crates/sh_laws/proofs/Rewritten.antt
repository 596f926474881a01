-- Tokens that come of rewriting aliases, and what derivations say of them.
use Rattle.std.proofs.Common.{◌≡◌, inl, inr, ◌↔◌, ℕ, ◌≤◌, nat_lt, Bool, true, false, ◌&&◌, List, [], ◌∷◌, ◌++◌, Option, Some, None, is_some, Result, Ok, Err, refl, sym, ap, subst, ◌∙◌, append_assoc, if◌then◌else◌}
use Rattle.std.specs.Option.{unwrap_or}
use Rattle.std.proofs.lemmas.Bool.{and_from, ltb-true, ltb-false, lt-ltb, le-ltb, false_from_ne_true}
use Rattle.std.proofs.lemmas.List.{append-nil, map-append}
use Rattle.sh_grammar.specs.declared.Token.{Token as Input}
use Rattle.sh_grammar.specs.Computed.{is_prefix}
use Rattle.sh_grammar.specs.Derived.{tree_of}
use Rattle.sh_grammar.specs.Grammar.{Tree}
use Rattle.sh_grammar.specs.Tabulation.{Tabulation}
use Rattle.sh_grammar.specs.Text.{IsText, IsTreeOf}
use Rattle.sh_grammar.proofs.Computing.{prefix_text, whole_text}
use Rattle.sh_grammar.proofs.Deriving.{tree_computed}
use Rattle.sh_syntax.specs.declared.tree.CompoundList.{CompoundList}
use Rattle.sh_syntax.specs.declared.tree.Parts.{Parts}
use Rattle.sh_parse_actions.specs.declared.leaf.Leaf.{Leaf}
use Rattle.sh_parse_actions.specs.declared.leaf.Leaf.TheVariants as leaf
use Rattle.sh_parse_actions.specs.Forms.{compound_list}
use Rattle.sh_parse_words.specs.Fitting.{FittingHaveSyntax, all_fit, fits}
use Rattle.sh_parse_words.specs.Meaning.{syntax_of}
use Rattle.sh_parse_words.specs.declared.fault.PartFault.{PartFault}
use Rattle.sh_parse_words.specs.declared.fault.PartFault.TheVariants as fault
use Rattle.sh_parse_words.proofs.Fitted.{command_syntax, substitution_syntax}
use Rattle.sh_parse_documents.specs.declared.item.Item.{Item}
use Rattle.sh_parse_documents.specs.Waiting.{Waiting}
use Rattle.sh_parse_leaves.specs.Inputs.{input_of}
use Rattle.sh_parse_leaves.specs.Results.{and_then}
use Rattle.sh_parse_leaves.specs.Words.{within}
use Rattle.sh_parse_leaves.proofs.Fitting.{leaf_fits}
use Rattle.sh_aliases.specs.Aliases.{AliasTable}
use Rattle.sh_parse_commands.specs.Judging.{IsShell, Judged, none_of, taken_item, with_item, are_whole, with_body, bodies_behind, with_bodies, tree_by}
use Rattle.sh_parse_commands.specs.Programs.{inside_of}
use Rattle.sh_parse_commands.specs.Replacing.{Origin, with_tokens}
use Rattle.sh_parse_commands.specs.Rewriting.{IsRewritten, Sourced, plainly, sourced, told_at, with_sourced}
use Rattle.sh_parse_commands.proofs.Rewriting.{reading_rewrites}
use Rattle.sh_parse_commands.proofs.Shells.{shell_predictive}
use Rattle.sh_laws.specs.Rewritten.{Judge, inputs_there, HaveNoEnd, ArePrefix, opened, leaf_at, bodies_at, IsTaken, told_at_word, HasFault, refused, too_deep, in_word, in_body, AreTaken, AreFaultless, FirstFault, AreJudged}

-- tokens that are taken, with these leaves and bodies
abbrev behind : Judge → List Sourced → List Leaf → List Parts → Judged
behind g ts ls bs = record { grammar = g.grammar; tokens = inputs_there ts; leaves = ls; bodies = bs; is_behind_blank = false }

is_prefix_text : (g : Judge) (ts : List Sourced) → IsShell g.grammar → is_prefix g.grammar (inputs_there ts) ≡ true → ArePrefix g ts
is_prefix_text g ts s h = (prefix_text g.grammar (shell_predictive g.grammar s) (inputs_there ts)).0 h

prefix_is_true : (g : Judge) (ts : List Sourced) → IsShell g.grammar → ArePrefix g ts → is_prefix g.grammar (inputs_there ts) ≡ true
prefix_is_true g ts s h = (prefix_text g.grammar (shell_predictive g.grammar s) (inputs_there ts)).1 h

not_prefix_text : (g : Judge) (ts : List Sourced) → IsShell g.grammar → is_prefix g.grammar (inputs_there ts) ≡ false → ArePrefix g ts → ⊥
not_prefix_text g ts s h f = let t : is_prefix g.grammar (inputs_there ts) ≡ true = prefix_is_true g ts s f in cc

prefix_is_false : (g : Judge) (ts : List Sourced) → IsShell g.grammar → (ArePrefix g ts → ⊥) → is_prefix g.grammar (inputs_there ts) ≡ false
prefix_is_false g ts s h = false_from_ne_true (is_prefix g.grammar (inputs_there ts)) (λ x. h (is_prefix_text g ts s x))

-- ---- one token more
abbrev made : (Leaf → List Parts → Judged) → Result Leaf PartFault → Result (List Parts) PartFault → Result Judged PartFault
made make o p = and_then o (λ l. and_then p (λ others. Ok (make l others)))

abbrev answer : (Leaf → List Parts → Judged) → PartFault → PartFault → Bool → Bool → Result Leaf PartFault → Result (List Parts) PartFault → Result Judged PartFault
answer make deep wrong b c o p = if b then if c then Err deep else made make o p else Err wrong

made_ok : (make : Leaf → List Parts → Judged) (deep wrong : PartFault) (b c : Bool) (o : Result Leaf PartFault) (p : Result (List Parts) PartFault) (l : Leaf) (here : List Parts)
    → b ≡ true → c ≡ false → o ≡ Ok l → p ≡ Ok here → answer make deep wrong b c o p ≡ Ok (make l here)
made_ok make deep wrong b c o p l here eb ec eo ep = rw (eb, ec, eo, ep) refl

made_wrong : (make : Leaf → List Parts → Judged) (deep wrong : PartFault) (b c : Bool) (o : Result Leaf PartFault) (p : Result (List Parts) PartFault)
    → b ≡ false → answer make deep wrong b c o p ≡ Err wrong
made_wrong make deep wrong b c o p eb = rw eb refl

made_deep : (make : Leaf → List Parts → Judged) (deep wrong : PartFault) (b c : Bool) (o : Result Leaf PartFault) (p : Result (List Parts) PartFault)
    → b ≡ true → c ≡ true → answer make deep wrong b c o p ≡ Err deep
made_deep make deep wrong b c o p eb ec = rw (eb, ec) refl

made_no_leaf : (make : Leaf → List Parts → Judged) (deep wrong : PartFault) (b c : Bool) (o : Result Leaf PartFault) (p : Result (List Parts) PartFault) (f : PartFault)
    → b ≡ true → c ≡ false → o ≡ Err f → answer make deep wrong b c o p ≡ Err f
made_no_leaf make deep wrong b c o p f eb ec eo = rw (eb, ec, eo) refl

made_no_bodies : (make : Leaf → List Parts → Judged) (deep wrong : PartFault) (b c : Bool) (o : Result Leaf PartFault) (p : Result (List Parts) PartFault) (l : Leaf) (f : PartFault)
    → b ≡ true → c ≡ false → o ≡ Ok l → p ≡ Err f → answer make deep wrong b c o p ≡ Err f
made_no_bodies make deep wrong b c o p l f eb ec eo ep = rw (eb, ec, eo, ep) refl

-- what is told of a fault, and of a token that is taken
told_ok : (place : Option ℕ) (k : Judged) → told_at place (Ok k) ≡ Ok k
told_ok None k = refl
told_ok (Some n) k = refl

told_err : {A : Type 0} (place : Option ℕ) (f : PartFault) → told_at {A = A} place (Err f) ≡ Err (told_at_word place f)
told_err None f = refl
told_err (Some n) f = refl

-- a token behind others that are taken
module _ (g : Judge) (before : List Sourced) (t : Sourced) (ls : List Leaf) (bs : List Parts) where
  abbrev make : Leaf → List Parts → Judged
  make l here = behind g (before ++ t ∷ []) (ls ++ l ∷ []) (bs ++ here)

  abbrev one : Result Judged PartFault
  one = with_item (within (g.inside.read t.origin.from) t.origin.left t.origin.text) t.due t.item (behind g before ls bs)

  abbrev judged_next : Result Judged PartFault
  judged_next = told_at t.place one

  abbrev answered : Bool → Bool → Result Leaf PartFault → Result (List Parts) PartFault → Result Judged PartFault
  answered b c o p = answer make (fault.TooDeep t.item.token.span.start) (fault.Refused t.item.token.span.start) b c o p

  abbrev prefix : Bool
  prefix = is_prefix g.grammar (inputs_there (before ++ t ∷ []))

  abbrev deep : Bool
  deep = nat_lt t.origin.left (opened g (before ++ t ∷ []))

  abbrev by_parts : Result Judged PartFault
  by_parts = answered prefix deep (leaf_at g before t) (bodies_at g before t)

  one_is : one ≡ by_parts
  unfolding with_item
  one_is =
      ap (λ us. taken_item (within (g.inside.read t.origin.from) t.origin.left t.origin.text) t.due t.item (record { grammar = g.grammar; tokens = us; leaves = ls; bodies = bs; is_behind_blank = false }))
      (sym (map-append (λ s. input_of s.item) before (t ∷ [])))

  next_ok : (k : Judged) → one ≡ Ok k → judged_next ≡ Ok k
  next_ok k e = ap (λ r. told_at t.place r) e ∙ told_ok t.place k

  next_err : (f : PartFault) → one ≡ Err f → judged_next ≡ Err (told_at_word t.place f)
  next_err f e = ap (λ r. told_at t.place r) e ∙ told_err t.place f

  record Taken (k : Judged) : Type 0 where
    pub leaf : Leaf
    pub here : List Parts
    pub taken : IsTaken g before t leaf here
    pub is : k ≡ make leaf here

  abbrev Told : Result Judged PartFault → Type 0
  Told (Ok k) = Taken k
  Told (Err f) = HasFault g before t f

  told_taken : (k : Judged) → Taken k → Told (told_at t.place (Ok k))
  told_taken k h = subst (λ r. Told r) (sym (told_ok t.place k)) h

  told_fault : (f : PartFault) → HasFault g before t (told_at_word t.place f) → Told (told_at t.place (Err f))
  told_fault f h = subst (λ r. Told r) (sym (told_err t.place f)) h

  parts_told : ArePrefix g (before ++ t ∷ []) → opened g (before ++ t ∷ []) ≤ t.origin.left → (o : Result Leaf PartFault) (p : Result (List Parts) PartFault)
      → leaf_at g before t ≡ o → bodies_at g before t ≡ p → Told (told_at t.place (made make o p))
  parts_told f l (Ok leaf) (Ok here) e d =
      told_taken (make leaf here) (record { leaf = leaf; here = here; taken = record { prefix = f; levels = l; leaf = e; bodies = d }; is = refl })
  parts_told f l (Ok leaf) (Err wrong) e d = told_fault wrong (in_body f l leaf e wrong d refl)
  parts_told f l (Err wrong) p e d = told_fault wrong (in_word f l wrong e refl)

  levels_told : ArePrefix g (before ++ t ∷ []) → (c : Bool) → deep ≡ c → Told (told_at t.place (answered true c (leaf_at g before t) (bodies_at g before t)))
  levels_told f true e =
      told_fault (fault.TooDeep t.item.token.span.start) (too_deep f (ltb-true t.origin.left (opened g (before ++ t ∷ [])) e) refl)
  levels_told f false e = parts_told f (ltb-false t.origin.left (opened g (before ++ t ∷ [])) e) (leaf_at g before t) (bodies_at g before t) refl refl

  prefix_told : IsShell g.grammar → (b : Bool) → prefix ≡ b → Told (told_at t.place (answered b deep (leaf_at g before t) (bodies_at g before t)))
  prefix_told s true e = levels_told (is_prefix_text g (before ++ t ∷ []) s e) deep refl
  prefix_told s false e = told_fault (fault.Refused t.item.token.span.start) (refused (not_prefix_text g (before ++ t ∷ []) s e) refl)

  next_told : IsShell g.grammar → Told judged_next
  next_told s = subst (λ r. Told (told_at t.place r)) (sym one_is) (prefix_told s prefix refl)

  next_taken : IsShell g.grammar → (l : Leaf) (here : List Parts) → IsTaken g before t l here → judged_next ≡ Ok (make l here)
  next_taken s l here h =
      next_ok (make l here)
      (one_is ∙ made_ok make _ _ prefix deep (leaf_at g before t) (bodies_at g before t) l here (prefix_is_true g (before ++ t ∷ []) s h.prefix)
      (le-ltb t.origin.left (opened g (before ++ t ∷ [])) h.levels) h.leaf h.bodies)

  next_fault : IsShell g.grammar → (f : PartFault) → HasFault g before t f → judged_next ≡ Err f
  next_fault s f (refused n e) =
      next_err _ (one_is ∙ made_wrong make _ _ prefix deep (leaf_at g before t) (bodies_at g before t) (prefix_is_false g (before ++ t ∷ []) s n)) ∙ ap Err (sym e)
  next_fault s f (too_deep h l e) =
      next_err _ (one_is ∙ made_deep make _ _ prefix deep (leaf_at g before t) (bodies_at g before t) (prefix_is_true g (before ++ t ∷ []) s h)
      (lt-ltb t.origin.left (opened g (before ++ t ∷ [])) l)) ∙ ap Err (sym e)
  next_fault s f (in_word h l w d e) =
      next_err w (one_is ∙ made_no_leaf make _ _ prefix deep (leaf_at g before t) (bodies_at g before t) w (prefix_is_true g (before ++ t ∷ []) s h)
      (le-ltb t.origin.left (opened g (before ++ t ∷ [])) l) d) ∙ ap Err (sym e)
  next_fault s f (in_body h l leaf d w k e) =
      next_err w (one_is ∙ made_no_bodies make _ _ prefix deep (leaf_at g before t) (bodies_at g before t) leaf w (prefix_is_true g (before ++ t ∷ []) s h)
      (le-ltb t.origin.left (opened g (before ++ t ∷ [])) l) d k) ∙ ap Err (sym e)

-- ---- all of them
abbrev further : Judge → List Sourced → Judged → Result Judged PartFault
further g ts j = with_sourced g.inside ts j

same_behind : (g : Judge) (xs ys : List Sourced) (ls ms : List Leaf) (bs cs : List Parts) → xs ≡ ys → ls ≡ ms → bs ≡ cs → behind g xs ls bs ≡ behind g ys ms cs
same_behind g xs ys ls ms bs cs p q r = rw (p, q, r) refl

record AllTaken (g : Judge) (before ts : List Sourced) (ls : List Leaf) (bs : List Parts) (k : Judged) : Type 0 where
  pub leaves : List Leaf
  pub bodies : List Parts
  pub taken : AreTaken g before ts leaves bodies
  pub is : k ≡ behind g (before ++ ts) (ls ++ leaves) (bs ++ bodies)

record FaultBehind (g : Judge) (before ts : List Sourced) (f : PartFault) : Type 0 where
  pub middle : List Sourced
  pub token : Sourced
  pub after : List Sourced
  pub leaves : List Leaf
  pub bodies : List Parts
  pub joined : ts ≡ middle ++ token ∷ after
  pub taken : AreTaken g before middle leaves bodies
  pub fault : HasFault g (before ++ middle) token f

abbrev AllTold : Judge → List Sourced → List Sourced → List Leaf → List Parts → Result Judged PartFault → Type 0
AllTold g before ts ls bs (Ok k) = AllTaken g before ts ls bs k
AllTold g before ts ls bs (Err f) = FaultBehind g before ts f

all_push : (g : Judge) (before : List Sourced) (t : Sourced) (ts : List Sourced) (ls : List Leaf) (bs : List Parts) (l : Leaf) (here : List Parts) → IsTaken g before t l here
    → (r : Result Judged PartFault) → AllTold g (before ++ t ∷ []) ts (ls ++ l ∷ []) (bs ++ here) r → AllTold g before (t ∷ ts) ls bs r
all_push g before t ts ls bs l here h (Ok k) a =
    record {
      leaves = l ∷ a.leaves;
      bodies = here ++ a.bodies;
      taken = (here, a.bodies, h, a.taken, refl);
      is =
          a.is ∙ same_behind g ((before ++ t ∷ []) ++ ts) (before ++ t ∷ ts) ((ls ++ l ∷ []) ++ a.leaves) (ls ++ l ∷ a.leaves) ((bs ++ here) ++ a.bodies)
          (bs ++ (here ++ a.bodies)) (append_assoc before (t ∷ []) ts) (append_assoc ls (l ∷ []) a.leaves) (append_assoc bs here a.bodies);
    }
all_push g before t ts ls bs l here h (Err f) a =
    record {
      middle = t ∷ a.middle;
      token = a.token;
      after = a.after;
      leaves = l ∷ a.leaves;
      bodies = here ++ a.bodies;
      joined = ap (λ xs. t ∷ xs) a.joined;
      taken = (here, a.bodies, h, a.taken, refl);
      fault = subst (λ xs. HasFault g xs a.token f) (append_assoc before (t ∷ []) a.middle) a.fault;
    }

all_next : (g : Judge) (before : List Sourced) (t : Sourced) (ts : List Sourced) (ls : List Leaf) (bs : List Parts) (o : Result Judged PartFault) → Told g before t ls bs o
    → ((l : Leaf) (here : List Parts) → AllTold g (before ++ t ∷ []) ts (ls ++ l ∷ []) (bs ++ here) (further g ts (behind g (before ++ t ∷ []) (ls ++ l ∷ []) (bs ++ here))))
    → AllTold g before (t ∷ ts) ls bs (and_then o (λ k. further g ts k))
all_next g before t ts ls bs (Ok k) h more =
    subst (λ j. AllTold g before (t ∷ ts) ls bs (further g ts j)) (sym h.is)
    (all_push g before t ts ls bs h.leaf h.here h.taken _ (more h.leaf h.here))
all_next g before t ts ls bs (Err f) h more =
    record {
      middle = [];
      token = t;
      after = ts;
      leaves = [];
      bodies = [];
      joined = refl;
      taken = refl;
      fault = subst (λ xs. HasFault g xs t f) (sym (append-nil before)) h;
    }

all_told : (g : Judge) → IsShell g.grammar → (ts before : List Sourced) (ls : List Leaf) (bs : List Parts) → AllTold g before ts ls bs (further g ts (behind g before ls bs))
all_told g s [] before ls bs =
    record {
      leaves = [];
      bodies = [];
      taken = refl;
      is = same_behind g before (before ++ []) ls (ls ++ []) bs (bs ++ []) (sym (append-nil before)) (sym (append-nil ls)) (sym (append-nil bs));
    }
all_told g s (t ∷ ts) before ls bs =
    all_next g before t ts ls bs (judged_next g before t ls bs) (next_told g before t ls bs s) (λ l here. all_told g s ts (before ++ t ∷ []) (ls ++ l ∷ []) (bs ++ here))

-- what is taken is judged so
all_taken : (g : Judge) → IsShell g.grammar → (ts before : List Sourced) (ls leaves : List Leaf) (bs bodies : List Parts) → AreTaken g before ts leaves bodies
    → further g ts (behind g before ls bs) ≡ Ok (behind g (before ++ ts) (ls ++ leaves) (bs ++ bodies))
all_taken g s [] before ls [] bs bodies h =
    ap Ok (same_behind g before (before ++ []) ls (ls ++ []) bs (bs ++ bodies) (sym (append-nil before)) (sym (append-nil ls)) (sym (ap (λ x. bs ++ x) h ∙ append-nil bs)))
all_taken g s [] before ls (l ∷ leaves) bs bodies h = absurd h
all_taken g s (t ∷ ts) before ls [] bs bodies h = absurd h
all_taken g s (t ∷ ts) before ls (l ∷ leaves) bs bodies (here, others, one, rest, is) =
    ap (λ o. and_then o (λ k. further g ts k)) (next_taken g before t ls bs s l here one)
    ∙ (all_taken g s ts (before ++ t ∷ []) (ls ++ l ∷ []) leaves (bs ++ here) others rest
    ∙ ap Ok (same_behind g ((before ++ t ∷ []) ++ ts) (before ++ t ∷ ts) ((ls ++ l ∷ []) ++ leaves) (ls ++ l ∷ leaves) ((bs ++ here) ++ others) (bs ++ bodies)
    (append_assoc before (t ∷ []) ts) (append_assoc ls (l ∷ []) leaves) (append_assoc bs here others ∙ ap (λ x. bs ++ x) (sym is))))

from_start : (g : Judge) (ts : List Sourced) (r : Result Judged PartFault) → AllTold g [] ts [] [] r → AreJudged g ts r
from_start g ts (Ok k) a = record { leaves = a.leaves; bodies = a.bodies; taken = a.taken; judged = a.is }
from_start g ts (Err f) a =
    record {
      before = a.middle;
      token = a.token;
      after = a.after;
      joined = a.joined;
      front = behind g a.middle a.leaves a.bodies;
      faultless = record { leaves = a.leaves; bodies = a.bodies; taken = a.taken; judged = refl };
      fault = a.fault;
    }

judged_told : (g : Judge) → IsShell g.grammar → (ts : List Sourced) → AreJudged g ts (further g ts (none_of g.grammar))
judged_told g s ts = from_start g ts (further g ts (none_of g.grammar)) (all_told g s ts [] [] [])

faultless_judged : (g : Judge) → IsShell g.grammar → (ts : List Sourced) (j : Judged) → AreFaultless g ts j → further g ts (none_of g.grammar) ≡ Ok j
faultless_judged g s ts j x = all_taken g s ts [] [] x.leaves [] x.bodies x.taken ∙ ap Ok (sym x.judged)

-- tokens behind others
then_then : (o : Result Judged PartFault) (f h : Judged → Result Judged PartFault) → and_then (and_then o f) h ≡ and_then o (λ k. and_then (f k) h)
then_then (Ok k) f h = refl
then_then (Err x) f h = refl

then_same : (o : Result Judged PartFault) (f h : Judged → Result Judged PartFault) → ((k : Judged) → f k ≡ h k) → and_then o f ≡ and_then o h
then_same (Ok k) f h e = e k
then_same (Err x) f h e = refl

with_more : (g : Judge) (xs ys : List Sourced) (j : Judged) → further g (xs ++ ys) j ≡ and_then (further g xs j) (λ k. further g ys k)
with_more g [] ys j = refl
with_more g (x ∷ xs) ys j =
    let r = told_at x.place (with_item (within (g.inside.read x.origin.from) x.origin.left x.origin.text) x.due x.item j) in
    then_same r (λ k. further g (xs ++ ys) k) (λ k. and_then (further g xs k) (λ i. further g ys i)) (λ k. with_more g xs ys k)
    ∙ sym (then_then r (λ k. further g xs k) (λ i. further g ys i))

fault_judged : (g : Judge) → IsShell g.grammar → (ts : List Sourced) (f : PartFault) → FirstFault g ts f → further g ts (none_of g.grammar) ≡ Err f
fault_judged g s ts f x =
    let front : further g x.before (none_of g.grammar) ≡ Ok (behind g x.before x.faultless.leaves x.faultless.bodies) =
    all_taken g s x.before [] [] x.faultless.leaves [] x.faultless.bodies x.faultless.taken in
    ap (λ xs. further g xs (none_of g.grammar)) x.joined
    ∙ (with_more g x.before (x.token ∷ x.after) (none_of g.grammar)
    ∙ (ap (λ o. and_then o (λ k. further g (x.token ∷ x.after) k)) front
    ∙ ap (λ o. and_then o (λ k. further g x.after k)) (next_fault g x.before x.token x.faultless.leaves x.faultless.bodies s f x.fault)))

judged_is : (g : Judge) → IsShell g.grammar → (ts : List Sourced) (r : Result Judged PartFault) → AreJudged g ts r → further g ts (none_of g.grammar) ≡ r
judged_is g s ts (Ok j) h = faultless_judged g s ts j h
judged_is g s ts (Err f) h = fault_judged g s ts f h

-- nothing is awaited behind tokens that were judged so
plain_judged : (g : Judge) (ts : List Sourced) (r : Result Judged PartFault) → AreJudged g ts r → plainly r ≡ r
plain_judged g ts (Ok j) h =
    let flat : Judged → Result Judged PartFault = λ k. Ok (record k { is_behind_blank = false }) in ap flat h.judged ∙ ap Ok (sym h.judged)
plain_judged g ts (Err f) h = refl

-- ---- with aliases
abbrev by : AliasTable → Tabulation → Judge
by table grammar = record { grammar = grammar; inside = inside_of table }

pub rewritten_judged : (table : AliasTable) (grammar : Tabulation) → IsShell grammar → (o : Origin) (w : Waiting) (tokens : List Item) (ts : List Sourced)
    → IsRewritten table grammar (sourced o None w tokens) ts → (r : Result Judged PartFault)
    → (plainly (with_tokens table (inside_of table) o w tokens (none_of grammar)) ≡ r) ↔ AreJudged (by table grammar) ts r
rewritten_judged table grammar s o w tokens ts h r =
    let told = judged_told (by table grammar) s ts in
    let same : plainly (with_tokens table (inside_of table) o w tokens (none_of grammar)) ≡ with_sourced (inside_of table) ts (none_of grammar) =
    reading_rewrites table grammar o w tokens ts h ∙ plain_judged (by table grammar) ts (with_sourced (inside_of table) ts (none_of grammar)) told in
    (λ e. subst (λ x. AreJudged (by table grammar) ts x) (sym same ∙ e) told, λ j. same ∙ judged_is (by table grammar) s ts r j)

-- ---- the tree
pub whole_is_derived : (j : Judged) → IsShell j.grammar → (are_whole j ≡ true) ↔ IsText j.grammar j.tokens
whole_is_derived j s = whole_text j.grammar (shell_predictive j.grammar s) j.tokens

taken_fit : (g : Judge) (before ts : List Sourced) (ls : List Leaf) (bs : List Parts) → AreTaken g before ts ls bs → HaveNoEnd ts → all_fit (inputs_there ts) ls ≡ true
taken_fit g before [] [] bs h n = refl
taken_fit g before [] (l ∷ ls) bs h n = absurd h
taken_fit g before (t ∷ ts) [] bs h n = absurd h
taken_fit g before (t ∷ ts) (l ∷ ls) bs (here, others, one, rest, is) n =
    and_from (fits (input_of t.item).class l) (all_fit (inputs_there ts) ls) (leaf_fits _ _ t.origin.text t.item.token.kind t.item.token.span l n.0 one.leaf)
    (taken_fit g (before ++ t ∷ []) ts ls others rest n.1)

body_fits : (number : ℕ) (l : Leaf) (bs : List Parts) → fits number l ≡ fits number (with_body l bs)
body_fits number leaf.Operator bs = refl
body_fits number (leaf.Redirection operator) bs = refl
body_fits number (leaf.HereDocument operator body) [] = refl
body_fits number (leaf.HereDocument operator body) (b ∷ bs) = refl
body_fits number (leaf.Number digits) bs = refl
body_fits number (leaf.Word word) bs = refl
body_fits number (leaf.Name word name) bs = refl
body_fits number (leaf.Assignment word name parts) bs = refl

both : (a b : Bool) → (a && b) ≡ true → (a ≡ true) × (b ≡ true)
both true b e = (refl, e)
both false b e = absurd (cc)

filled_fit : (us : List Input) (ls : List Leaf) (bs : List Parts) → all_fit us ls ≡ true → all_fit us (with_bodies ls bs) ≡ true
filled_fit [] [] bs h = refl
filled_fit [] (l ∷ ls) bs h = absurd (cc)
filled_fit (u ∷ us) [] bs h = absurd (cc)
filled_fit (u ∷ us) (l ∷ ls) bs h =
    let p = both (fits u.class l) (all_fit us ls) h in
    and_from (fits u.class (with_body l bs)) (all_fit us (with_bodies ls (bodies_behind l bs))) (sym (body_fits u.class l bs) ∙ p.0) (filled_fit us ls (bodies_behind l bs) p.1)

shell_syntax : (d : Tabulation) → IsShell d → FittingHaveSyntax d
shell_syntax d (inl e) = subst (λ x. FittingHaveSyntax x) (sym e) command_syntax
shell_syntax d (inr e) = subst (λ x. FittingHaveSyntax x) (sym e) substitution_syntax

some_given : (o : Option CompoundList) (c : CompoundList) → is_some o ≡ true → o ≡ Some (unwrap_or o c)
some_given None c h = absurd (cc)
some_given (Some x) c h = refl

by_tree : (d : Tabulation) → IsShell d → (us : List Input) (tree : Tree) (ls : List Leaf) → IsTreeOf d us tree → unwrap_or (syntax_of tree ls) (compound_list []) ≡ unwrap_or (syntax_of (tree_of d us) ls) (compound_list [])
by_tree d s us tree ls h = ap (λ x. unwrap_or (syntax_of x ls) (compound_list [])) (sym (tree_computed d (shell_predictive d s) us tree h))

tree_behind : (g : Judge) → IsShell g.grammar → (ts : List Sourced) (ls : List Leaf) (bs : List Parts) → AreTaken g [] ts ls bs → HaveNoEnd ts
    → (tree : Tree) → IsTreeOf g.grammar (inputs_there ts) tree → (bodies : List Parts) → syntax_of tree (with_bodies ls bodies) ≡ Some (tree_by (behind g ts ls bodies))
unfolding tree_by
tree_behind g s ts ls bs h n tree d bodies =
    some_given (syntax_of tree (with_bodies ls bodies)) (compound_list [])
    (shell_syntax g.grammar s (inputs_there ts) tree (with_bodies ls bodies) d (filled_fit (inputs_there ts) ls bodies (taken_fit g [] ts ls bs h n)))
    ∙ ap Some (by_tree g.grammar s (inputs_there ts) tree (with_bodies ls bodies) d)

pub faultless_tree : (g : Judge) → IsShell g.grammar → (ts : List Sourced) (j : Judged) → AreFaultless g ts j → HaveNoEnd ts
    → (tree : Tree) → IsTreeOf g.grammar (inputs_there ts) tree → (bodies : List Parts) → syntax_of tree (with_bodies j.leaves bodies) ≡ Some (tree_by (record j { bodies = bodies }))
faultless_tree g s ts j x n tree d bodies =
    ap (λ k. syntax_of tree (with_bodies k.leaves bodies)) x.judged
    ∙ (tree_behind g s ts x.leaves x.bodies x.taken n tree d bodies ∙ ap (λ k. Some (tree_by (record k { bodies = bodies }))) (sym x.judged))

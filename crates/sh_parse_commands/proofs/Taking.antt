-- Tokens judged one after another, and what derivations say of them.
use Rattle.std.proofs.Common.{◌≡◌, ◌≤◌, nat_lt, Bool, true, false, List, [], ◌∷◌, ◌++◌, Result, Ok, Err, refl, sym, ap, subst, ◌∙◌, if◌then◌else◌}
use Rattle.std.proofs.lemmas.Bool.{ltb-true, ltb-false, lt-ltb, le-ltb, false_from_ne_true}
use Rattle.std.proofs.lemmas.List.{map-append}
use Rattle.sh_grammar.specs.Computed.{is_prefix}
use Rattle.sh_grammar.proofs.Computing.{prefix_text}
use Rattle.sh_syntax.specs.declared.tree.Parts.{Parts}
use Rattle.sh_parse_actions.specs.declared.leaf.Leaf.{Leaf}
use Rattle.sh_parse_documents.specs.declared.item.Item.{Item}
use Rattle.sh_parse_documents.specs.Waiting.{nothing, due_at}
use Rattle.sh_parse_words.specs.declared.fault.PartFault.{PartFault}
use Rattle.sh_parse_words.specs.declared.fault.PartFault.TheVariants as fault
use Rattle.sh_parse_leaves.specs.Inputs.{input_of, inputs_of}
use Rattle.sh_parse_leaves.specs.Results.{and_then}
use Rattle.sh_parse_leaves.specs.Words.{within}
use Rattle.sh_parse_commands.specs.Judging.{IsShell, Judged, taken_item, with_item}
use Rattle.sh_parse_documents.specs.Stream.{waiting_behind}
use Rattle.sh_parse_commands.specs.Defined.{Judge, ArePrefix, opened, leaf_at, bodies_at, IsTaken, HasFault, refused, too_deep, in_word, in_body}
use Rattle.sh_parse_commands.proofs.Shells.{shell_predictive}

-- tokens that are taken, with these leaves and bodies
abbrev pub behind : Judge → List Item → List Leaf → List Parts → Judged
behind g tokens ls bs = record { grammar = g.grammar; tokens = inputs_of tokens; leaves = ls; bodies = bs; is_behind_blank = false }

is_prefix_text : (g : Judge) (tokens : List Item) → IsShell g.grammar → is_prefix g.grammar (inputs_of tokens) ≡ true → ArePrefix g tokens
is_prefix_text g tokens s h = (prefix_text g.grammar (shell_predictive g.grammar s) (inputs_of tokens)).0 h

prefix_is_true : (g : Judge) (tokens : List Item) → IsShell g.grammar → ArePrefix g tokens → is_prefix g.grammar (inputs_of tokens) ≡ true
prefix_is_true g tokens s h = (prefix_text g.grammar (shell_predictive g.grammar s) (inputs_of tokens)).1 h

not_prefix_text : (g : Judge) (tokens : List Item) → IsShell g.grammar → is_prefix g.grammar (inputs_of tokens) ≡ false → ArePrefix g tokens → ⊥
not_prefix_text g tokens s h f = let t : is_prefix g.grammar (inputs_of tokens) ≡ true = prefix_is_true g tokens s f in cc

prefix_is_false : (g : Judge) (tokens : List Item) → IsShell g.grammar → (ArePrefix g tokens → ⊥) → is_prefix g.grammar (inputs_of tokens) ≡ false
prefix_is_false g tokens s h = false_from_ne_true (is_prefix g.grammar (inputs_of tokens)) (λ x. h (is_prefix_text g tokens s x))

-- one token more
abbrev made : (Leaf → List Parts → Judged) → Result Leaf PartFault → Result (List Parts) PartFault → Result Judged PartFault
made make o p = and_then o (λ l. and_then p (λ others. Ok (make l others)))

abbrev answer : (Leaf → List Parts → Judged) → PartFault → PartFault → Bool → Bool → Result Leaf PartFault → Result (List Parts) PartFault → Result Judged PartFault
answer make deep wrong b c o p = if b then if c then Err deep else made make o p else Err wrong

made_ok : (make : Leaf → List Parts → Judged) (deep wrong : PartFault) (b c : Bool) (o : Result Leaf PartFault) (p : Result (List Parts) PartFault) (l : Leaf) (here : List Parts)
    → b ≡ true → c ≡ false → o ≡ Ok l → p ≡ Ok here → answer make deep wrong b c o p ≡ Ok (make l here)
made_ok make deep wrong b c o p l here eb ec eo ep = rw (eb, ec, eo, ep) refl

made_wrong : (make : Leaf → List Parts → Judged) (deep wrong : PartFault) (b c : Bool) (o : Result Leaf PartFault) (p : Result (List Parts) PartFault)
    → b ≡ false → answer make deep wrong b c o p ≡ Err wrong
made_wrong make deep wrong b c o p eb = rw eb refl

made_deep : (make : Leaf → List Parts → Judged) (deep wrong : PartFault) (b c : Bool) (o : Result Leaf PartFault) (p : Result (List Parts) PartFault)
    → b ≡ true → c ≡ true → answer make deep wrong b c o p ≡ Err deep
made_deep make deep wrong b c o p eb ec = rw (eb, ec) refl

made_no_leaf : (make : Leaf → List Parts → Judged) (deep wrong : PartFault) (b c : Bool) (o : Result Leaf PartFault) (p : Result (List Parts) PartFault) (f : PartFault)
    → b ≡ true → c ≡ false → o ≡ Err f → answer make deep wrong b c o p ≡ Err f
made_no_leaf make deep wrong b c o p f eb ec eo = rw (eb, ec, eo) refl

made_no_bodies : (make : Leaf → List Parts → Judged) (deep wrong : PartFault) (b c : Bool) (o : Result Leaf PartFault) (p : Result (List Parts) PartFault) (l : Leaf) (f : PartFault)
    → b ≡ true → c ≡ false → o ≡ Ok l → p ≡ Err f → answer make deep wrong b c o p ≡ Err f
made_no_bodies make deep wrong b c o p l f eb ec eo ep = rw (eb, ec, eo, ep) refl

-- a token behind others that are taken
module _ (g : Judge) (before : List Item) (t : Item) (ls : List Leaf) (bs : List Parts) where
  abbrev make : Leaf → List Parts → Judged
  make l here = behind g (before ++ t ∷ []) (ls ++ l ∷ []) (bs ++ here)

  abbrev pub judged_next : Result Judged PartFault
  judged_next = with_item (within g.read g.left g.text) (due_at t.token.kind (waiting_behind nothing before)) t (behind g before ls bs)

  abbrev answered : Bool → Bool → Result Leaf PartFault → Result (List Parts) PartFault → Result Judged PartFault
  answered b c o p = answer make (fault.TooDeep t.token.span.start) (fault.Refused t.token.span.start) b c o p

  abbrev prefix : Bool
  prefix = is_prefix g.grammar (inputs_of (before ++ t ∷ []))

  abbrev deep : Bool
  deep = nat_lt g.left (opened g (before ++ t ∷ []))

  abbrev by_parts : Result Judged PartFault
  by_parts = answered prefix deep (leaf_at g before t) (bodies_at g before t)

  next_is : judged_next ≡ by_parts
  unfolding with_item
  next_is =
      ap (λ us. taken_item (within g.read g.left g.text) (due_at t.token.kind (waiting_behind nothing before)) t (record { grammar = g.grammar; tokens = us; leaves = ls; bodies = bs; is_behind_blank = false }))
      (sym (map-append input_of before (t ∷ [])))

  pub record Taken (k : Judged) : Type 0 where
    pub leaf : Leaf
    pub here : List Parts
    pub taken : IsTaken g before t leaf here
    pub is : k ≡ make leaf here

  abbrev pub Told : Result Judged PartFault → Type 0
  Told (Ok k) = Taken k
  Told (Err f) = HasFault g before t f

  parts_told : ArePrefix g (before ++ t ∷ []) → opened g (before ++ t ∷ []) ≤ g.left → (o : Result Leaf PartFault) (p : Result (List Parts) PartFault)
      → leaf_at g before t ≡ o → bodies_at g before t ≡ p → Told (made make o p)
  parts_told f l (Ok leaf) (Ok here) e d = record { leaf = leaf; here = here; taken = record { prefix = f; levels = l; leaf = e; bodies = d }; is = refl }
  parts_told f l (Ok leaf) (Err wrong) e d = in_body f l leaf e d
  parts_told f l (Err wrong) p e d = in_word f l e

  levels_told : ArePrefix g (before ++ t ∷ []) → (c : Bool) → deep ≡ c → Told (answered true c (leaf_at g before t) (bodies_at g before t))
  levels_told f true e = too_deep f (ltb-true g.left (opened g (before ++ t ∷ [])) e) refl
  levels_told f false e = parts_told f (ltb-false g.left (opened g (before ++ t ∷ [])) e) (leaf_at g before t) (bodies_at g before t) refl refl

  prefix_told : IsShell g.grammar → (b : Bool) → prefix ≡ b → Told (answered b deep (leaf_at g before t) (bodies_at g before t))
  prefix_told s true e = levels_told (is_prefix_text g (before ++ t ∷ []) s e) deep refl
  prefix_told s false e = refused (not_prefix_text g (before ++ t ∷ []) s e) refl

  pub next_told : IsShell g.grammar → Told judged_next
  next_told s = subst (λ x. Told x) (sym next_is) (prefix_told s prefix refl)

  pub next_taken : IsShell g.grammar → (l : Leaf) (here : List Parts) → IsTaken g before t l here → judged_next ≡ Ok (make l here)
  next_taken s l here h =
      next_is ∙ made_ok make _ _ prefix deep (leaf_at g before t) (bodies_at g before t) l here (prefix_is_true g (before ++ t ∷ []) s h.prefix)
      (le-ltb g.left (opened g (before ++ t ∷ [])) h.levels) h.leaf h.bodies

  pub next_fault : IsShell g.grammar → (f : PartFault) → HasFault g before t f → judged_next ≡ Err f
  next_fault s f (refused n e) =
      next_is ∙ (made_wrong make _ _ prefix deep (leaf_at g before t) (bodies_at g before t) (prefix_is_false g (before ++ t ∷ []) s n) ∙ ap Err (sym e))
  next_fault s f (too_deep h l e) =
      next_is ∙ (made_deep make _ _ prefix deep (leaf_at g before t) (bodies_at g before t) (prefix_is_true g (before ++ t ∷ []) s h)
      (lt-ltb g.left (opened g (before ++ t ∷ [])) l) ∙ ap Err (sym e))
  next_fault s f (in_word h l e) =
      next_is ∙ made_no_leaf make _ _ prefix deep (leaf_at g before t) (bodies_at g before t) f (prefix_is_true g (before ++ t ∷ []) s h)
      (le-ltb g.left (opened g (before ++ t ∷ [])) l) e
  next_fault s f (in_body h l leaf e d) =
      next_is ∙ made_no_bodies make _ _ prefix deep (leaf_at g before t) (bodies_at g before t) leaf f (prefix_is_true g (before ++ t ∷ []) s h)
      (le-ltb g.left (opened g (before ++ t ∷ [])) l) e d

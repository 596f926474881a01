-- Reading with aliases is judging the tokens that come of rewriting.
use Rattle.std.proofs.Common.{◌≡◌, ℕ, ◌+◌, ◌-◌, ◌&&◌, ◌||◌, not, nat_lt, Bool, true, false, List, [], ◌∷◌, ◌++◌, map, Option, Some, None, Result, Ok, Err, refl, sym, ap, subst, ◌∙◌, append_assoc, if◌then◌else◌}
use Rattle.std.specs.Option.{unwrap_or}
use Rattle.std.proofs.lemmas.List.{append-nil, map-append}
use Rattle.sh_grammar.specs.declared.Token.{Token as Input}
use Rattle.sh_grammar.specs.Computed.{is_prefix}
use Rattle.sh_grammar.specs.Tabulation.{Tabulation}
use Rattle.sh_parse_documents.specs.declared.item.Item.{Item}
use Rattle.sh_parse_documents.specs.Waiting.{Waiting, behind_token, due_at, nothing}
use Rattle.sh_parse_words.specs.declared.fault.PartFault.{PartFault}
use Rattle.sh_parse_words.specs.declared.fault.PartFault.TheVariants as fault
use Rattle.sh_syntax.specs.declared.tree.Parts.{Parts}
use Rattle.sh_parse_actions.specs.declared.leaf.Leaf.{Leaf}
use Rattle.sh_aliases.specs.declared.alias.Alias.{Alias}
use Rattle.sh_aliases.specs.Aliases.{AliasTable, ends_in_blank}
use Rattle.sh_parse_leaves.specs.Inputs.{input_of}
use Rattle.sh_parse_leaves.specs.Results.{and_then, fault_moved}
use Rattle.sh_parse_leaves.specs.Words.{within}
use Rattle.sh_parse_commands.specs.Judging.{Judged, none_of, with_input, takes, open_in, with_leaf, with_item}
use Rattle.sh_token_grammar.specs.Classes.{is_reserved}
use Rattle.sh_parse_commands.specs.Replacing.{Inside, Origin, alias_at, alias_of_word, alias_outside, behind_value, command_name, is_eligible, unquoted_text, value_origin, with_token, with_token_by, with_tokens}
use Rattle.sh_parse_commands.specs.Programs.{inside_of}
use Rattle.sh_parse_commands.specs.Rewriting.{Sourced, sourced, marked, told_place, replaced_by, alias_of_text, alias_there, is_replaceable, NoneReplaced, IsStep, IsRewritten, Finished, Stepped, told_at, with_sourced, plainly}
use Rattle.sh_parse_commands.proofs.Deeper.{then_all}
use Rattle.sh_parse_commands.proofs.Nested.{value_fixed}

-- ---- results
then_then : {A B C : Type 0} (r : Result A PartFault) (f : A → Result B PartFault) (g : B → Result C PartFault) → and_then (and_then r f) g ≡ and_then r (λ x. and_then (f x) g)
then_then (Ok x) f g = refl
then_then (Err e) f g = refl

moved_then : {A B : Type 0} (place : ℕ) (r : Result A PartFault) (f : A → Result B PartFault)
    → fault_moved (λ at. place) (and_then r f) ≡ and_then (fault_moved (λ at. place) r) (λ x. fault_moved (λ at. place) (f x))
moved_then place (Ok x) f = refl
moved_then place (Err e) f = refl

moved_moved : {A : Type 0} (one other : ℕ) (r : Result A PartFault) → fault_moved (λ at. other) (fault_moved (λ at. one) r) ≡ fault_moved (λ at. other) r
moved_moved one other (Ok x) = refl
moved_moved one other (Err (fault.BadSubstitution at)) = refl
moved_moved one other (Err (fault.TooDeep at)) = refl
moved_moved one other (Err (fault.Refused at)) = refl
moved_moved one other (Err (fault.NoMemory _)) = refl

-- ---- marks
abbrev mark : Bool → Judged → Judged
mark b j = record j { is_behind_blank = j.is_behind_blank || b }

or_false : (b : Bool) → (b || false) ≡ b
or_false true = refl
or_false false = refl

or_swap : (a b c : Bool) → (a || (b || c)) ≡ ((a || c) || b)
or_swap true b c = refl
or_swap false true true = refl
or_swap false true false = refl
or_swap false false true = refl
or_swap false false false = refl

mark_false : (j : Judged) → mark false j ≡ j
mark_false j = ap (λ b. record j { is_behind_blank = b }) (or_false j.is_behind_blank)

mark_mark : (b c : Bool) (j : Judged) → mark (b || c) j ≡ mark b (mark c j)
mark_mark b c j = ap (λ d. record j { is_behind_blank = d }) (or_swap j.is_behind_blank b c)

plainly_then : {A : Type 0} (r : Result A PartFault) (f g : A → Result Judged PartFault) → ((x : A) → plainly (f x) ≡ plainly (g x)) → plainly (and_then r f) ≡ plainly (and_then r g)
plainly_then (Ok x) f g h = h x
plainly_then (Err e) f g h = refl

module _ (table : AliasTable) where
  abbrev inside : Inside
  inside = inside_of table

  -- ---- a row of tokens of which some are replaced
  abbrev next : Sourced → Judged → Result Judged PartFault
  next t j = told_at t.place (with_token table inside t.origin t.due t.item (mark t.is_behind_blank j))

  abbrev run : List Sourced → Judged → Result Judged PartFault
  run [] j = Ok j
  run (t ∷ ts) j = and_then (next t j) (λ k. run ts k)

  run_written : (o : Origin) (w : Waiting) (items : List Item) (j : Judged) → run (sourced o None w items) j ≡ with_tokens table inside o w items j
  run_written o w [] j = refl
  run_written o w (i ∷ items) j =
      ap (λ k. and_then (with_token table inside o (due_at i.token.kind w) i k) (λ l. run (sourced o None (behind_token i.token.kind w) items) l)) (mark_false j)
      ∙ then_all (with_token table inside o (due_at i.token.kind w) i j) (λ l. run (sourced o None (behind_token i.token.kind w) items) l)
      (λ l. with_tokens table inside o (behind_token i.token.kind w) items l) (λ l. run_written o (behind_token i.token.kind w) items l)

  run_value : (o : Origin) (place : ℕ) (w : Waiting) (items : List Item) (after : List Sourced) (j : Judged)
      → run (sourced o (Some place) w items ++ after) j ≡ and_then (fault_moved (λ at. place) (with_tokens table inside o w items j)) (λ k. run after k)
  run_value o place w [] after j = refl
  run_value o place w (i ∷ items) after j =
      ap (λ k. and_then (fault_moved (λ at. place) (with_token table inside o (due_at i.token.kind w) i k)) (λ l. run (sourced o (Some place) (behind_token i.token.kind w) items ++ after) l)) (mark_false j)
      ∙ then_all (fault_moved (λ at. place) (with_token table inside o (due_at i.token.kind w) i j)) (λ l. run (sourced o (Some place) (behind_token i.token.kind w) items ++ after) l)
      (λ l. and_then (fault_moved (λ at. place) (with_tokens table inside o (behind_token i.token.kind w) items l)) (λ k. run after k))
      (λ l. run_value o place (behind_token i.token.kind w) items after l)
      ∙ sym (then_then (fault_moved (λ at. place) (with_token table inside o (due_at i.token.kind w) i j)) (λ l. fault_moved (λ at. place) (with_tokens table inside o (behind_token i.token.kind w) items l)) (λ k. run after k))
      ∙ sym (ap (λ r. and_then r (λ k. run after k)) (moved_then place (with_token table inside o (due_at i.token.kind w) i j) (λ l. with_tokens table inside o (behind_token i.token.kind w) items l)))

  run_marked : (b : Bool) (ts : List Sourced) (j : Judged) → plainly (run (marked b ts) j) ≡ plainly (run ts (mark b j))
  run_marked b [] j = refl
  run_marked b (t ∷ ts) j = ap (λ k. plainly (and_then (told_at t.place (with_token table inside t.origin t.due t.item k)) (λ l. run ts l))) (mark_mark t.is_behind_blank b j)

  -- ---- one replacement
  told_moved : {A : Type 0} (place : Option ℕ) (start : ℕ) (r : Result A PartFault) → told_at place (fault_moved (λ at. start) r) ≡ fault_moved (λ at. unwrap_or place start) r
  told_moved None start r = refl
  told_moved (Some other) start r = moved_moved start other r

  module _ (t : Sourced) (alias : Alias) (j : Judged) (is : alias_at table t.origin.from (mark t.is_behind_blank j) t.item ≡ Some alias) where
    abbrev values : Result Judged PartFault
    values = with_tokens table inside (value_origin t.origin alias) nothing alias.items (mark t.is_behind_blank j)

    next_by : next t j ≡ told_at t.place (with_token_by inside t.origin t.due t.item (mark t.is_behind_blank j) (Some alias))
    unfolding with_token
    next_by = ap (λ a. told_at t.place (with_token_by inside t.origin t.due t.item (mark t.is_behind_blank j) a)) is

    next_is : next t j ≡ and_then (fault_moved (λ at. told_place t) values) (λ k. Ok (behind_value alias k))
    next_is =
        next_by
        ∙ told_moved t.place t.item.token.span.start (and_then (inside.value (value_origin t.origin alias) alias.items (mark t.is_behind_blank j)) (λ k. Ok (behind_value alias k)))
        ∙ ap (λ r. fault_moved (λ at. told_place t) (and_then r (λ k. Ok (behind_value alias k)))) (value_fixed table (value_origin t.origin alias) alias.items (mark t.is_behind_blank j))
        ∙ moved_then (told_place t) values (λ k. Ok (behind_value alias k))

    run_replaced : (after : List Sourced) → plainly (run (t ∷ after) j) ≡ plainly (run (replaced_by t alias after) j)
    run_replaced after =
        ap (λ r. plainly (and_then r (λ k. run after k))) next_is
        ∙ ap plainly (then_then (fault_moved (λ at. told_place t) values) (λ k. Ok (behind_value alias k)) (λ k. run after k))
        ∙ plainly_then (fault_moved (λ at. told_place t) values) (λ k. run after (behind_value alias k)) (λ k. run (marked (ends_in_blank alias.value) after) k)
        (λ k. sym (run_marked (ends_in_blank alias.value) after k))
        ∙ sym (ap plainly (run_value (value_origin t.origin alias) (told_place t) nothing alias.items (marked (ends_in_blank alias.value) after) (mark t.is_behind_blank j)))
        ∙ sym (run_marked t.is_behind_blank (sourced (value_origin t.origin alias) (Some (told_place t)) nothing alias.items ++ marked (ends_in_blank alias.value) after) j)

  -- ---- tokens that stand for themselves
  -- where the tokens before have been judged
  record Stands (grammar : Tabulation) (before : List Sourced) (j : Judged) : Type 0 where
    pub grammar_is : j.grammar ≡ grammar
    pub tokens_are : j.tokens ≡ map (λ s. input_of s.item) before
    pub unmarked : j.is_behind_blank ≡ false

  abbrev plain : Sourced → Judged → Result Judged PartFault
  plain t j = with_item (within (inside.read t.origin.from) t.origin.left t.origin.text) t.due t.item j

  abbrev StandsBehind : Tabulation → List Sourced → Result Judged PartFault → Type 0
  StandsBehind grammar before (Ok k) = Stands grammar before k
  StandsBehind grammar before (Err f) = Unit {0}

  stands_leaf : (grammar : Tabulation) (before : List Sourced) (k : Judged) (l : Result Leaf PartFault) (bodies : Result (List Parts) PartFault) → k.grammar ≡ grammar → k.tokens ≡ map (λ s. input_of s.item) before
      → StandsBehind grammar before (and_then l (λ x. and_then bodies (λ others. Ok (record k { leaves = k.leaves ++ x ∷ []; bodies = k.bodies ++ others; is_behind_blank = false }))))
  stands_leaf grammar before k (Ok x) (Ok others) g e = record { grammar_is = g; tokens_are = e; unmarked = refl }
  stands_leaf grammar before k (Ok x) (Err f) g e = tt
  stands_leaf grammar before k (Err f) bodies g e = tt

  stands_plain : (grammar : Tabulation) (before : List Sourced) (t : Sourced) (j : Judged) → Stands grammar before j → StandsBehind grammar (before ++ t ∷ []) (plain t j)
  unfolding with_item
  stands_plain grammar before t j s = go (takes k) (nat_lt t.origin.left (open_in k))
    where
      k : Judged
      k = with_input j (input_of t.item)

      e : k.tokens ≡ map (λ s. input_of s.item) (before ++ t ∷ [])
      e = ap (λ z. z ++ input_of t.item ∷ []) s.tokens_are ∙ sym (map-append (λ s. input_of s.item) before (t ∷ []))

      go : (b c : Bool) → StandsBehind grammar (before ++ t ∷ []) (if b then if c then Err (fault.TooDeep t.item.token.span.start)
          else with_leaf (within (inside.read t.origin.from) (t.origin.left - open_in k) t.origin.text) t.due t.item k else Err (fault.Refused t.item.token.span.start))
      go true true = tt
      go true false = stands_leaf grammar (before ++ t ∷ []) k _ _ s.grammar_is e
      go false true = tt
      go false false = tt

  stands_told : (grammar : Tabulation) (before : List Sourced) (place : Option ℕ) (r : Result Judged PartFault) → StandsBehind grammar before r → StandsBehind grammar before (told_at place r)
  stands_told grammar before None r h = h
  stands_told grammar before (Some p) (Ok k) h = h
  stands_told grammar before (Some p) (Err f) h = tt

  -- what is replaced by its place is what is replaced where the tokens before have been judged
  eligible_same : (grammar : Tabulation) (before : List Sourced) (t : Sourced) (j : Judged) → Stands grammar before j → (text : List ℕ) → is_eligible (mark t.is_behind_blank j) text ≡ is_replaceable grammar before t text
  eligible_same grammar before t j s text =
      ap (λ b. (b || t.is_behind_blank) || (not (is_reserved text) && is_prefix j.grammar (j.tokens ++ command_name ∷ []))) s.unmarked
      ∙ ap (λ g. t.is_behind_blank || (not (is_reserved text) && is_prefix g (j.tokens ++ command_name ∷ []))) s.grammar_is
      ∙ ap (λ ts. t.is_behind_blank || (not (is_reserved text) && is_prefix grammar (ts ++ command_name ∷ []))) s.tokens_are

  word_same : (grammar : Tabulation) (before : List Sourced) (t : Sourced) (j : Judged) → Stands grammar before j → (text : Option (List ℕ))
      → alias_of_word table t.origin.from (mark t.is_behind_blank j) text ≡ alias_of_text table grammar before t text
  word_same grammar before t j s None = refl
  word_same grammar before t j s (Some text) = ap (λ b. if b then alias_outside table t.origin.from text else None) (eligible_same grammar before t j s text)

  alias_same : (grammar : Tabulation) (before : List Sourced) (t : Sourced) (j : Judged) → Stands grammar before j
      → alias_at table t.origin.from (mark t.is_behind_blank j) t.item ≡ alias_there table grammar before t
  unfolding alias_at alias_there
  alias_same grammar before t j s = word_same grammar before t j s (unquoted_text t.item.token.kind)

  -- a token that isn't replaced is judged as it is, marked or not
  leaf_unmarked : (b : Bool) (j : Judged) (input : Input) (l : Result Leaf PartFault) (bodies : Result (List Parts) PartFault)
      → and_then l (λ x. and_then bodies (λ others. Ok (record (with_input (mark b j) input) { leaves = j.leaves ++ x ∷ []; bodies = j.bodies ++ others; is_behind_blank = false })))
      ≡ and_then l (λ x. and_then bodies (λ others. Ok (record (with_input j input) { leaves = j.leaves ++ x ∷ []; bodies = j.bodies ++ others; is_behind_blank = false })))
  leaf_unmarked b j input l bodies = refl

  plain_unmarked : (t : Sourced) (b : Bool) (j : Judged) → plain t (mark b j) ≡ plain t j
  unfolding with_item
  plain_unmarked t b j = refl

  next_plain : (t : Sourced) (j : Judged) → alias_at table t.origin.from (mark t.is_behind_blank j) t.item ≡ None → next t j ≡ told_at t.place (plain t j)
  unfolding with_token
  next_plain t j e =
      ap (λ a. told_at t.place (with_token_by inside t.origin t.due t.item (mark t.is_behind_blank j) a)) e ∙ ap (told_at t.place) (plain_unmarked t t.is_behind_blank j)

  -- tokens before the first that is replaced
  run_front : (grammar : Tabulation) (done before : List Sourced) (rest : List Sourced) (j : Judged) → Stands grammar done j → NoneReplaced table grammar done before
      → run (before ++ rest) j ≡ and_then (with_sourced inside before j) (λ k. run rest k)
  run_front grammar done [] rest j s n = refl
  run_front grammar done (t ∷ before) rest j s n =
      ap (λ r. and_then r (λ k. run (before ++ rest) k)) (next_plain t j (alias_same grammar done t j s ∙ n.0))
      ∙ go (told_at t.place (plain t j)) (stands_told grammar (done ++ t ∷ []) t.place (plain t j) (stands_plain grammar done t j s)) (λ k h. run_front grammar (done ++ t ∷ []) before rest k h n.1)
    where
      go : (r : Result Judged PartFault) → StandsBehind grammar (done ++ t ∷ []) r → ((k : Judged) → Stands grammar (done ++ t ∷ []) k → run (before ++ rest) k ≡ and_then (with_sourced inside before k) (λ l. run rest l))
          → and_then r (λ k. run (before ++ rest) k) ≡ and_then (and_then r (λ k. with_sourced inside before k)) (λ k. run rest k)
      go (Ok k) h more = more k h
      go (Err f) h more = refl

  front_stands : (grammar : Tabulation) (done before : List Sourced) (j : Judged) → Stands grammar done j → StandsBehind grammar (done ++ before) (with_sourced inside before j)
  front_stands grammar done [] j s = subst (λ x. Stands grammar x j) (sym (append-nil done)) s
  front_stands grammar done (t ∷ before) j s =
      go (told_at t.place (plain t j)) (stands_told grammar (done ++ t ∷ []) t.place (plain t j) (stands_plain grammar done t j s)) (λ k h. front_stands grammar (done ++ t ∷ []) before k h)
    where
      go : (r : Result Judged PartFault) → StandsBehind grammar (done ++ t ∷ []) r → ((k : Judged) → Stands grammar (done ++ t ∷ []) k → StandsBehind grammar ((done ++ t ∷ []) ++ before) (with_sourced inside before k))
          → StandsBehind grammar (done ++ t ∷ before) (and_then r (λ k. with_sourced inside before k))
      go (Ok k) h more = subst (λ x. StandsBehind grammar x (with_sourced inside before k)) (append_assoc done (t ∷ []) before) (more k h)
      go (Err f) h more = tt

  -- ---- rewriting
  module _ (grammar : Tabulation) (j : Judged) (s : Stands grammar [] j) where
    step_by : (before : List Sourced) (t : Sourced) (after : List Sourced) (alias : Alias) → alias_there table grammar before t ≡ Some alias → (r : Result Judged PartFault) → StandsBehind grammar before r
        → plainly (and_then r (λ k. run (t ∷ after) k)) ≡ plainly (and_then r (λ k. run (replaced_by t alias after) k))
    step_by before t after alias e (Ok k) h = run_replaced t alias k (alias_same grammar before t k h ∙ e) after
    step_by before t after alias e (Err f) h = refl

    step_same : (ts us : List Sourced) → IsStep table grammar ts us → plainly (run ts j) ≡ plainly (run us j)
    step_same ts us i =
        ap (λ x. plainly (run x j)) i.joined
        ∙ ap plainly (run_front grammar [] i.before (i.token ∷ i.after) j s i.first)
        ∙ step_by i.before i.token i.after i.alias i.replaced (with_sourced inside i.before j) (front_stands grammar [] i.before j s)
        ∙ sym (ap plainly (run_front grammar [] i.before (replaced_by i.token i.alias i.after) j s i.first))
        ∙ sym (ap (λ x. plainly (run x j)) i.gives)

    then_ok : (r : Result Judged PartFault) → and_then r (λ k. Ok k) ≡ r
    then_ok (Ok k) = refl
    then_ok (Err f) = refl

    rewritten_same : (ts us : List Sourced) → IsRewritten table grammar ts us → plainly (run ts j) ≡ plainly (with_sourced inside us j)
    rewritten_same ts us (Finished xs n) =
        ap (λ x. plainly (run x j)) (sym (append-nil xs)) ∙ ap plainly (run_front grammar [] xs [] j s n ∙ then_ok (with_sourced inside xs j))
    rewritten_same ts us (Stepped xs vs ys i r) = step_same xs vs i ∙ rewritten_same vs ys r

  pub reading_rewrites : (grammar : Tabulation) (o : Origin) (w : Waiting) (items : List Item) (us : List Sourced) → IsRewritten table grammar (sourced o None w items) us
      → plainly (with_tokens table inside o w items (none_of grammar)) ≡ plainly (with_sourced inside us (none_of grammar))
  reading_rewrites grammar o w items us r =
      sym (ap plainly (run_written o w items (none_of grammar)))
      ∙ rewritten_same grammar (none_of grammar) (record { grammar_is = refl; tokens_are = refl; unmarked = refl }) (sourced o None w items) us r

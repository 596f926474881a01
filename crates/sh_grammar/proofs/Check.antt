-- The test of a table is right.
use Rattle.std.proofs.Common.{◌≡◌, ⊎_elim, ℕ, zero, suc, ◌+◌, ◌/◌, ◌%◌, ◌^◌, ◌<◌, ◌≤◌, Bool, true, false, List, [], ◌∷◌, ◌++◌, length, get_or, Option, Some, None, refl, ap, ◌∙◌, subst, arith}
use Rattle.std.specs.Prelude.{◌&&◌, slice_get, nat_eq, nat_lt, nat_le}
use Rattle.std.proofs.lemmas.Bool.{cases_lt, eqb-true, leb-true, ltb-true}
use Rattle.std.proofs.lemmas.List.{get_or_past}
use Rattle.std.proofs.Math.Nat.{zero-div}
use Rattle.sh_grammar.specs.declared.Symbol.{Symbol}
use Rattle.sh_grammar.specs.declared.Symbol.TheVariants.{Terminal, Nonterminal}
use Rattle.sh_grammar.specs.declared.Action.{Action}
use Rattle.sh_grammar.specs.declared.Action.TheVariants.{Expand, Shift}
use Rattle.sh_grammar.specs.Grammar.{Grammar, Rule, IsRule, next_class}
use Rattle.sh_grammar.specs.Leftmost.{tokens_of, Leftmost}
use Rattle.sh_grammar.specs.Tabulation.{Tabulation, in_set, has, rules_of, grammar_of, prediction}
use Rattle.sh_grammar.specs.Table.{nullable_of, first_of, vanishing, cost_of, table_of}
use Rattle.sh_grammar.specs.Predictive.{Evidence, samples, Fits, Ends, Predicts}
use Rattle.sh_grammar.specs.Passes.{Witness, evidence_of, implies, all_below, all_rules, with_rule, leads_test, ends_test, follow_at, fits_test, rule_at, rule_test, first_at, nullable_at, name_at, name_test, Passes}
use Rattle.sh_grammar.proofs.Predict.{and_parts, and_both, or_first, or_second, cases_or}

then_true : (a b : Bool) → implies a b ≡ true → a ≡ true → b ≡ true
then_true true b h k = h
then_true false b h k = absurd (cc)

below_at : (f : ℕ → Bool) (m c : ℕ) → all_below f m ≡ true → c < m → f c ≡ true
below_at f zero c h l = absurd (omega arith)
below_at f (suc m) c h l =
    let both = and_parts (f m) (all_below f m) h in
    ⊎_elim (λ (k : c < m). below_at f m c both.1 k) (λ (k : m ≤ c). let e : m ≡ c = omega arith in subst (λ x. f x ≡ true) e both.0) (cases_lt c m)

pub rules_at : (f : ℕ → Rule → Bool) (k : ℕ) (rules : List Rule) (p : ℕ) (r : Rule) → all_rules f k rules ≡ true → slice_get rules p ≡ Some r → f (k + p) r ≡ true
rules_at f k [] p r h e = absurd (cc)
rules_at f k (x ∷ rules) zero r h e =
    let xr : x ≡ r = cc in
    let i : k ≡ k + 0 = omega arith in
    subst (λ y. f (k + 0) y ≡ true) xr (subst (λ j. f j x ≡ true) i (and_parts (f k x) (all_rules f (suc k) rules) h).0)
rules_at f k (x ∷ rules) (suc p) r h e =
    let i : suc k + p ≡ k + suc p = omega arith in
    subst (λ j. f j r ≡ true) i (rules_at f (suc k) rules p r (and_parts (f k x) (all_rules f (suc k) rules) h).1 e)

pub record Found (o : Option Rule) (f : Rule → Bool) : Type 0 where
  pub rule : Rule
  pub is : o ≡ Some rule
  pub passes : f rule ≡ true

found : (o : Option Rule) (f : Rule → Bool) → with_rule o f ≡ true → Found o f
found None f h = absurd (cc)
found (Some r) f h = record { rule = r; is = refl; passes = h }

as_rule : (g : Grammar) (p n : ℕ) (r : Rule) → slice_get g.rules p ≡ Some r → nat_eq r.head n ≡ true → IsRule g p n r.body
as_rule g p n r e h = record { there = e ∙ ap (λ m. Some (record { head = m; body = r.body })) (eqb-true r.head n h) }

leads_found : (g : Grammar) (e : ℕ) (stack : List Symbol) (actions : List Action) → leads_test g e stack actions ≡ true → Leftmost g e stack actions
leads_found g e [] [] h = tt
leads_found g e (Terminal k ∷ stack) (Shift t ∷ actions) h = let b = and_parts (g.accepts k t.class) (leads_test g e stack actions) h in (b.0, leads_found g e stack actions b.1)
leads_found g e (Nonterminal n ∷ stack) (Expand p ∷ actions) h =
    let f = found (slice_get g.rules p) (λ r. nat_eq r.head n && (g.allows p (next_class e (tokens_of actions)) && leads_test g e (r.body ++ stack) actions)) h in
    let a = and_parts (nat_eq f.rule.head n) (g.allows p (next_class e (tokens_of actions)) && leads_test g e (f.rule.body ++ stack) actions) f.passes in
    let b = and_parts (g.allows p (next_class e (tokens_of actions))) (leads_test g e (f.rule.body ++ stack) actions) a.1 in
    (f.rule.body, as_rule g p n f.rule f.is a.0, b.0, leads_found g e (f.rule.body ++ stack) actions b.1)
leads_found g e (s ∷ stack) [] h = absurd (cc)
leads_found g e [] (a ∷ actions) h = absurd (cc)
leads_found g e (Terminal k ∷ stack) (Expand p ∷ actions) h = absurd (cc)
leads_found g e (Nonterminal n ∷ stack) (Shift t ∷ actions) h = absurd (cc)

ends_found : (g : Grammar) (evidence : Evidence) (e : ℕ) (symbols : List Symbol) → ends_test g evidence e symbols ≡ true → Ends g evidence e symbols
ends_found g evidence e [] h = tt
ends_found g evidence e (Terminal k ∷ symbols) h = let b = and_parts (g.accepts k (evidence.token k).class) (ends_test g evidence e symbols) h in (b.0, ends_found g evidence e symbols b.1)
ends_found g evidence e (Nonterminal n ∷ symbols) h = let b = and_parts (evidence.safe n (next_class e (tokens_of (samples evidence symbols)))) (ends_test g evidence e symbols) h in (b.0, ends_found g evidence e symbols b.1)

has_class : (ending : ℕ) (masks : List ℕ) (n c : ℕ) → has ending masks n c ≡ true → c < suc ending
has_class ending masks n c h = let l = leb-true c ending (and_parts (nat_le c ending) (in_set (get_or masks n 0) c) h).0 in omega arith

has_name : (ending : ℕ) (masks : List ℕ) (n c : ℕ) → has ending masks n c ≡ true → n < length masks
has_name ending masks n c h =
    let b = (and_parts (nat_le c ending) (in_set (get_or masks n 0) c) h).1 in
    ⊎_elim (λ k. k) (λ (k : length masks ≤ n). absurd (none (2 ^ c) (subst (λ x. in_set x c ≡ true) (get_or_past masks n 0 k) b))) (cases_lt n (length masks))
  where
    none : (x : ℕ) → nat_eq ((0 / x) % 2) 1 ≡ true → ⊥
    none x i = let j : false ≡ true = subst (λ y. nat_eq (y % 2) 1 ≡ true) (zero-div x) i in absurd (cc)

-- the parts of the tests at a class
record AtClass (d : Tabulation) (w : Witness) (p n : ℕ) (body : List Symbol) (c : ℕ) : Type 0 where
  by_first : (has d.ending d.guards p c && first_of (grammar_of d) (table_of d) body c) ≡ true → (has d.ending d.firsts n c ≡ true) × (prediction d n c ≡ p)
  by_empty : (has d.ending d.guards p c && nullable_of (grammar_of d) (table_of d) body c) ≡ true → (has d.ending d.nullables n c ≡ true) × (has d.ending w.follows n c ≡ true → prediction d n c ≡ p)
  ends : has d.ending w.safes n c ≡ true → Ends (grammar_of d) (evidence_of d w) c body

at_class : (d : Tabulation) (w : Witness) (p n : ℕ) (body : List Symbol) (c : ℕ) → rule_at d w p (record { head = n; body = body }) c ≡ true → AtClass d w p n body c
at_class d w p n body c h =
    let g = grammar_of d in
    let t = table_of d in
    let evidence = evidence_of d w in
    let a = and_parts (implies (g.allows p c && first_of g t body c) (t.first n c && nat_eq (prediction d n c) p)) _ h in
    let b = and_parts (implies (g.allows p c && nullable_of g t body c) (t.nullable n c && implies (evidence.follow n c) (nat_eq (prediction d n c) p))) (implies (evidence.safe n c) (ends_test g evidence c body)) a.1 in
    record {
      by_first = λ f. let k = and_parts (t.first n c) (nat_eq (prediction d n c) p) (then_true _ _ a.0 f) in (k.0, eqb-true (prediction d n c) p k.1);
      by_empty = λ f. let k = and_parts (t.nullable n c) (implies (evidence.follow n c) (nat_eq (prediction d n c) p)) (then_true _ _ b.0 f) in (k.0, λ i. eqb-true (prediction d n c) p (then_true _ _ k.1 i));
      ends = λ f. ends_found g evidence c body (then_true _ _ b.1 f);
    }

-- the parts of a production's test
record AtRule (d : Tabulation) (w : Witness) (p n : ℕ) (body : List Symbol) : Type 0 where
  classes : (c : ℕ) → c < suc d.ending → AtClass d w p n body c
  fits : fits_test (grammar_of d) (table_of d) (evidence_of d w) (suc d.ending) n body ≡ true
  vanishes : vanishing (table_of d) body ≡ true → (table_of d).vanishes n ≡ true
  weight : cost_of (table_of d) body < (table_of d).weight n

at_rule : (d : Tabulation) (w : Witness) (p n : ℕ) (body : List Symbol) → rule_test d w p (record { head = n; body = body }) ≡ true → AtRule d w p n body
at_rule d w p n body h =
    let r : Rule = record { head = n; body = body } in
    let a = and_parts (all_below (rule_at d w p r) (suc d.ending)) _ h in
    let b = and_parts (fits_test (grammar_of d) (table_of d) (evidence_of d w) (suc d.ending) n body) _ a.1 in
    let e = and_parts (implies (vanishing (table_of d) body) ((table_of d).vanishes n)) (nat_lt (cost_of (table_of d) body) ((table_of d).weight n)) b.1 in
    record {
      classes = λ c l. at_class d w p n body c (below_at (rule_at d w p r) (suc d.ending) c a.0 l);
      fits = b.0;
      vanishes = then_true _ _ e.0;
      weight = ltb-true _ _ e.1;
    }

fits_found : (d : Tabulation) (w : Witness) (n : ℕ) (body : List Symbol) → fits_test (grammar_of d) (table_of d) (evidence_of d w) (suc d.ending) n body ≡ true → ((symbols : List Symbol) (c : ℕ) → first_of (grammar_of d) (table_of d) symbols c ≡ true → c < suc d.ending) → Fits (grammar_of d) (table_of d) (evidence_of d w) (has d.ending w.follows n) body
fits_found d w n [] h r = tt
fits_found d w n (Terminal k ∷ symbols) h r = fits_found d w n symbols h r
fits_found d w n (Nonterminal m ∷ symbols) h r =
    let g = grammar_of d in
    let t = table_of d in
    let evidence = evidence_of d w in
    let a = and_parts (all_below (follow_at g t evidence n m symbols) (suc d.ending)) _ h in (
      (λ c f. then_true _ _ (below_at (follow_at g t evidence n m symbols) (suc d.ending) c a.0 (r symbols c f)) (or_first (first_of g t symbols c) _ f)),
      (λ c f i. then_true _ _ (below_at (follow_at g t evidence n m symbols) (suc d.ending) c a.0 (has_class d.ending w.follows n c i)) (or_second (first_of g t symbols c) _ (and_both (nullable_of g t symbols c) _ f i))),
      fits_found d w n symbols a.1 r,
    )

first_class : (d : Tabulation) (symbols : List Symbol) (c : ℕ) → first_of (grammar_of d) (table_of d) symbols c ≡ true → c < suc d.ending
first_class d [] c h = absurd (cc)
first_class d (Terminal k ∷ symbols) c h = has_class d.ending d.terminals k c h
first_class d (Nonterminal n ∷ symbols) c h =
    let t = table_of d in
    ⊎_elim (λ f. has_class d.ending d.firsts n c f) (λ f. has_class d.ending d.nullables n c (and_parts (t.nullable n c) (first_of (grammar_of d) t symbols c) f).0) (cases_or (t.first n c) (t.nullable n c && first_of (grammar_of d) t symbols c) h)

-- the parts of a nonterminal's test at a class
record AtName (d : Tabulation) (w : Witness) (n c : ℕ) : Type 0 where
  first : has d.ending d.firsts n c ≡ true → first_at d n c ≡ true
  nullable : has d.ending d.nullables n c ≡ true → nullable_at d w n c ≡ true
  sample : has d.ending w.safes n c ≡ true → Leftmost (grammar_of d) c (Nonterminal n ∷ []) (get_or w.samples n [])

at_name : (d : Tabulation) (w : Witness) (n c : ℕ) → name_at d w n c ≡ true → AtName d w n c
at_name d w n c h =
    let a = and_parts (implies (has d.ending d.firsts n c) (first_at d n c)) _ h in
    let b = and_parts (implies (has d.ending d.nullables n c) (nullable_at d w n c)) _ a.1 in
    record { first = then_true _ _ a.0; nullable = then_true _ _ b.0; sample = λ f. leads_found (grammar_of d) c (Nonterminal n ∷ []) (get_or w.samples n []) (then_true _ _ b.1 f) }

module _ (d : Tabulation) (w : Witness) (ok : Passes d w) where
  rule_facts : (p n : ℕ) (body : List Symbol) → IsRule (grammar_of d) p n body → AtRule d w p n body
  rule_facts p n body r =
      let z : 0 + p ≡ p = omega arith in
      at_rule d w p n body (subst (λ j. rule_test d w j (record { head = n; body = body }) ≡ true) z (rules_at (rule_test d w) 0 (rules_of d.heads d.bodies) p (record { head = n; body = body }) ok.rules r.there))

  name_facts : (n c : ℕ) → n < length d.firsts → c < suc d.ending → AtName d w n c
  name_facts n c l m = at_name d w n c (below_at (name_at d w n) (suc d.ending) c (below_at (name_test d w) (length d.firsts) n ok.names l) m)

  counted : (length d.nullables ≤ length d.firsts) × (length w.safes ≤ length d.firsts)
  counted = (leb-true _ _ ok.nullables, leb-true _ _ ok.safes)

  known_first : (n c : ℕ) → has d.ending d.firsts n c ≡ true → (p : ℕ) × (body : List Symbol) × IsRule (grammar_of d) p n body × (first_of (grammar_of d) (table_of d) body c ≡ true) × (has d.ending d.guards p c ≡ true)
  known_first n c h =
      let m = has_name d.ending d.firsts n c h in
      let p = prediction d n c in
      let f = found (slice_get (rules_of d.heads d.bodies) p) (λ r. nat_eq r.head n && (first_of (grammar_of d) (table_of d) r.body c && has d.ending d.guards p c)) ((name_facts n c m (has_class d.ending d.firsts n c h)).first h) in
      let a = and_parts (nat_eq f.rule.head n) _ f.passes in
      let b = and_parts (first_of (grammar_of d) (table_of d) f.rule.body c) (has d.ending d.guards p c) a.1 in
      (p, f.rule.body, as_rule (grammar_of d) p n f.rule f.is a.0, b.0, b.1)

  known_nullable : (n c : ℕ) → has d.ending d.nullables n c ≡ true → (p : ℕ) × (body : List Symbol) × IsRule (grammar_of d) p n body × (nullable_of (grammar_of d) (table_of d) body c ≡ true) × (has d.ending d.guards p c ≡ true)
  known_nullable n c h =
      let l = has_name d.ending d.nullables n c h in
      let m : n < length d.firsts = omega (arith, counted.0) in
      let p = get_or w.empties n 0 in
      let f = found (slice_get (rules_of d.heads d.bodies) p) (λ r. nat_eq r.head n && (nullable_of (grammar_of d) (table_of d) r.body c && has d.ending d.guards p c)) ((name_facts n c m (has_class d.ending d.nullables n c h)).nullable h) in
      let a = and_parts (nat_eq f.rule.head n) _ f.passes in
      let b = and_parts (nullable_of (grammar_of d) (table_of d) f.rule.body c) (has d.ending d.guards p c) a.1 in
      (p, f.rule.body, as_rule (grammar_of d) p n f.rule f.is a.0, b.0, b.1)

  known_sample : (n c : ℕ) → has d.ending w.safes n c ≡ true → Leftmost (grammar_of d) c (Nonterminal n ∷ []) (get_or w.samples n [])
  known_sample n c h =
      let l = has_name d.ending w.safes n c h in
      let m : n < length d.firsts = omega (arith, counted.1) in
      (name_facts n c m (has_class d.ending w.safes n c h)).sample h

  -- a table that passes is a table for its grammar
  pub passes_predicts : Predicts (grammar_of d) (table_of d) (evidence_of d w)
  passes_predicts =
      record {
        first = λ p n body r c f a. (((rule_facts p n body r).classes c (has_class d.ending d.guards p c a)).by_first (and_both _ _ a f)).0;
        nullable = λ p n body r c f a. (((rule_facts p n body r).classes c (has_class d.ending d.guards p c a)).by_empty (and_both _ _ a f)).0;
        follow = λ p n body r. fits_found d w n body (rule_facts p n body r).fits (first_class d);
        start = ok.start;
        by_first = λ p n body r c f a. ap Some (((rule_facts p n body r).classes c (has_class d.ending d.guards p c a)).by_first (and_both _ _ a f)).1;
        by_follow = λ p n body r c f a i. ap Some ((((rule_facts p n body r).classes c (has_class d.ending d.guards p c a)).by_empty (and_both _ _ a f)).1 i);
        first_known = known_first;
        nullable_known = known_nullable;
        vanishes = λ p n body r. (rule_facts p n body r).vanishes;
        weight = λ p n body r. (rule_facts p n body r).weight;
        sample = known_sample;
        ends = λ p n body r c f. ((rule_facts p n body r).classes c (has_class d.ending w.safes n c f)).ends f;
        start_ends = ok.start_ends;
      }

-- The test that a tabulated grammar passes where one token of lookahead decides. It is computed on the data,
-- so that 'refl' proves it. A reader need not trust the test: what is proved of a grammar that passes is
-- about derivations alone.
use Rattle.std.specs.Prelude.{◌≡◌, ℕ, zero, suc, Bool, true, false, ◌&&◌, ◌||◌, List, [], ◌∷◌, ◌++◌, length, get_or, Option, Some, None, slice_get, nat_eq, nat_lt, nat_le}
use Rattle.sh_grammar.specs.declared.Symbol.{Symbol}
use Rattle.sh_grammar.specs.declared.Symbol.TheVariants.{Terminal, Nonterminal}
use Rattle.sh_grammar.specs.declared.Action.{Action}
use Rattle.sh_grammar.specs.declared.Action.TheVariants.{Expand, Shift}
use Rattle.sh_grammar.specs.Grammar.{Grammar, Rule, next_class}
use Rattle.sh_grammar.specs.Leftmost.{tokens_of}
use Rattle.sh_grammar.specs.Tabulation.{Tabulation, has, rules_of, grammar_of, prediction}
use Rattle.sh_grammar.specs.Table.{Table, nullable_of, first_of, vanishing, cost_of, table_of}
use Rattle.sh_grammar.specs.Predictive.{Evidence, samples}

-- what the test computes with besides the tables. No program reads it
pub record Witness : Type 0 where
  -- of each nonterminal: the classes that may come after it, the production by which it may derive no token,
  -- some derivation, and the classes that may come after that derivation
  pub follows : List ℕ
  pub empties : List ℕ
  pub samples : List (List Action)
  pub safes : List ℕ
  -- a class of each terminal
  pub kinds : List ℕ

abbrev pub evidence_of : Tabulation → Witness → Evidence
evidence_of d w =
    record {
      follow = has d.ending w.follows;
      token = λ k. record { class = get_or w.kinds k 0; id = 0 };
      sample = λ n. get_or w.samples n [];
      safe = has d.ending w.safes;
    }

abbrev pub implies : Bool → Bool → Bool
implies true b = b
implies false b = true

abbrev pub all_below : (ℕ → Bool) → ℕ → Bool
all_below f zero = true
all_below f (suc m) = f m && all_below f m

abbrev pub all_rules : (ℕ → Rule → Bool) → ℕ → List Rule → Bool
all_rules f k [] = true
all_rules f k (r ∷ rules) = f k r && all_rules f (suc k) rules

abbrev pub with_rule : Option Rule → (Rule → Bool) → Bool
with_rule None f = false
with_rule (Some r) f = f r

abbrev pub leads_test : Grammar → ℕ → List Symbol → List Action → Bool
leads_test g e [] [] = true
leads_test g e (s ∷ stack) [] = false
leads_test g e [] (a ∷ actions) = false
leads_test g e (Terminal k ∷ stack) (Shift t ∷ actions) = g.accepts k t.class && leads_test g e stack actions
leads_test g e (Nonterminal n ∷ stack) (Expand p ∷ actions) =
    with_rule (slice_get g.rules p) (λ r. nat_eq r.head n && (g.allows p (next_class e (tokens_of actions)) && leads_test g e (r.body ++ stack) actions))
leads_test g e (Terminal k ∷ stack) (Expand p ∷ actions) = false
leads_test g e (Nonterminal n ∷ stack) (Shift t ∷ actions) = false

abbrev pub ends_test : Grammar → Evidence → ℕ → List Symbol → Bool
ends_test g evidence e [] = true
ends_test g evidence e (Terminal k ∷ symbols) = g.accepts k (evidence.token k).class && ends_test g evidence e symbols
ends_test g evidence e (Nonterminal n ∷ symbols) = evidence.safe n (next_class e (tokens_of (samples evidence symbols))) && ends_test g evidence e symbols

abbrev pub follow_at : Grammar → Table → Evidence → ℕ → ℕ → List Symbol → ℕ → Bool
follow_at g t evidence n m symbols c = implies (first_of g t symbols c || (nullable_of g t symbols c && evidence.follow n c)) (evidence.follow m c)

abbrev pub fits_test : Grammar → Table → Evidence → ℕ → ℕ → List Symbol → Bool
fits_test g t evidence classes n [] = true
fits_test g t evidence classes n (Terminal k ∷ symbols) = fits_test g t evidence classes n symbols
fits_test g t evidence classes n (Nonterminal m ∷ symbols) = all_below (follow_at g t evidence n m symbols) classes && fits_test g t evidence classes n symbols

-- a production at a class
abbrev pub rule_at : Tabulation → Witness → ℕ → Rule → ℕ → Bool
rule_at d w p r c =
    let g = grammar_of d in
    let t = table_of d in
    let evidence = evidence_of d w in
    implies (g.allows p c && first_of g t r.body c) (t.first r.head c && nat_eq (prediction d r.head c) p)
    && (implies (g.allows p c && nullable_of g t r.body c) (t.nullable r.head c && implies (evidence.follow r.head c) (nat_eq (prediction d r.head c) p))
    && implies (evidence.safe r.head c) (ends_test g evidence c r.body))

abbrev pub rule_test : Tabulation → Witness → ℕ → Rule → Bool
rule_test d w p r =
    all_below (rule_at d w p r) (suc d.ending)
    && (fits_test (grammar_of d) (table_of d) (evidence_of d w) (suc d.ending) r.head r.body
    && (implies (vanishing (table_of d) r.body) ((table_of d).vanishes r.head)
    && nat_lt (cost_of (table_of d) r.body) ((table_of d).weight r.head)))

abbrev pub first_at : Tabulation → ℕ → ℕ → Bool
first_at d n c =
    let p = prediction d n c in
    with_rule (slice_get (rules_of d.heads d.bodies) p) (λ r. nat_eq r.head n && (first_of (grammar_of d) (table_of d) r.body c && has d.ending d.guards p c))

abbrev pub nullable_at : Tabulation → Witness → ℕ → ℕ → Bool
nullable_at d w n c =
    let p = get_or w.empties n 0 in
    with_rule (slice_get (rules_of d.heads d.bodies) p) (λ r. nat_eq r.head n && (nullable_of (grammar_of d) (table_of d) r.body c && has d.ending d.guards p c))

-- a nonterminal at a class
abbrev pub name_at : Tabulation → Witness → ℕ → ℕ → Bool
name_at d w n c =
    implies (has d.ending d.firsts n c) (first_at d n c)
    && (implies (has d.ending d.nullables n c) (nullable_at d w n c)
    && implies (has d.ending w.safes n c) (leads_test (grammar_of d) c (Nonterminal n ∷ []) (get_or w.samples n [])))

abbrev pub name_test : Tabulation → Witness → ℕ → Bool
name_test d w n = all_below (name_at d w n) (suc d.ending)

pub record Passes (d : Tabulation) (w : Witness) : Type 0 where
  pub rules : all_rules (rule_test d w) 0 (rules_of d.heads d.bodies) ≡ true
  pub names : all_below (name_test d w) (length d.firsts) ≡ true
  -- no set beyond the nonterminals
  pub nullables : nat_le (length d.nullables) (length d.firsts) ≡ true
  pub safes : nat_le (length w.safes) (length d.firsts) ≡ true
  pub start : has d.ending w.follows d.start d.ending ≡ true
  pub start_ends : has d.ending w.safes d.start d.ending ≡ true

-- one token of lookahead decides
abbrev pub IsPredictive : Tabulation → Type 0
IsPredictive d = (w : Witness) × Passes d w

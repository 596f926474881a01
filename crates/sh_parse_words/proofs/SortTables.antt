-- The sort of each symbol of the grammar, and the tests of the tables: each production makes its head's sort, and a leaf that fits a token's
-- class gives the token the sorts of the terminals that accept it.
use Rattle.std.proofs.Common.{◌≡◌, inl, inr, refl, sym, subst, arith, ℕ, zero, suc, ◌<◌, ◌≤◌, nat_eq, Bool, true, false, not, ◌&&◌, ◌||◌, List, [], ◌∷◌, map, get_or, Option, Some, slice_get, slice_index_or}
use Rattle.std.proofs.lemmas.Bool.{cases_eq, cases_lt, eqb-true, leb-true}
use Rattle.std.proofs.lemmas.List.{get_or_past}
use Rattle.sh_grammar.specs.declared.Symbol.{Symbol}
use Rattle.sh_grammar.specs.declared.Symbol.TheVariants.{Terminal, Nonterminal}
use Rattle.sh_grammar.specs.Grammar.{Rule}
use Rattle.sh_grammar.specs.Tabulation.{grammar_of}
use Rattle.sh_token_grammar.specs.Shell.{complete, substitution}
use Rattle.sh_parse_actions.specs.declared.kind.Kind.{Kind}
use Rattle.sh_parse_actions.specs.declared.leaf.Leaf.{Leaf}
use Rattle.sh_parse_actions.specs.declared.leaf.Leaf.TheVariants as leaf
use Rattle.sh_parse_actions.specs.declared.value.Value.TheVariants as value
use Rattle.sh_parse_actions.specs.Values.{and_or_in, body_in, case_items_in, command_in, commands_in, compound_list_in, else_in, form_in, item_body_in, item_end_in, item_in, items_in, leaf_in, list_in, loop_in, name_in, number_in, parameters_in, patterns_in, pipeline_in, pipelines_in, redirect_in, redirects_in, tail_in, values_in, word_in}
use Rattle.sh_parse_words.specs.Fitting.{fits}
use Rattle.sh_parse_words.specs.Productions.{Production, kept_of, kept_symbols, kinds, productions}
use Rattle.sh_parse_words.proofs.Bools.{left_true, right_true}
use Rattle.sh_parse_words.proofs.Sorts.{Has, checked, tests}

abbrev pub nonterminal_sorts : List ℕ
nonterminal_sorts = 17 ∷ 16 ∷ 17 ∷ 15 ∷ 14 ∷ 13 ∷ 12 ∷ 11 ∷ 10 ∷ 9 ∷ 9 ∷ 8 ∷ 7 ∷ 0 ∷ 18 ∷ 16 ∷ 17 ∷ 19 ∷ 20 ∷ 22 ∷ 22 ∷ 21 ∷ 24 ∷ 23 ∷ 26 ∷ 26 ∷ 25 ∷ 17 ∷ 17 ∷ 0 ∷ []

abbrev pub terminal_sorts : List ℕ
terminal_sorts = 0 ∷ 0 ∷ 0 ∷ 0 ∷ 0 ∷ 0 ∷ 0 ∷ 0 ∷ 0 ∷ 4 ∷ 3 ∷ 0 ∷ 0 ∷ 0 ∷ 0 ∷ 0 ∷ 0 ∷ 0 ∷ 0 ∷ 0 ∷ 0 ∷ 0 ∷ 0 ∷ 0 ∷ 0 ∷ 0 ∷ 0 ∷ 1 ∷ 2 ∷ 2 ∷ 1 ∷ 1 ∷ 6 ∷ 1 ∷ 5 ∷ []

abbrev pub symbol_sort : Symbol → ℕ
symbol_sort (Terminal k) = get_or terminal_sorts k 0
symbol_sort (Nonterminal n) = get_or nonterminal_sorts n 0

abbrev pub kept_sorts : List Bool → List ℕ → List ℕ
kept_sorts [] sorts = []
kept_sorts (keeps ∷ kept) [] = []
kept_sorts (true ∷ kept) (s ∷ sorts) = s ∷ kept_sorts kept sorts
kept_sorts (false ∷ kept) (s ∷ sorts) = kept_sorts kept sorts

-- productions

abbrev passes : Rule → List Bool → Kind → Bool
passes rule kept kind = checked kind (kept_sorts kept (map symbol_sort rule.body)) (symbol_sort (Nonterminal rule.head))

abbrev all_pass : List Rule → List Production → Bool
all_pass [] table = true
all_pass (rule ∷ rules) [] = false
all_pass (rule ∷ rules) (p ∷ table) = passes rule (kept_of p) p.kind && all_pass rules table

pub record Passes (rule : Rule) (kept : List Bool) (found : Option Kind) : Type 0 where
  pub kind : Kind
  pub is_kind : found ≡ Some kind
  pub passed : checked kind (kept_sorts kept (map symbol_sort rule.body)) (symbol_sort (Nonterminal rule.head)) ≡ true

pass_at : (rules : List Rule) (table : List Production) (p : ℕ) (rule : Rule) → all_pass rules table ≡ true → slice_get rules p ≡ Some rule
    → Passes rule (slice_index_or (map kept_of table) p []) (slice_get (map (λ (q : Production). q.kind) table) p)
pass_at [] table p rule e h = absurd (cc)
pass_at (r ∷ rules) [] p rule e h = absurd (cc)
pass_at (r ∷ rules) (q ∷ table) zero rule e h =
    let is : r ≡ rule = cc in
    record { kind = q.kind; is_kind = refl; passed = subst (λ (s : Rule). passes s (kept_of q) q.kind ≡ true) is (left_true (passes r (kept_of q) q.kind) _ e) }
pass_at (r ∷ rules) (q ∷ table) (suc p) rule e h = pass_at rules table p rule (right_true (passes r (kept_of q) q.kind) _ e) h

rules_pass : all_pass (grammar_of complete).rules productions ≡ true
unfolding complete productions tail_in else_in redirects_in items_in commands_in pipelines_in list_in patterns_in case_items_in item_end_in
rules_pass = refl

-- leaves

abbrev below : ℕ → (ℕ → Bool) → Bool
below zero f = true
below (suc n) f = f n && below n f

below_at : (n : ℕ) (f : ℕ → Bool) (k : ℕ) → below n f ≡ true → k < n → f k ≡ true
below_at zero f k e h = absurd (omega arith)
below_at (suc n) f k e h =
    elim (cases_eq k n) [ inl i ↦ subst (λ (m : ℕ). f m ≡ true) (sym i) (left_true (f n) _ e) | inr d ↦ below_at n f k (right_true (f n) _ e) (omega (arith, d)) ]

-- where the terminal accepts the class, and the leaf fits it, the token is of the terminal's sort
abbrev given : Leaf → ℕ → ℕ → Bool
given l k c = nat_eq (get_or terminal_sorts k 0) 0 || (not (fits c l) || (not ((grammar_of complete).accepts k c) || get_or (tests (value.Token c l)) (get_or terminal_sorts k 0) false))

abbrev all_given : Leaf → Bool
all_given l = below 35 (λ k. below 33 (λ c. given l k c))

leaves_given : (l : Leaf) → all_given l ≡ true
unfolding complete and_or_in body_in case_items_in command_in commands_in compound_list_in else_in form_in item_body_in item_end_in item_in items_in leaf_in list_in loop_in name_in number_in parameters_in patterns_in pipeline_in pipelines_in redirect_in redirects_in tail_in values_in word_in
leaves_given leaf.Operator = refl
leaves_given (leaf.Redirection operator) = refl
leaves_given (leaf.HereDocument operator body) = refl
leaves_given (leaf.Number digits) = refl
leaves_given (leaf.Word word) = refl
leaves_given (leaf.Name word name) = refl
leaves_given (leaf.Assignment word name parts) = refl

use_given : (b f a h : Bool) → (b ≡ true → h ≡ true) → (b || (not f || (not a || h))) ≡ true → f ≡ true → a ≡ true → h ≡ true
use_given true f a h z e p q = z refl
use_given false true true h z e p q = e
use_given false false a h z e p q = absurd (cc)
use_given false true false h z e p q = absurd (cc)

class_below : (k c : ℕ) → (grammar_of complete).accepts k c ≡ true → c < 33
unfolding complete
class_below k c a = let l : c ≤ 32 = leb-true c 32 (left_true _ _ a) in omega arith

pub token_has : (k c : ℕ) (l : Leaf) → (grammar_of complete).accepts k c ≡ true → fits c l ≡ true → Has (symbol_sort (Terminal k)) (value.Token c l)
token_has k c l a f =
    elim (cases_lt k 35) [
      | inl less ↦ use_given (nat_eq (get_or terminal_sorts k 0) 0) (fits c l) ((grammar_of complete).accepts k c) (get_or (tests (value.Token c l)) (get_or terminal_sorts k 0) false)
          (λ z. rw (eqb-true (get_or terminal_sorts k 0) 0 z) refl) (below_at 33 (λ c. given l k c) c (below_at 35 (λ k. below 33 (λ c. given l k c)) k (leaves_given l) less) (class_below k c a)) f a
      | inr past ↦ rw (get_or_past terminal_sorts k 0 past) refl
    ]

pub same_grammar : grammar_of substitution ≡ grammar_of complete
unfolding complete substitution
same_grammar = refl

pub rule_passes : (p : ℕ) (rule : Rule) → slice_get (grammar_of complete).rules p ≡ Some rule → Passes rule (slice_index_or kept_symbols p []) (slice_get kinds p)
rule_passes p rule h = pass_at (grammar_of complete).rules productions p rule rules_pass h

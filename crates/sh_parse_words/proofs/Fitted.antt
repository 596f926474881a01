-- A derivation whose tokens have fitting leaves has a value, of its symbol's sort.
use Rattle.std.proofs.Common.{◌≡◌, refl, sym, subst, ℕ, Bool, true, false, List, [], ◌∷◌, ◌++◌, length, take, drop, map, Option, Some, None, is_some, option_map, option_and_then, slice_get}
use Rattle.std.specs.Option.{option_zip}
use Rattle.sh_grammar.specs.declared.Symbol.{Symbol}
use Rattle.sh_grammar.specs.declared.Symbol.TheVariants.{Terminal, Nonterminal}
use Rattle.sh_grammar.specs.declared.Token.{Token}
use Rattle.sh_grammar.specs.Grammar.{Grammar, IsRule, IsTree, AreTrees, Tree, Forest, Leaf, Node, Empty, And, leaves, all_leaves, next_class}
use Rattle.sh_grammar.specs.Tabulation.{grammar_of}
use Rattle.sh_token_grammar.specs.Shell.{complete, substitution}
use Rattle.sh_parse_actions.specs.declared.kind.Kind.{Kind}
use Rattle.sh_parse_actions.specs.declared.leaf.Leaf.{Leaf as TokenLeaf}
use Rattle.sh_parse_actions.specs.declared.value.Value.{Value}
use Rattle.sh_parse_actions.specs.Actions.{production_value}
use Rattle.sh_parse_actions.specs.Values.{list_in}
use Rattle.sh_parse_words.specs.Fitting.{FittingHaveSyntax, all_fit, fits}
use Rattle.sh_parse_words.specs.Meaning.{whole_list, kept_by, kept_values, syntax_of, value_made, value_of, values_of, width}
use Rattle.sh_parse_words.specs.Productions.{kinds}
use Rattle.sh_parse_words.proofs.Bools.{both_true, left_true, right_true}
use Rattle.sh_parse_words.proofs.Sorts.{AllHave, Good, checked_good}
use Rattle.sh_parse_words.proofs.SortTables.{Passes, kept_sorts, rule_passes, same_grammar, symbol_sort, token_has}

fit_parts : (ts us : List Token) (ls : List TokenLeaf) → all_fit (ts ++ us) ls ≡ true
    → (all_fit ts (take (length ts) ls) ≡ true) × (all_fit us (drop (length ts) ls) ≡ true)
fit_parts [] us ls e = (refl, e)
fit_parts (t ∷ ts) us [] e = absurd (cc)
fit_parts (t ∷ ts) us (l ∷ ls) e =
    let others = fit_parts ts us ls (right_true (fits t.class l) _ e) in
    (both_true (fits t.class l) _ (left_true _ _ e) others.0, others.1)

kept_have : (kept : List Bool) (sorts : List ℕ) (vs : List Value) → AllHave sorts vs → AllHave (kept_sorts kept sorts) (kept_values kept vs)
kept_have [] sorts vs h = tt
kept_have (keeps ∷ kept) [] [] h = tt
kept_have (true ∷ kept) (s ∷ sorts) (v ∷ vs) (h, hs) = (h, kept_have kept sorts vs hs)
kept_have (false ∷ kept) (s ∷ sorts) (v ∷ vs) (h, hs) = kept_have kept sorts vs hs
kept_have (keeps ∷ kept) [] (v ∷ vs) h = absurd h
kept_have (keeps ∷ kept) (s ∷ sorts) [] h = absurd h

abbrev GoodAll : List ℕ → Option (List Value) → Type 0
GoodAll sorts None = ⊥
GoodAll sorts (Some vs) = AllHave sorts vs

kind_good : (kept : List Bool) (sorts : List ℕ) (head : ℕ) (vs : List Value) (o : Option Kind) (kind : Kind) → o ≡ Some kind
    → Good head (production_value kind (kept_values kept vs)) → Good head (option_and_then (λ k. production_value k (kept_values kept vs)) o)
kind_good kept sorts head vs o kind e h = rw e h

node_good : (p n : ℕ) (body : List Symbol) → IsRule (grammar_of complete) p n body → (o : Option (List Value)) → GoodAll (map symbol_sort body) o
    → Good (symbol_sort (Nonterminal n)) (option_and_then (value_made p) o)
node_good p n body rule None h = absurd h
node_good p n body rule (Some vs) h =
    let k : Passes (record { head = n; body = body }) (kept_by p) (slice_get kinds p) = rule_passes p (record { head = n; body = body }) rule.there in
    kind_good (kept_by p) (map symbol_sort body) (symbol_sort (Nonterminal n)) vs (slice_get kinds p) k.kind k.is_kind
    (checked_good k.kind (kept_sorts (kept_by p) (map symbol_sort body)) (kept_values (kept_by p) vs) (symbol_sort (Nonterminal n)) k.passed
    (kept_have (kept_by p) (map symbol_sort body) vs h))

and_good : (s : ℕ) (sorts : List ℕ) (o : Option Value) (os : Option (List Value)) → Good s o → GoodAll sorts os
    → GoodAll (s ∷ sorts) (option_map (λ q. q.0 ∷ q.1) (option_zip o os))
and_good s sorts None os h hs = absurd (cc)
and_good s sorts (Some v) None h hs = absurd hs
and_good s sorts (Some v) (Some vs) h hs = (h, hs)

leaf_good : (k : ℕ) (t : Token) (ls : List TokenLeaf) → (grammar_of complete).accepts k t.class ≡ true → all_fit (t ∷ []) ls ≡ true
    → Good (symbol_sort (Terminal k)) (value_of (Leaf t) ls)
leaf_good k t [] a f = absurd (cc)
leaf_good k t (l ∷ []) a f = token_has k t.class l a (left_true _ _ f)
leaf_good k t (l ∷ m ∷ ls) a f = absurd (let r = right_true (fits t.class l) false f in cc)

empty_good : (ls : List TokenLeaf) → all_fit [] ls ≡ true → GoodAll [] (values_of Empty ls)
empty_good [] f = tt
empty_good (l ∷ ls) f = absurd (cc)

mutual
  tree_good : (x : Tree) (e : ℕ) (s : Symbol) → IsTree (grammar_of complete) e s x → (ls : List TokenLeaf) → all_fit (leaves x) ls ≡ true
      → Good (symbol_sort s) (value_of x ls)
  tree_good (Leaf t) e (Terminal k) d ls f = leaf_good k t ls d f
  tree_good (Node p children) e (Nonterminal n) (body, rule, allowed, trees) ls f =
      node_good p n body rule (values_of children ls) (forest_good children e body trees ls f)
  tree_good (Leaf t) e (Nonterminal n) d ls f = absurd d
  tree_good (Node p children) e (Terminal k) d ls f = absurd d

  forest_good : (xs : Forest) (e : ℕ) (symbols : List Symbol) → AreTrees (grammar_of complete) e symbols xs → (ls : List TokenLeaf)
      → all_fit (all_leaves xs) ls ≡ true → GoodAll (map symbol_sort symbols) (values_of xs ls)
  forest_good Empty e [] d ls f = empty_good ls f
  forest_good (And x xs) e (s ∷ symbols) (d, ds) ls f =
      let parts = fit_parts (leaves x) (all_leaves xs) ls f in
      and_good (symbol_sort s) (map symbol_sort symbols) (value_of x (take (width x) ls)) (values_of xs (drop (width x) ls))
      (tree_good x (next_class e (all_leaves xs)) s d (take (width x) ls) parts.0) (forest_good xs e symbols ds (drop (width x) ls) parts.1)
  forest_good Empty e (s ∷ symbols) d ls f = absurd d
  forest_good (And x xs) e [] d ls f = absurd d

some_list : {A B : Type 0} (f : A → B) (o : Option A) → is_some o ≡ true → is_some (option_map f o) ≡ true
some_list f None h = absurd (cc)
some_list f (Some x) h = refl

list_some : (o : Option Value) → Good 17 o → is_some (option_and_then whole_list o) ≡ true
list_some None h = absurd (cc)
list_some (Some v) h = some_list _ (list_in v) h

start_good : (e n : ℕ) (tree : Tree) (tokens : List Token) (ls : List TokenLeaf) → IsTree (grammar_of complete) e (Nonterminal n) tree → leaves tree ≡ tokens
    → symbol_sort (Nonterminal n) ≡ 17 → all_fit tokens ls ≡ true → is_some (syntax_of tree ls) ≡ true
start_good e n tree tokens ls d text is f =
    list_some (value_of tree ls) (subst (λ (s : ℕ). Good s (value_of tree ls)) is
    (tree_good tree e (Nonterminal n) d ls (subst (λ (ts : List Token). all_fit ts ls ≡ true) (sym text) f)))

complete_start : symbol_sort (Nonterminal complete.start) ≡ 17
unfolding complete
complete_start = refl

substitution_start : symbol_sort (Nonterminal substitution.start) ≡ 17
unfolding substitution
substitution_start = refl

pub command_syntax : FittingHaveSyntax complete
command_syntax tokens tree ls d f = start_good _ _ tree tokens ls d.shape d.text complete_start f

pub substitution_syntax : FittingHaveSyntax substitution
substitution_syntax tokens tree ls d f =
    start_good _ _ tree tokens ls (subst (λ (g : Grammar). IsTree g (grammar_of substitution).ending (Nonterminal substitution.start) tree) same_grammar d.shape) d.text
    substitution_start f

-- What the actions of a tree put on the stack is the value of the tree.
use Rattle.std.proofs.Common.{◌≡◌, refl, sym, ap, ◌∙◌, arith, ℕ, suc, ◌+◌, List, [], ◌∷◌, ◌++◌, length, take, drop, reverse, append_assoc, length-append, Option, Some, None, option_map, option_and_then}
use Rattle.std.specs.Option.{option_zip}
use Rattle.std.proofs.lemmas.List.{length-drop, length-take-le, reverse-append, take-append-drop}
use Rattle.sh_grammar.specs.declared.Token.{Token}
use Rattle.sh_grammar.specs.declared.Action.{Action}
use Rattle.sh_grammar.specs.declared.Action.TheVariants.{Expand, Shift}
use Rattle.sh_grammar.specs.Grammar.{Tree, Forest, Leaf, Node, Empty, And, leaves, all_leaves}
use Rattle.sh_grammar.specs.Leftmost.{preorder, preorders}
use Rattle.sh_parse_actions.specs.declared.leaf.Leaf.{Leaf as TokenLeaf}
use Rattle.sh_parse_actions.specs.declared.value.Value.{Value}
use Rattle.sh_parse_words.specs.declared.stack.Making.{Making}
use Rattle.sh_parse_words.specs.Meaning.{kept_by, value_made, value_of, values_of, width}
use Rattle.sh_parse_words.specs.Stack.{run_from, after_action}
use Rattle.sh_parse_words.proofs.Gather.{expanded_is}
use Rattle.sh_parse_words.proofs.Whole.{AllWhole, Whole, count}

abbrev pub making : List TokenLeaf → List Value → Making
making ls vs = record { leaves = ls; values = vs }

pub run-append : (xs ys : List Action) (m : Making) → run_from (xs ++ ys) m ≡ option_and_then (run_from ys) (run_from xs m)
run-append [] ys m = refl
run-append (a ∷ xs) ys m =
    elim (after_action a m) as (λ o. option_and_then (run_from (xs ++ ys)) o ≡ option_and_then (run_from ys) (option_and_then (run_from xs) o))
    [ None ↦ refl | Some n ↦ run-append xs ys n ]

-- as many values as children

zip_length : (o : Option Value) (p : Option (List Value)) (n : ℕ) → ((us : List Value) → p ≡ Some us → length us ≡ n)
    → (vs : List Value) → option_map (λ q. q.0 ∷ q.1) (option_zip o p) ≡ Some vs → length vs ≡ suc n
zip_length None p n h vs e = absurd (cc)
zip_length (Some v) None n h vs e = absurd (cc)
zip_length (Some v) (Some us) n h vs e =
    let is : v ∷ us ≡ vs = cc in sym (ap length is) ∙ ap suc (h us refl)

pub values_length : (xs : Forest) (ls : List TokenLeaf) (vs : List Value) → values_of xs ls ≡ Some vs → length vs ≡ count xs
values_length Empty [] vs e = let is : [] ≡ vs = cc in sym (ap length is)
values_length Empty (l ∷ ls) vs e = absurd (cc)
values_length (And x xs) ls vs e =
    zip_length (value_of x (take (width x) ls)) (values_of xs (drop (width x) ls)) (count xs)
    (λ us h. values_length xs (drop (width x) ls) us h) vs e

-- one action behind others

node_step : (p : ℕ) (more : List TokenLeaf) (stack : List Value) (o : Option (List Value))
    → ((vs : List Value) → o ≡ Some vs → length vs ≡ length (kept_by p))
    → option_and_then (run_from (Expand p ∷ [])) (option_map (λ vs. making more (vs ++ stack)) o)
    ≡ option_map (λ v. making more (v ∷ stack)) (option_and_then (value_made p) o)
node_step p more stack None h = refl
node_step p more stack (Some vs) h =
    ap (λ e. option_and_then (run_from []) (option_map (λ us. making more us) e)) (expanded_is p vs stack (h vs refl))
    ∙ on_top (value_made p vs)
  where
    on_top : (o : Option Value) → option_and_then (run_from []) (option_map (λ us. making more us) (option_map (λ v. v ∷ stack) o)) ≡ option_map (λ v. making more (v ∷ stack)) o
    on_top None = refl
    on_top (Some v) = refl

and_step : (o : Option Value) (p : Option (List Value)) (run : Making → Option Making) (middle more : List TokenLeaf) (stack : List Value)
    → ((vs : List Value) → run (making middle vs) ≡ option_map (λ v. making more (v ∷ vs)) o)
    → option_and_then run (option_map (λ vs. making middle (vs ++ stack)) p)
    ≡ option_map (λ vs. making more (vs ++ stack)) (option_map (λ q. q.0 ∷ q.1) (option_zip o p))
and_step None None run middle more stack h = refl
and_step (Some v) None run middle more stack h = refl
and_step None (Some vs) run middle more stack h = h (vs ++ stack)
and_step (Some v) (Some vs) run middle more stack h = h (vs ++ stack)

-- a tree's leaves and the others are turned round apart
turned : (n : ℕ) (used more : List TokenLeaf) → reverse used ++ more ≡ reverse (drop n used) ++ (reverse (take n used) ++ more)
turned n used more =
    ap (λ ls. reverse ls ++ more) (sym (take-append-drop n used)) ∙ ap (λ ls. ls ++ more) (reverse-append (take n used) (drop n used))
    ∙ append_assoc (reverse (drop n used)) (reverse (take n used)) more

leaf_run : (t : Token) (used more : List TokenLeaf) (stack : List Value) → length used ≡ 1
    → run_from (Shift t ∷ []) (making (reverse used ++ more) stack) ≡ option_map (λ v. making more (v ∷ stack)) (value_of (Leaf t) used)
leaf_run t (leaf ∷ []) more stack n = refl
leaf_run t [] more stack n = absurd (omega arith)
leaf_run t (leaf ∷ other ∷ used) more stack n = absurd (omega arith)

empty_run : (used more : List TokenLeaf) (stack : List Value) → length used ≡ 0
    → run_from [] (making (reverse used ++ more) stack) ≡ option_map (λ vs. making more (vs ++ stack)) (values_of Empty used)
empty_run [] more stack n = refl
empty_run (leaf ∷ used) more stack n = absurd (omega arith)

mutual
  pub tree_run : (x : Tree) → Whole x → (used more : List TokenLeaf) (stack : List Value) → length used ≡ width x
      → run_from (reverse (preorder x)) (making (reverse used ++ more) stack) ≡ option_map (λ v. making more (v ∷ stack)) (value_of x used)
  tree_run (Leaf t) w used more stack n = leaf_run t used more stack n
  tree_run (Node p children) (c, w) used more stack n =
      let m : Making = making (reverse used ++ more) stack in
      ap (λ actions. run_from actions m) (reverse-append (Expand p ∷ []) (preorders children))
      ∙ run-append (reverse (preorders children)) (Expand p ∷ []) m
      ∙ ap (option_and_then (run_from (Expand p ∷ []))) (forest_run children w used more stack n)
      ∙ node_step p more stack (values_of children used) (λ vs e. values_length children used vs e ∙ c)

  forest_run : (xs : Forest) → AllWhole xs → (used more : List TokenLeaf) (stack : List Value) → length used ≡ length (all_leaves xs)
      → run_from (reverse (preorders xs)) (making (reverse used ++ more) stack) ≡ option_map (λ vs. making more (vs ++ stack)) (values_of xs used)
  forest_run Empty w used more stack n = empty_run used more stack n
  forest_run (And x xs) (w, ws) used more stack n =
      let n' : length used ≡ width x + length (all_leaves xs) = n ∙ length-append (leaves x) (all_leaves xs) in
      let first : length (take (width x) used) ≡ width x = length-take-le (width x) used (omega arith) in
      let last : length (drop (width x) used) ≡ length (all_leaves xs) = omega (arith, length-drop (width x) used) in
      let middle : List TokenLeaf = reverse (take (width x) used) ++ more in
      ap (λ actions. run_from actions (making (reverse used ++ more) stack)) (reverse-append (preorder x) (preorders xs))
      ∙ run-append (reverse (preorders xs)) (reverse (preorder x)) (making (reverse used ++ more) stack)
      ∙ ap (λ ls. option_and_then (run_from (reverse (preorder x))) (run_from (reverse (preorders xs)) (making ls stack))) (turned (width x) used more)
      ∙ ap (option_and_then (run_from (reverse (preorder x)))) (forest_run xs ws (drop (width x) used) middle stack last)
      ∙ and_step (value_of x (take (width x) used)) (values_of xs (drop (width x) used)) (run_from (reverse (preorder x))) middle more stack
      (λ vs. tree_run x w (take (width x) used) more vs first)

-- As many leaves are used as there are tokens.
use Rattle.std.proofs.Common.{◌≡◌, refl, ap, ◌∙◌, arith, ℕ, suc, ◌+◌, List, [], ◌∷◌, ◌++◌, length, take, drop, reverse, length-append, Option, Some, None, option_map, sym}
use Rattle.std.proofs.lemmas.List.{length-drop, length-take, reverse-append}
use Rattle.std.specs.Option.{option_zip}
use Rattle.std.proofs.lemmas.Option.{option_and_then_some}
use Rattle.sh_grammar.specs.declared.Action.{Action}
use Rattle.sh_grammar.specs.declared.Action.TheVariants.{Expand, Shift}
use Rattle.sh_grammar.specs.declared.Token.{Token}
use Rattle.sh_grammar.specs.Grammar.{Tree, Forest, Leaf, Node, Empty, And, leaves, all_leaves}
use Rattle.sh_grammar.specs.Leftmost.{preorder, preorders}
use Rattle.sh_parse_actions.specs.declared.leaf.Leaf.{Leaf as TokenLeaf}
use Rattle.sh_parse_actions.specs.declared.value.Value.{Value}
use Rattle.sh_parse_words.specs.declared.stack.Making.{Making}
use Rattle.sh_parse_words.specs.Meaning.{value_made, value_of, values_of, width}
use Rattle.sh_parse_words.specs.Stack.{after_expansion, run_from, after_shift, after_action}

abbrev pub shifts : List Action → ℕ
shifts [] = 0
shifts (Expand p ∷ actions) = shifts actions
shifts (Shift t ∷ actions) = suc (shifts actions)

shifts-append : (xs ys : List Action) → shifts (xs ++ ys) ≡ shifts xs + shifts ys
shifts-append [] ys = omega arith
shifts-append (Expand p ∷ xs) ys = shifts-append xs ys
shifts-append (Shift t ∷ xs) ys = omega (arith, shifts-append xs ys)

shifts-reverse : (xs : List Action) → shifts (reverse xs) ≡ shifts xs
shifts-reverse [] = refl
shifts-reverse (Expand p ∷ xs) =
    let e : shifts (reverse (Expand p ∷ xs)) ≡ shifts (reverse xs) + 0 =
    ap shifts (reverse-append (Expand p ∷ []) xs) ∙ shifts-append (reverse xs) (Expand p ∷ []) in
    omega (arith, e, shifts-reverse xs)
shifts-reverse (Shift t ∷ xs) =
    let e : shifts (reverse (Shift t ∷ xs)) ≡ shifts (reverse xs) + 1 =
    ap shifts (reverse-append (Shift t ∷ []) xs) ∙ shifts-append (reverse xs) (Shift t ∷ []) in
    omega (arith, e, shifts-reverse xs)

mutual
  tree_shifts : (x : Tree) → shifts (preorder x) ≡ width x
  tree_shifts (Leaf t) = refl
  tree_shifts (Node p children) = forest_shifts children

  forest_shifts : (xs : Forest) → shifts (preorders xs) ≡ length (all_leaves xs)
  forest_shifts Empty = refl
  forest_shifts (And x xs) =
      omega (arith, shifts-append (preorder x) (preorders xs), length-append (leaves x) (all_leaves xs), tree_shifts x, forest_shifts xs)

pub all_shifts : (x : Tree) → shifts (reverse (preorder x)) ≡ width x
all_shifts x = shifts-reverse (preorder x) ∙ tree_shifts x

-- each step takes as many leaves as its action has tokens

expand_used : (o : Option (List Value)) (ls : List TokenLeaf) (m : Making) → option_map (λ vs. record { leaves = ls; values = vs }) o ≡ Some m → length ls ≡ length m.leaves
expand_used None ls m e = absurd (cc)
expand_used (Some vs) ls m e = let is : ◌≡◌ {A = Making} (record { leaves = ls; values = vs }) m = cc in ap (λ (k : Making). length k.leaves) is

shift_used : (class : ℕ) (ls : List TokenLeaf) (vs : List Value) (m : Making) → after_shift class ls vs ≡ Some m → length ls ≡ suc (length m.leaves)
shift_used class [] vs m e = absurd (cc)
shift_used class (leaf ∷ ls) vs m e =
    let is : ls ≡ m.leaves = cc in ap (λ (ks : List TokenLeaf). suc (length ks)) is

pub used : (actions : List Action) (k m : Making) → run_from actions k ≡ Some m → length k.leaves ≡ length m.leaves + shifts actions
used [] k m e = let is : k ≡ m = cc in omega (arith, ap (λ (j : Making). length j.leaves) is)
used (Expand p ∷ actions) k m e =
    option_and_then_some (run_from actions) (after_action (Expand p) k) m e
    (λ j h r. expand_used (after_expansion p k.values) k.leaves j h ∙ used actions j m r)
used (Shift t ∷ actions) k m e =
    option_and_then_some (run_from actions) (after_action (Shift t) k) m e
    (λ j h r. omega (arith, shift_used t.class k.leaves k.values j h, used actions j m r))

-- a value has as many leaves as its derivation has tokens

leaf_width : (t : Token) (ls : List TokenLeaf) (v : Value) → value_of (Leaf t) ls ≡ Some v → length ls ≡ 1
leaf_width t [] v e = absurd (cc)
leaf_width t (leaf ∷ []) v e = refl
leaf_width t (leaf ∷ other ∷ ls) v e = absurd (cc)

both_there : (P : Type 0) (o : Option Value) (p : Option (List Value)) (vs : List Value) → option_map (λ q. q.0 ∷ q.1) (option_zip o p) ≡ Some vs
    → ((v : Value) (us : List Value) → o ≡ Some v → p ≡ Some us → P) → P
both_there P None p vs e f = absurd (cc)
both_there P (Some v) None vs e f = absurd (cc)
both_there P (Some v) (Some us) vs e f = f v us refl refl

parted : (n : ℕ) (ls : List TokenLeaf) (k : ℕ) → length (take n ls) ≡ n → length (drop n ls) ≡ k → length ls ≡ n + k
parted n ls k first last = omega (arith, length-take n ls, length-drop n ls)

mutual
  pub value_width : (x : Tree) (ls : List TokenLeaf) (v : Value) → value_of x ls ≡ Some v → length ls ≡ width x
  value_width (Leaf t) ls v e = leaf_width t ls v e
  value_width (Node p children) ls v e =
      option_and_then_some (value_made p) (values_of children ls) v e (λ vs h r. values_width children ls vs h)

  values_width : (xs : Forest) (ls : List TokenLeaf) (vs : List Value) → values_of xs ls ≡ Some vs → length ls ≡ length (all_leaves xs)
  values_width Empty [] vs e = refl
  values_width Empty (leaf ∷ ls) vs e = absurd (cc)
  values_width (And x xs) ls vs e =
      both_there (length ls ≡ length (leaves x ++ all_leaves xs)) (value_of x (take (width x) ls)) (values_of xs (drop (width x) ls)) vs e
      (λ v us h k. parted (width x) ls (length (all_leaves xs)) (value_width x (take (width x) ls) v h) (values_width xs (drop (width x) ls) us k)
      ∙ sym (length-append (leaves x) (all_leaves xs)))

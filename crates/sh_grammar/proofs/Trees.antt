-- A tree and its preorder say the same.
use Rattle.std.proofs.Common.{◌≡◌, ℕ, true, List, [], ◌∷◌, ◌++◌, Some, refl, sym, ap, ◌∙◌, subst, append_assoc}
use Rattle.sh_grammar.specs.declared.Symbol.{Symbol}
use Rattle.sh_grammar.specs.declared.Symbol.TheVariants.{Terminal, Nonterminal}
use Rattle.sh_grammar.specs.declared.Token.{Token}
use Rattle.sh_grammar.specs.declared.Action.{Action}
use Rattle.sh_grammar.specs.declared.Action.TheVariants.{Expand, Shift}
use Rattle.sh_grammar.specs.Grammar.{Grammar, Rule, IsRule, next_class, Tree, Forest, Leaf, Node, Empty, And, IsTree, AreTrees, leaves, all_leaves}
use Rattle.sh_grammar.specs.Leftmost.{preorder, preorders, tokens_of, Leftmost}

pub shifted_append : (a b : List Action) → tokens_of (a ++ b) ≡ tokens_of a ++ tokens_of b
shifted_append [] b = refl
shifted_append (Expand p ∷ a) b = shifted_append a b
shifted_append (Shift t ∷ a) b = ap (λ x. t ∷ x) (shifted_append a b)

mutual
  pub shifted_preorder : (x : Tree) → tokens_of (preorder x) ≡ leaves x
  shifted_preorder (Leaf t) = refl
  shifted_preorder (Node p f) = shifted_preorders f

  pub shifted_preorders : (f : Forest) → tokens_of (preorders f) ≡ all_leaves f
  shifted_preorders Empty = refl
  shifted_preorders (And x f) = shifted_append (preorder x) (preorders f) ∙ (ap (λ a. a ++ tokens_of (preorders f)) (shifted_preorder x) ∙ ap (λ a. leaves x ++ a) (shifted_preorders f))

pub next_append : (e : ℕ) (a b : List Token) → next_class (next_class e b) a ≡ next_class e (a ++ b)
next_append e [] b = refl
next_append e (u ∷ a) b = refl

-- what comes next, before trees and then actions
next_of : (e : ℕ) (f : Forest) (actions : List Action) → next_class (next_class e (tokens_of actions)) (all_leaves f) ≡ next_class e (tokens_of (preorders f ++ actions))
next_of e f actions = next_append e (all_leaves f) (tokens_of actions) ∙ ap (next_class e) (sym (shifted_append (preorders f) actions ∙ ap (λ a. a ++ tokens_of actions) (shifted_preorders f)))

mutual
  pub tree_leads : (g : Grammar) (e : ℕ) (s : Symbol) (x : Tree) (stack : List Symbol) (actions : List Action) → IsTree g (next_class e (tokens_of actions)) s x → Leftmost g e stack actions → Leftmost g e (s ∷ stack) (preorder x ++ actions)
  tree_leads g e (Terminal k) (Leaf t) stack actions h l = (h, l)
  tree_leads g e (Nonterminal n) (Node p f) stack actions h l = (h.0, h.1, subst (λ c. g.allows p c ≡ true) (next_of e f actions) h.2, trees_lead g e h.0 f stack actions h.3 l)
  tree_leads g e (Terminal k) (Node p f) stack actions h l = absurd h
  tree_leads g e (Nonterminal n) (Leaf t) stack actions h l = absurd h

  pub trees_lead : (g : Grammar) (e : ℕ) (symbols : List Symbol) (f : Forest) (stack : List Symbol) (actions : List Action) → AreTrees g (next_class e (tokens_of actions)) symbols f → Leftmost g e stack actions → Leftmost g e (symbols ++ stack) (preorders f ++ actions)
  trees_lead g e [] Empty stack actions h l = l
  trees_lead g e (s ∷ symbols) (And x f) stack actions h l =
      subst (λ a. Leftmost g e (s ∷ (symbols ++ stack)) a) (sym (append_assoc (preorder x) (preorders f) actions)) (tree_leads g e s x (symbols ++ stack) (preorders f ++ actions) (subst (λ c. IsTree g c s x) (next_of e f actions) h.0) (trees_lead g e symbols f stack actions h.1 l))
  trees_lead g e [] (And x f) stack actions h l = absurd h
  trees_lead g e (s ∷ symbols) Empty stack actions h l = absurd h

-- trees of the prefix, and of the rest
record Parts (g : Grammar) (e : ℕ) (body stack : List Symbol) (f : Forest) : Type 0 where
  prefix : Forest
  back : Forest
  prefix_fits : AreTrees g (next_class e (all_leaves back)) body prefix
  back_fits : AreTrees g e stack back
  text : all_leaves f ≡ all_leaves prefix ++ all_leaves back
  joined : preorders f ≡ preorders prefix ++ preorders back

parts : (g : Grammar) (e : ℕ) (body stack : List Symbol) (f : Forest) → AreTrees g e (body ++ stack) f → Parts g e body stack f
parts g e [] stack f h = record { prefix = Empty; back = f; prefix_fits = tt; back_fits = h; text = refl; joined = refl }
parts g e (s ∷ body) stack (And x f) h =
    let r = parts g e body stack f h.1 in
    record {
      prefix = And x r.prefix;
      back = r.back;
      prefix_fits = (subst (λ c. IsTree g c s x) (ap (next_class e) r.text ∙ sym (next_append e (all_leaves r.prefix) (all_leaves r.back))) h.0, r.prefix_fits);
      back_fits = r.back_fits;
      text = ap (λ a. leaves x ++ a) r.text ∙ sym (append_assoc (leaves x) (all_leaves r.prefix) (all_leaves r.back));
      joined = ap (λ a. preorder x ++ a) r.joined ∙ sym (append_assoc (preorder x) (preorders r.prefix) (preorders r.back));
    }
parts g e (s ∷ body) stack Empty h = absurd h

pub record Grown (g : Grammar) (e : ℕ) (stack : List Symbol) (actions : List Action) : Type 0 where
  pub trees : Forest
  pub fit : AreTrees g e stack trees
  pub order : preorders trees ≡ actions

-- what leads to the empty stack is the preorder of trees
pub leads_grow : (g : Grammar) (e : ℕ) (stack : List Symbol) (actions : List Action) → Leftmost g e stack actions → Grown g e stack actions
leads_grow g e [] [] h = record { trees = Empty; fit = tt; order = refl }
leads_grow g e (Terminal k ∷ stack) (Shift t ∷ actions) h =
    let r = leads_grow g e stack actions h.1 in
    record { trees = And (Leaf t) r.trees; fit = (h.0, r.fit); order = ap (λ a. Shift t ∷ a) r.order }
leads_grow g e (Nonterminal n ∷ stack) (Expand p ∷ actions) h =
    let r = leads_grow g e (h.0 ++ stack) actions h.3 in
    let s = parts g e h.0 stack r.trees r.fit in
    let text : tokens_of actions ≡ all_leaves s.prefix ++ all_leaves s.back = sym (ap tokens_of r.order) ∙ (shifted_preorders r.trees ∙ s.text) in
    let guard = subst (λ c. g.allows p c ≡ true) (ap (next_class e) text ∙ sym (next_append e (all_leaves s.prefix) (all_leaves s.back))) h.2 in
    record { trees = And (Node p s.prefix) s.back; fit = ((h.0, h.1, guard, s.prefix_fits), s.back_fits); order = ap (λ a. Expand p ∷ a) (sym s.joined ∙ r.order) }
leads_grow g e (s ∷ stack) [] h = absurd h
leads_grow g e [] (a ∷ actions) h = absurd h
leads_grow g e (Terminal k ∷ stack) (Expand p ∷ actions) h = absurd h
leads_grow g e (Nonterminal n ∷ stack) (Shift t ∷ actions) h = absurd h

abbrev body_of : Rule → List Symbol
body_of r = r.body

some_rule : (a b : Rule) → Some a ≡ Some b → a ≡ b
some_rule a b e = cc

-- a production has one body
pub same_body : (g : Grammar) (p n : ℕ) (a b : List Symbol) → IsRule g p n a → IsRule g p n b → a ≡ b
same_body g p n a b h k = ap body_of (some_rule (record { head = n; body = a }) (record { head = n; body = b }) (sym h.there ∙ k.there))

mutual
  pub tree_once : (g : Grammar) (c d : ℕ) (s : Symbol) (x y : Tree) → IsTree g c s x → IsTree g d s y → (a b : List Action) → preorder x ++ a ≡ preorder y ++ b → (x ≡ y) × (a ≡ b)
  tree_once g c d (Terminal k) (Leaf t) (Leaf u) h i a b e = (cc, cc)
  tree_once g c d (Nonterminal n) (Node p f) (Node q f2) h i a b e =
      let pq : p ≡ q = cc in
      let rest : preorders f ++ a ≡ preorders f2 ++ b = cc in
      let same = same_body g p n h.0 i.0 h.1 (subst (λ r. IsRule g r n i.0) (sym pq) i.1) in
      let r = trees_once g c d h.0 f f2 h.3 (subst (λ body. AreTrees g d body f2) (sym same) i.3) a b rest in
      let fd = r.0 in
      (cc, r.1)
  tree_once g c d (Terminal k) (Leaf t) (Node q f2) h i a b e = absurd i
  tree_once g c d (Nonterminal n) (Node p f) (Leaf u) h i a b e = absurd i
  tree_once g c d (Terminal k) (Node p f) y h i a b e = absurd h
  tree_once g c d (Nonterminal n) (Leaf t) y h i a b e = absurd h

  pub trees_once : (g : Grammar) (c d : ℕ) (symbols : List Symbol) (f f2 : Forest) → AreTrees g c symbols f → AreTrees g d symbols f2 → (a b : List Action) → preorders f ++ a ≡ preorders f2 ++ b → (f ≡ f2) × (a ≡ b)
  trees_once g c d [] Empty Empty h i a b e = (refl, e)
  trees_once g c d (s ∷ symbols) (And x f) (And y f2) h i a b e =
      let q = tree_once g _ _ s x y h.0 i.0 (preorders f ++ a) (preorders f2 ++ b) (sym (append_assoc (preorder x) (preorders f) a) ∙ (e ∙ append_assoc (preorder y) (preorders f2) b)) in
      let r = trees_once g c d symbols f f2 h.1 i.1 a b q.1 in
      let xy = q.0 in
      let fd = r.0 in
      (cc, r.1)
  trees_once g c d [] Empty (And y f2) h i a b e = absurd i
  trees_once g c d [] (And x f) f2 h i a b e = absurd h
  trees_once g c d (s ∷ symbols) (And x f) Empty h i a b e = absurd i
  trees_once g c d (s ∷ symbols) Empty f2 h i a b e = absurd h

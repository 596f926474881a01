-- A tree as a list of actions, in the order in which a reader from left to right meets them.
use Rattle.std.specs.Prelude.{◌≡◌, ℕ, true, List, [], ◌∷◌, ◌++◌}
use Rattle.sh_grammar.specs.declared.Symbol.{Symbol}
use Rattle.sh_grammar.specs.declared.Symbol.TheVariants.{Terminal, Nonterminal}
use Rattle.sh_grammar.specs.declared.Token.{Token}
use Rattle.sh_grammar.specs.declared.Action.{Action}
use Rattle.sh_grammar.specs.declared.Action.TheVariants.{Expand, Shift}
use Rattle.sh_grammar.specs.Grammar.{Grammar, IsRule, next_class, Tree, Forest, Leaf, Node, Empty, And}

abbrev mutual
  pub preorder : Tree → List Action
  preorder (Leaf t) = Shift t ∷ []
  preorder (Node p children) = Expand p ∷ preorders children

  pub preorders : Forest → List Action
  preorders Empty = []
  preorders (And x others) = preorder x ++ preorders others

abbrev pub tokens_of : List Action → List Token
tokens_of [] = []
tokens_of (Expand p ∷ actions) = tokens_of actions
tokens_of (Shift t ∷ actions) = t ∷ tokens_of actions

-- the actions lead from the stack to the empty one, where something of the class e comes after them
abbrev pub Leftmost : Grammar → ℕ → List Symbol → List Action → Type 0
Leftmost g e [] [] = Unit {0}
Leftmost g e (s ∷ stack) [] = ⊥
Leftmost g e [] (a ∷ actions) = ⊥
Leftmost g e (Terminal k ∷ stack) (Shift t ∷ actions) = (g.accepts k t.class ≡ true) × Leftmost g e stack actions
Leftmost g e (Nonterminal n ∷ stack) (Expand p ∷ actions) = (body : List Symbol) × IsRule g p n body × (g.allows p (next_class e (tokens_of actions)) ≡ true) × Leftmost g e (body ++ stack) actions
Leftmost g e (Terminal k ∷ stack) (Expand p ∷ actions) = ⊥
Leftmost g e (Nonterminal n ∷ stack) (Shift t ∷ actions) = ⊥

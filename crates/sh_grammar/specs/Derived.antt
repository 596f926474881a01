-- The tree of some tokens, by computation: first the actions of its preorder, then the tree, built from the
-- last action back to the first.
-- The law 'tree_is_computed' ties it to derivations.
use Rattle.std.specs.Prelude.{ℕ, zero, suc, List, [], ◌∷◌, ◌++◌, length, Option, Some, None}
use Rattle.sh_grammar.specs.declared.Symbol.{Symbol}
use Rattle.sh_grammar.specs.declared.Symbol.TheVariants.{Terminal, Nonterminal}
use Rattle.sh_grammar.specs.declared.Token.{Token}
use Rattle.sh_grammar.specs.declared.Action.{Action}
use Rattle.sh_grammar.specs.declared.Action.TheVariants.{Expand, Shift}
use Rattle.sh_grammar.specs.Computed.{rule_body}
use Rattle.sh_grammar.specs.Grammar.{Grammar, Tree, Forest, Leaf, Node, Empty, And}
use Rattle.sh_grammar.specs.Table.{Table, cost_of, table_of}
use Rattle.sh_grammar.specs.Tabulation.{Tabulation, grammar_of}

abbrev pub number_in : Option ℕ → ℕ
number_in None = 0
number_in (Some p) = p

-- the productions that lead to a token, that token, and then what `more` gives of the stack then; at most so
-- many steps
abbrev pub led_by : Grammar → Table → ℕ → List Symbol → Token → (List Symbol → List Action) → List Action
led_by g t zero stack u more = []
led_by g t (suc f) [] u more = []
led_by g t (suc f) (Terminal k ∷ stack) u more = Shift u ∷ more stack
led_by g t (suc f) (Nonterminal n ∷ stack) u more =
    Expand (number_in (t.predict n u.class)) ∷ led_by g t f (rule_body g (t.predict n u.class) ++ stack) u more

-- the productions that are used at the end, where no token is left
abbrev pub ended_by : Grammar → Table → ℕ → List Symbol → List Action
ended_by g t zero stack = []
ended_by g t (suc f) [] = []
ended_by g t (suc f) (Terminal k ∷ stack) = []
ended_by g t (suc f) (Nonterminal n ∷ stack) =
    Expand (number_in (t.predict n g.ending)) ∷ ended_by g t f (rule_body g (t.predict n g.ending) ++ stack)

-- the actions by which a stack derives some tokens
abbrev pub actions_from : Grammar → Table → List Symbol → List Token → List Action
actions_from g t stack [] = ended_by g t (suc (cost_of t stack)) stack
actions_from g t stack (u ∷ tokens) = led_by g t (suc (cost_of t stack)) stack u (λ s. actions_from g t s tokens)

-- the first n trees, and the others
abbrev pub first_trees : ℕ → Forest → Forest
first_trees zero trees = Empty
first_trees (suc n) Empty = Empty
first_trees (suc n) (And x trees) = And x (first_trees n trees)

abbrev pub other_trees : ℕ → Forest → Forest
other_trees zero trees = trees
other_trees (suc n) Empty = Empty
other_trees (suc n) (And x trees) = other_trees n trees

-- a production takes as many trees as its body has symbols
abbrev pub forest_of : Grammar → List Action → Forest
forest_of g [] = Empty
forest_of g (Shift u ∷ actions) = And (Leaf u) (forest_of g actions)
forest_of g (Expand p ∷ actions) =
    And (Node p (first_trees (length (rule_body g (Some p))) (forest_of g actions))) (other_trees (length (rule_body g (Some p))) (forest_of g actions))

abbrev pub first_tree : Forest → Tree
first_tree Empty = Node 0 Empty
first_tree (And x trees) = x

-- the tree of tokens that are a whole text
unfoldable pub tree_of : Tabulation → List Token → Tree
tree_of d tokens =
    first_tree (forest_of (grammar_of d) (actions_from (grammar_of d) (table_of d) (Nonterminal d.start ∷ []) tokens))

-- Grammars as lists of productions, and what they derive.
use Rattle.std.specs.Prelude.{◌≡◌, ℕ, Bool, true, List, [], ◌∷◌, ◌++◌, Some, slice_get}
use Rattle.sh_grammar.specs.declared.Symbol.{Symbol}
use Rattle.sh_grammar.specs.declared.Symbol.TheVariants.{Terminal, Nonterminal}
use Rattle.sh_grammar.specs.declared.Token.{Token}

-- a production: a nonterminal, and what may replace it
pub record Rule : Type 0 where
  pub head : ℕ
  pub body : List Symbol

-- accepts k c: a token of the class c is one of the terminal k; ending: the class of what is after the last token;
-- allows p c: the guard of the production p: it may be used where what comes next is of the class c
pub record Grammar : Type 0 where
  pub rules : List Rule
  pub accepts : ℕ → ℕ → Bool
  pub ending : ℕ
  pub allows : ℕ → ℕ → Bool

-- the class of the first token; where there is none, e, the class of what comes after the tokens
abbrev pub next_class : ℕ → List Token → ℕ
next_class e [] = e
next_class e (u ∷ tokens) = u.class

mutual
  pub data Tree : Type 0 where
    Leaf : (token : Token) → Tree
    Node : (rule : ℕ) → (children : Forest) → Tree

  pub data Forest : Type 0 where
    Empty : Forest
    And : (first : Tree) → (others : Forest) → Forest

-- the production of this number has this head and this body
pub record IsRule (g : Grammar) (p n : ℕ) (body : List Symbol) : Type 0 where
  pub there : slice_get g.rules p ≡ Some (record { head = n; body = body })

abbrev mutual
  -- the tokens at the leaves, from left to right
  pub leaves : Tree → List Token
  leaves (Leaf t) = t ∷ []
  leaves (Node p children) = all_leaves children

  pub all_leaves : Forest → List Token
  all_leaves Empty = []
  all_leaves (And x others) = leaves x ++ all_leaves others

abbrev mutual
  -- the tree is a derivation from the symbol, where something of the class e comes after it
  pub IsTree : Grammar → ℕ → Symbol → Tree → Type 0
  IsTree g e (Terminal k) (Leaf t) = g.accepts k t.class ≡ true
  IsTree g e (Nonterminal n) (Node p children) =
      (body : List Symbol) × IsRule g p n body × (g.allows p (next_class e (all_leaves children)) ≡ true) × AreTrees g e body children
  IsTree g e (Terminal k) (Node p children) = ⊥
  IsTree g e (Nonterminal n) (Leaf t) = ⊥

  pub AreTrees : Grammar → ℕ → List Symbol → Forest → Type 0
  AreTrees g e [] Empty = Unit {0}
  AreTrees g e (s ∷ symbols) (And x others) = IsTree g (next_class e (all_leaves others)) s x × AreTrees g e symbols others
  AreTrees g e [] (And x others) = ⊥
  AreTrees g e (s ∷ symbols) Empty = ⊥

-- the tokens derive from the symbol, by this tree
pub record Derives (g : Grammar) (s : Symbol) (tokens : List Token) (tree : Tree) : Type 0 where
  pub shape : IsTree g g.ending s tree
  pub text : leaves tree ≡ tokens

-- with some further tokens after them, the tokens derive from the symbol
abbrev pub IsPrefix : Grammar → Symbol → List Token → Type 0
IsPrefix g s tokens = (more : List Token) × (tree : Tree) × Derives g s (tokens ++ more) tree

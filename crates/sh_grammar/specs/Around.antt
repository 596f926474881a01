-- Nodes of a tree around a token, and a nonterminal that marks the end of another one's productions.
use Rattle.std.specs.Prelude.{◌≡◌, ℕ, ◌+◌, ◌-◌, Bool, true, false, not, ◌&&◌, nat_eq, nat_lt, List, [], ◌∷◌, length, slice_get, if◌then◌else◌}
use Rattle.sh_grammar.specs.declared.Symbol.{Symbol}
use Rattle.sh_grammar.specs.Awaited.{is_nonterminal}
use Rattle.sh_grammar.specs.Grammar.{Rule, Tree, Forest, Leaf, Node, Empty, And, leaves}
use Rattle.sh_grammar.specs.Passes.{all_rules, with_rule}
use Rattle.sh_grammar.specs.Tabulation.{Tabulation, grammar_of}

-- the production of this number has the head n
abbrev pub has_head : List Rule → ℕ → ℕ → Bool
has_head rules n p = with_rule (slice_get rules p) (λ r. nat_eq r.head n)

abbrev mutual
  -- how many nodes of a nonterminal's productions are around the token of this number, the first being 0
  pub nodes_around : List Rule → ℕ → Tree → ℕ → ℕ
  nodes_around rules n (Leaf u) = λ i. 0
  nodes_around rules n (Node p children) = λ i. (if has_head rules n p then 1 else 0) + nodes_within rules n children i

  pub nodes_within : List Rule → ℕ → Forest → ℕ → ℕ
  nodes_within rules n Empty = λ i. 0
  nodes_within rules n (And x others) = λ i. if nat_lt i (length (leaves x)) then nodes_around rules n x i else nodes_within rules n others (i - length (leaves x))

-- the nonterminal m is the last of the symbols, and none of the others
abbrev pub is_last_only : ℕ → List Symbol → Bool
is_last_only m [] = false
is_last_only m (s ∷ []) = is_nonterminal m s
is_last_only m (s ∷ t ∷ symbols) = not (is_nonterminal m s) && is_last_only m (t ∷ symbols)

abbrev pub is_absent : ℕ → List Symbol → Bool
is_absent m [] = true
is_absent m (s ∷ symbols) = not (is_nonterminal m s) && is_absent m symbols

abbrev pub is_empty : List Symbol → Bool
is_empty [] = true
is_empty (s ∷ symbols) = false

-- m ends each production of n and is in no other production, and each production of m is empty
abbrev pub marks_rule : ℕ → ℕ → ℕ → Rule → Bool
marks_rule m n p r = (if nat_eq r.head n then is_last_only m r.body else is_absent m r.body) && (if nat_eq r.head m then is_empty r.body else true)

-- the nonterminal m marks the end of each production of n
pub record Marks (d : Tabulation) (m n : ℕ) : Type 0 where
  pub rules : all_rules (marks_rule m n) 0 (grammar_of d).rules ≡ true
  pub start : nat_eq d.start m ≡ false

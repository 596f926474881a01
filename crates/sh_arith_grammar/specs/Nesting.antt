-- The levels of a tree of the grammar: each parenthesis, prefix operator, choice and assignment is one,
-- around what is inside it.
use Rattle.std.specs.Prelude.{ℕ, ◌+◌, Bool, true, false, not, ◌&&◌, nat_lt, if◌then◌else◌}
use Rattle.sh_grammar.specs.Grammar.{Tree, Forest, Leaf, Node, Empty, And}
use Rattle.sh_arith_grammar.specs.declared.grammar.Kind.{Kind}
use Rattle.sh_arith_grammar.specs.declared.grammar.Kind.TheVariants as kind
use Rattle.sh_arith_grammar.specs.Roles.{kind_of}

abbrev pub is_level : Kind → Bool
is_level kind.Within = true
is_level kind.Prefix = true
is_level kind.Chooses = true
is_level kind.Assigns = true
is_level kind.Chain = false
is_level kind.Rest = false
is_level kind.Takes = false
is_level kind.Zero = false
is_level kind.Named = false
is_level kind.Number = false
is_level kind.Binary = false
is_level kind.Logic = false
is_level kind.Load = false
is_level kind.Turn = false
is_level kind.Do = false
is_level kind.Decide = false
is_level kind.Join = false
is_level kind.Store = false

abbrev mutual
  -- whether no more than 500 levels are around any part of the tree, where m are around the whole tree
  pub is_few : Tree → ℕ → Bool
  is_few (Leaf t) = λ m. true
  is_few (Node p children) = λ m. if is_level (kind_of p) then not (nat_lt 500 (m + 1)) && are_few children (m + 1) else are_few children m

  pub are_few : Forest → ℕ → Bool
  are_few Empty = λ m. true
  are_few (And x others) = λ m. is_few x m && are_few others m

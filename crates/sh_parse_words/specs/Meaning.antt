-- What a derivation means, where each token has its leaf: the value of its root.
use Rattle.std.specs.Prelude.{◌≡◌, ℕ, Bool, true, false, List, [], ◌∷◌, length, take, drop, Option, Some, None, slice_get, slice_index_or, option_map}
use Rattle.std.specs.Option.{option_and_then, option_zip}
use Rattle.sh_grammar.specs.declared.Action.{Action}
use Rattle.sh_grammar.specs.declared.Token.{Token}
use Rattle.sh_grammar.specs.Leftmost.{preorder}
use Rattle.sh_grammar.specs.Tabulation.{Tabulation}
use Rattle.sh_grammar.specs.Text.{IsTreeOf}
use Rattle.sh_grammar.specs.Grammar.{Tree, Forest, Leaf, Node, Empty, And, leaves}
use Rattle.sh_syntax.specs.declared.tree.CompoundList.{CompoundList}
use Rattle.sh_parse_actions.specs.declared.leaf.Leaf.{Leaf as TokenLeaf}
use Rattle.sh_parse_actions.specs.declared.value.Value.{Value}
use Rattle.sh_parse_actions.specs.declared.value.Value.TheVariants as value
use Rattle.sh_parse_actions.specs.Forms.{compound_list}
use Rattle.sh_parse_actions.specs.Actions.{production_value}
use Rattle.sh_parse_actions.specs.Values.{list_in}
use Rattle.sh_parse_words.specs.Productions.{kept_symbols, kinds}

-- the values of the symbols that matter
abbrev pub kept_values : List Bool → List Value → List Value
kept_values [] vs = []
kept_values (keeps ∷ kept) [] = []
kept_values (true ∷ kept) (v ∷ vs) = v ∷ kept_values kept vs
kept_values (false ∷ kept) (v ∷ vs) = kept_values kept vs

abbrev pub kept_by : ℕ → List Bool
kept_by p = slice_index_or kept_symbols p []

-- the value of a production, from the values of the symbols of its body
abbrev pub value_made : ℕ → List Value → Option Value
value_made p vs = option_and_then (λ kind. production_value kind (kept_values (kept_by p) vs)) (slice_get kinds p)

-- how many tokens a derivation has
abbrev pub width : Tree → ℕ
width x = length (leaves x)

-- the item of a list that has just one
abbrev pub only : {A : Type 0} → List A → Option A
only [] = None
only (x ∷ []) = Some x
only (x ∷ y ∷ xs) = None

abbrev pub no_values : List TokenLeaf → Option (List Value)
no_values [] = Some []
no_values (leaf ∷ others) = None

abbrev mutual
  -- the value of a derivation, whose tokens have just these leaves, in this order
  pub value_of : Tree → List TokenLeaf → Option Value
  value_of (Leaf t) ls = option_map (value.Token t.class) (only ls)
  value_of (Node p children) ls = option_and_then (value_made p) (values_of children ls)

  pub values_of : Forest → List TokenLeaf → Option (List Value)
  values_of Empty ls = no_values ls
  values_of (And x others) ls = option_map (λ p. p.0 ∷ p.1) (option_zip (value_of x (take (width x) ls)) (values_of others (drop (width x) ls)))

-- a list of commands, as a whole
abbrev pub whole_list : Value → Option CompoundList
whole_list v = option_map compound_list (list_in v)

-- the syntax of a derivation, whose tokens have these leaves
abbrev pub syntax_of : Tree → List TokenLeaf → Option CompoundList
syntax_of tree ls = option_and_then whole_list (value_of tree ls)

-- where the actions are a derivation by the grammar, what is found is the syntax of that derivation
abbrev pub IsSyntaxWhere : Tabulation → List Action → List TokenLeaf → Option CompoundList → Type 0
IsSyntaxWhere grammar actions ls found =
    (tokens : List Token) (tree : Tree) → IsTreeOf grammar tokens tree → preorder tree ≡ actions → found ≡ syntax_of tree ls

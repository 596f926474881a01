-- The stack on which values are made, from the last action of a derivation back to the first; only proofs
-- need it. The value of the leftmost symbol is on top, at the head of the list.
use Rattle.std.specs.Prelude.{ℕ, Bool, true, false, Option, Some, None, List, [], ◌∷◌, reverse, slice_get, option_map}
use Rattle.std.specs.Option.{option_and_then}
use Rattle.sh_grammar.specs.declared.Action.{Action}
use Rattle.sh_grammar.specs.declared.Action.TheVariants.{Expand, Shift}
use Rattle.sh_parse_actions.specs.declared.kind.Kind.{Kind}
use Rattle.sh_parse_actions.specs.declared.leaf.Leaf.{Leaf}
use Rattle.sh_parse_actions.specs.declared.value.Children.{Children}
use Rattle.sh_parse_actions.specs.declared.value.Children.TheVariants as children
use Rattle.sh_parse_actions.specs.declared.value.Value.{Value}
use Rattle.sh_parse_actions.specs.declared.value.Value.TheVariants as value
use Rattle.sh_parse_actions.specs.Actions.{production_value}
use Rattle.sh_parse_actions.specs.Values.{children_values, with_child}
use Rattle.sh_parse_words.specs.declared.stack.Making.{Making}
use Rattle.sh_parse_words.specs.Meaning.{whole_list, kept_by, only}
use Rattle.sh_parse_words.specs.Productions.{kinds}
use Rattle.sh_syntax.specs.declared.tree.CompoundList.{CompoundList}

-- a value that matters becomes one of the children
abbrev pub with_value : Bool → Value → Children × List Value → Option (Children × List Value)
with_value true v g = option_map (λ c. (c, g.1)) (with_child v g.0)
with_value false v g = Some g

-- takes off the values of a production's symbols: gives the values that matter, and what is left on the stack
abbrev pub children_and_rest : List Bool → List Value → Option (Children × List Value)
children_and_rest [] vs = Some (children.None, vs)
children_and_rest (keeps ∷ kept) [] = None
children_and_rest (keeps ∷ kept) (v ∷ vs) = option_and_then (with_value keeps v) (children_and_rest kept vs)

abbrev pub made_on : Kind → Children × List Value → Option (List Value)
made_on kind g = option_map (λ v. v ∷ g.1) (production_value kind (children_values g.0))

-- the values of a production's symbols are replaced by the value of the production
abbrev pub after_expansion : ℕ → List Value → Option (List Value)
after_expansion p vs = option_and_then (λ kind. option_and_then (made_on kind) (children_and_rest (kept_by p) vs)) (slice_get kinds p)

-- puts a token on the stack, with the last of the leaves
abbrev pub after_shift : ℕ → List Leaf → List Value → Option Making
after_shift class [] vs = None
after_shift class (leaf ∷ ls) vs = Some (record { leaves = ls; values = value.Token class leaf ∷ vs })

abbrev pub after_action : Action → Making → Option Making
after_action (Expand p) m = option_map (λ vs. record { leaves = m.leaves; values = vs }) (after_expansion p m.values)
after_action (Shift t) m = after_shift t.class m.leaves m.values

-- the actions one after another
abbrev pub run_from : List Action → Making → Option Making
run_from [] m = Some m
run_from (a ∷ actions) m = option_and_then (run_from actions) (after_action a m)

abbrev pub at_start : List Leaf → Making
at_start ls = record { leaves = reverse ls; values = [] }

-- the one value, where no leaf is left
abbrev pub finished_with : List Leaf → List Value → Option CompoundList
finished_with [] vs = option_and_then whole_list (only vs)
finished_with (leaf ∷ ls) vs = None

abbrev pub whole_tree : Making → Option CompoundList
whole_tree m = finished_with m.leaves m.values

-- what the actions make with these leaves
abbrev pub made_all : List Action → List Leaf → Option CompoundList
made_all actions ls = option_and_then whole_tree (run_from (reverse actions) (at_start ls))

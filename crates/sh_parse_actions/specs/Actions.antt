-- What each kind of production makes of the values of its symbols: the forms of the tree (XCU 2.7, 2.9 and
-- 2.10.2). It is None where a value lacks the part that the production takes from it.
use Rattle.std.specs.Prelude.{ℕ, Option, Some, None, List, [], ◌∷◌, option_map}
use Rattle.std.specs.Option.{option_and_then, option_zip}
use Rattle.sh_syntax.specs.declared.tree.AndOr.{AndOr}
use Rattle.sh_syntax.specs.declared.tree.Compound.{Compound}
use Rattle.sh_syntax.specs.declared.tree.ListItem.{ListItem}
use Rattle.sh_syntax.specs.declared.tree.Name.{Name}
use Rattle.sh_syntax.specs.declared.tree.Word.{Word}
use Rattle.sh_syntax.specs.declared.tree.CaseEnd.TheVariants as ends
use Rattle.sh_syntax.specs.declared.tree.Command.TheVariants as command
use Rattle.sh_syntax.specs.declared.tree.CompoundForm.TheVariants as form
use Rattle.sh_parse_actions.specs.declared.kind.Kind.{Kind}
use Rattle.sh_parse_actions.specs.declared.kind.Kind.TheVariants.{Nothing, One, Two, Three}
use Rattle.sh_parse_actions.specs.declared.kind.Unary.{Unary}
use Rattle.sh_parse_actions.specs.declared.kind.Unary.TheVariants as one
use Rattle.sh_parse_actions.specs.declared.kind.Binary.{Binary}
use Rattle.sh_parse_actions.specs.declared.kind.Binary.TheVariants as two
use Rattle.sh_parse_actions.specs.declared.kind.Ternary.{Ternary}
use Rattle.sh_parse_actions.specs.declared.kind.Ternary.TheVariants as three
use Rattle.sh_parse_actions.specs.declared.kind.Item.{Item}
use Rattle.sh_parse_actions.specs.declared.kind.Item.TheVariants as kind
use Rattle.sh_parse_actions.specs.declared.value.Parameters.{Parameters}
use Rattle.sh_parse_actions.specs.declared.value.Tail.{Tail}
use Rattle.sh_parse_actions.specs.declared.value.Values.{Values}
use Rattle.sh_parse_actions.specs.declared.value.Value.{Value}
use Rattle.sh_parse_actions.specs.declared.value.Value.TheVariants as value
use Rattle.sh_parse_actions.specs.Forms.{and_or, case_item, compound_list, compound, conditional, connected_pipeline, else_if, list_item, pipeline, redirect}
use Rattle.sh_parse_actions.specs.Values.{and_or_in, body_in, case_items_in, command_in, commands_in, compound_list_in, else_in, form_in, item_body_in, item_end_in, item_in, items_in, list_in, loop_in, name_in, number_in, parameters_in, patterns_in, pipeline_in, pipelines_in, redirect_in, redirects_in, tail_in, target_in, values_in, word_in}

-- what a production makes of one value
abbrev pub made_one : Unary → Value → Option Value
made_one one.Same a = Some a
made_one (one.Separated separator) a = option_map (λ items. value.Tail (record { separator = separator; items = items })) (list_in a)
made_one one.Else a = option_map (λ list. value.Else (record { else_ifs = []; else_body = Some list })) (compound_list_in a)
made_one (one.Parameters is_separated) a = option_map (λ list. value.Parameters (record { is_separated = is_separated; body = list })) (compound_list_in a)
made_one one.LastValue a = option_map (λ list. value.Values (record { words = []; body = list })) (compound_list_in a)
made_one one.Group a = option_map (λ list. value.Form (form.Group list)) (compound_list_in a)
made_one one.Subshell a = option_map (λ list. value.Form (form.Subshell list)) (compound_list_in a)
made_one one.EmptyItem a = option_map (λ end. value.ItemBody (record { body = compound_list []; end = end })) (item_end_in a)
made_one one.Break a = option_map (λ items. value.ItemEnd (record { end = ends.Break; items = items })) (case_items_in a)

-- the items of a list: the first AND-OR list with its separator, and the others
abbrev pub list_items : AndOr → Tail → List ListItem
list_items list tail = list_item list tail.separator ∷ tail.items

abbrev pub made_simple : Item → Value → Value → Option Value
made_simple kind a b = option_map (λ p. value.Command (command.Simple (p.0 ∷ p.1))) (option_zip (item_in kind a) (items_in b))

-- a name and a body after it are a function; any other value after the name has the other items of a simple
-- command
abbrev pub made_named : Option Compound → Value → Value → Option Value
made_named (Some body) a b = option_map (λ name. value.Command (command.Function name body)) (name_in a)
made_named None a b = made_simple kind.Word a b

-- a `for` from its variable and what comes after that
abbrev pub made_for : Option Parameters → Option Values → Name → Option Value
made_for (Some p) values name = Some (value.Form (form.ForParameters name p.is_separated p.body))
made_for None values name = option_map (λ v. value.Form (form.For name v.words v.body)) values

-- a redirection from its number, operator and word
abbrev pub made_redirect : Option (List ℕ) → Value → Word → Option Value
made_redirect number operator word = option_map (λ target. value.Redirect (redirect number target)) (target_in operator word)

-- what a production makes of two values
abbrev pub made_two : Binary → Value → Value → Option Value
made_two two.List a b = option_map (λ p. value.List (list_items p.0 p.1)) (option_zip (and_or_in a) (tail_in b))
made_two two.CompoundList a b = option_map (λ p. value.CompoundList (compound_list (list_items p.0 p.1))) (option_zip (and_or_in a) (tail_in b))
made_two two.AndOr a b = option_map (λ p. value.AndOr (and_or p.0 p.1)) (option_zip (pipeline_in a) (pipelines_in b))
made_two (two.Connected connector) a b = option_map (λ p. value.Pipelines (connected_pipeline connector p.0 ∷ p.1)) (option_zip (pipeline_in a) (pipelines_in b))
made_two (two.Pipeline is_negated) a b = option_map (λ p. value.Pipeline (pipeline is_negated p.0 p.1)) (option_zip (command_in a) (commands_in b))
made_two two.Piped a b = option_map (λ p. value.Commands (p.0 ∷ p.1)) (option_zip (command_in a) (commands_in b))
made_two two.Compound a b = option_map (λ p. value.Command (command.Compound (compound p.0 p.1))) (option_zip (form_in a) (redirects_in b))
made_two two.Body a b = option_map (λ p. value.Body (compound p.0 p.1)) (option_zip (form_in a) (redirects_in b))
made_two two.Named a b = made_named (body_in b) a b
made_two (two.Simple kind) a b = made_simple kind a b
made_two (two.Items kind) a b = option_map (λ p. value.Items (p.0 ∷ p.1)) (option_zip (item_in kind a) (items_in b))
made_two two.Redirects a b = option_map (λ p. value.Redirects (p.0 ∷ p.1)) (option_zip (redirect_in a) (redirects_in b))
made_two two.Redirect a b = option_and_then (made_redirect None a) (word_in b)
made_two two.For a b = option_and_then (made_for (parameters_in b) (values_in b)) (name_in a)
made_two two.Value a b = option_map (λ p. value.Values (record { words = p.0 ∷ p.1.words; body = p.1.body })) (option_zip (word_in a) (values_in b))
made_two two.Case a b = option_map (λ p. value.Form (form.Case p.0 p.1)) (option_zip (word_in a) (case_items_in b))
made_two two.Patterns a b = option_map (λ p. value.Patterns (p.0 ∷ p.1)) (option_zip (word_in a) (patterns_in b))

-- what a production makes of three values
abbrev pub made_three : Ternary → Value → Value → Value → Option Value
made_three three.Redirect a b c = option_and_then (λ p. made_redirect (Some p.0) b p.1) (option_zip (number_in a) (word_in c))
made_three three.If a b c =
    option_map (λ p. value.Form (conditional p.0.0 p.0.1 p.1)) (option_zip (option_zip (compound_list_in a) (compound_list_in b)) (else_in c))
made_three three.ElseIf a b c =
    option_map (λ p. value.Else (record { else_ifs = else_if p.0.0 p.0.1 ∷ p.1.else_ifs; else_body = p.1.else_body }))
    (option_zip (option_zip (compound_list_in a) (compound_list_in b)) (else_in c))
made_three three.Loop a b c =
    option_map (λ p. value.Form (form.Loop p.0.0 p.0.1 p.1)) (option_zip (option_zip (loop_in a) (compound_list_in b)) (compound_list_in c))
made_three (three.CaseItem has_parenthesis) a b c =
    option_map (λ p. value.CaseItems (case_item has_parenthesis p.0.0 p.0.1 p.1 ∷ p.1.end.items))
    (option_zip (option_zip (word_in a) (patterns_in b)) (item_body_in c))
made_three three.ItemList a b c =
    option_map (λ p. value.ItemBody (record { body = compound_list (list_items p.0.0 p.0.1); end = p.1 }))
    (option_zip (option_zip (and_or_in a) (tail_in b)) (item_end_in c))

-- what is made of the values of the symbols that matter, where there are as many as the kind asks for
abbrev pub made_of_one : Unary → List Value → Option Value
made_of_one kind (a ∷ []) = made_one kind a
made_of_one kind vs = None

abbrev pub made_of_two : Binary → List Value → Option Value
made_of_two kind (a ∷ b ∷ []) = made_two kind a b
made_of_two kind vs = None

abbrev pub made_of_three : Ternary → List Value → Option Value
made_of_three kind (a ∷ b ∷ c ∷ []) = made_three kind a b c
made_of_three kind vs = None

-- what a production of a kind makes of the values of the symbols that matter
abbrev pub production_value : Kind → List Value → Option Value
production_value Nothing vs = Some value.Nothing
production_value (One kind) vs = made_of_one kind vs
production_value (Two kind) vs = made_of_two kind vs
production_value (Three kind) vs = made_of_three kind vs

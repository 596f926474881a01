-- The parts that productions take from the values of their symbols. A production of nothing has the value
-- `Nothing`, which counts as each empty part.
use Rattle.std.specs.Prelude.{ℕ, nat_eq, Option, Some, None, List, [], ◌∷◌, if◌then◌else◌, option_map}
use Rattle.std.specs.Option.{option_and_then}
use Rattle.sh_token_grammar.specs.declared.class.TokenClass.TheVariants.{While, Until}
use Rattle.sh_token_grammar.specs.Classes.{class_number}
use Rattle.sh_syntax.specs.declared.tree.AndOr.{AndOr}
use Rattle.sh_syntax.specs.declared.tree.CaseEnd.TheVariants.{Omitted}
use Rattle.sh_syntax.specs.declared.tree.CaseItem.{CaseItem}
use Rattle.sh_syntax.specs.declared.tree.Command.{Command}
use Rattle.sh_syntax.specs.declared.tree.CompoundList.{CompoundList}
use Rattle.sh_syntax.specs.declared.tree.Compound.{Compound}
use Rattle.sh_syntax.specs.declared.tree.CompoundForm.{CompoundForm}
use Rattle.sh_syntax.specs.declared.tree.Connected.{Connected}
use Rattle.sh_syntax.specs.declared.tree.ListItem.{ListItem}
use Rattle.sh_syntax.specs.declared.tree.LoopKind.{LoopKind}
use Rattle.sh_syntax.specs.declared.tree.LoopKind.TheVariants as loop
use Rattle.sh_syntax.specs.declared.tree.Name.{Name}
use Rattle.sh_syntax.specs.declared.tree.Pipeline.{Pipeline}
use Rattle.sh_syntax.specs.declared.tree.Redirect.{Redirect}
use Rattle.sh_syntax.specs.declared.tree.Separator.TheVariants.{Sequential}
use Rattle.sh_syntax.specs.declared.tree.SimpleItem.{SimpleItem}
use Rattle.sh_syntax.specs.declared.tree.SimpleItem.TheVariants as item
use Rattle.sh_syntax.specs.declared.tree.Target.{Target}
use Rattle.sh_syntax.specs.declared.tree.Target.TheVariants as target
use Rattle.sh_syntax.specs.declared.tree.Word.{Word}
use Rattle.sh_syntax.specs.declared.tree.Command.TheViews.{out-Word}
use Rattle.sh_parse_actions.specs.declared.kind.Item.{Item}
use Rattle.sh_parse_actions.specs.declared.kind.Item.TheVariants as kind
use Rattle.sh_parse_actions.specs.declared.leaf.Leaf.{Leaf}
use Rattle.sh_parse_actions.specs.declared.leaf.Leaf.TheVariants as leaf
use Rattle.sh_parse_actions.specs.declared.value.Children.{Children}
use Rattle.sh_parse_actions.specs.declared.value.Children.TheVariants as children
use Rattle.sh_parse_actions.specs.declared.value.ElsePart.{ElsePart}
use Rattle.sh_parse_actions.specs.declared.value.ItemBody.{ItemBody}
use Rattle.sh_parse_actions.specs.declared.value.ItemEnd.{ItemEnd}
use Rattle.sh_parse_actions.specs.declared.value.Parameters.{Parameters}
use Rattle.sh_parse_actions.specs.declared.value.Tail.{Tail}
use Rattle.sh_parse_actions.specs.declared.value.Values.{Values}
use Rattle.sh_parse_actions.specs.declared.value.Value.{Value}
use Rattle.sh_parse_actions.specs.declared.value.Value.TheVariants as value

-- what a token is to the tree
unfoldable pub leaf_in : Value → Option Leaf
leaf_in (value.Token class l) = Some l
leaf_in v = None

-- any word
abbrev pub leaf_word : Leaf → Option Word
leaf_word (leaf.Word w) = Some w
leaf_word (leaf.Name w name) = Some w
leaf_word (leaf.Assignment w name parts) = Some w
leaf_word l = None

unfoldable pub word_in : Value → Option Word
word_in v = option_and_then leaf_word (leaf_in v)

-- a word that is a name
abbrev pub leaf_name : Leaf → Option Name
leaf_name (leaf.Name w name) = Some (record { name = name; source = (out-Word w).source })
leaf_name l = None

unfoldable pub name_in : Value → Option Name
name_in v = option_and_then leaf_name (leaf_in v)

-- the number before a redirection's operator
abbrev pub leaf_number : Leaf → Option (List ℕ)
leaf_number (leaf.Number digits) = Some digits
leaf_number l = None

unfoldable pub number_in : Value → Option (List ℕ)
number_in v = option_and_then leaf_number (leaf_in v)

-- what a redirection's operator and word say (2.7)
abbrev pub leaf_target : Word → Leaf → Option Target
leaf_target w (leaf.Redirection operator) = Some (target.Named operator w)
leaf_target w (leaf.HereDocument operator body) = Some (target.Here operator w body)
leaf_target w l = None

unfoldable pub target_in : Value → Word → Option Target
target_in v w = option_and_then (leaf_target w) (leaf_in v)

-- how long a loop runs, by its first word
abbrev pub loop_kind : ℕ → Option LoopKind
loop_kind class =
    if nat_eq class (class_number While) then Some loop.While else if nat_eq class (class_number Until) then Some loop.Until else None

unfoldable pub loop_in : Value → Option LoopKind
loop_in (value.Token class l) = loop_kind class
loop_in v = None

-- an assignment of a simple command (XCU 2.9.1)
abbrev pub leaf_assignment : Leaf → Option SimpleItem
leaf_assignment (leaf.Assignment w name parts) = Some (item.Assignment name parts (out-Word w).source)
leaf_assignment l = None

unfoldable pub redirect_in : Value → Option Redirect
redirect_in (value.Redirect x) = Some x
redirect_in v = None

unfoldable pub body_in : Value → Option Compound
body_in (value.Body x) = Some x
body_in v = None

unfoldable pub command_in : Value → Option Command
command_in (value.Command x) = Some x
command_in v = None

unfoldable pub pipeline_in : Value → Option Pipeline
pipeline_in (value.Pipeline x) = Some x
pipeline_in v = None

unfoldable pub and_or_in : Value → Option AndOr
and_or_in (value.AndOr x) = Some x
and_or_in v = None

unfoldable pub compound_list_in : Value → Option CompoundList
compound_list_in (value.CompoundList x) = Some x
compound_list_in v = None

unfoldable pub form_in : Value → Option CompoundForm
form_in (value.Form x) = Some x
form_in v = None

unfoldable pub values_in : Value → Option Values
values_in (value.Values x) = Some x
values_in v = None

unfoldable pub item_body_in : Value → Option ItemBody
item_body_in (value.ItemBody x) = Some x
item_body_in v = None

unfoldable pub item_in : Item → Value → Option SimpleItem
item_in kind.Word v = option_map item.Word (word_in v)
item_in kind.Assignment v = option_and_then leaf_assignment (leaf_in v)
item_in kind.Redirect v = option_map item.Redirect (redirect_in v)

-- lists

unfoldable pub redirects_in : Value → Option (List Redirect)
redirects_in value.Nothing = Some []
redirects_in (value.Redirects xs) = Some xs
redirects_in v = None

unfoldable pub items_in : Value → Option (List SimpleItem)
items_in value.Nothing = Some []
items_in (value.Items xs) = Some xs
items_in v = None

unfoldable pub commands_in : Value → Option (List Command)
commands_in value.Nothing = Some []
commands_in (value.Commands xs) = Some xs
commands_in v = None

unfoldable pub pipelines_in : Value → Option (List Connected)
pipelines_in value.Nothing = Some []
pipelines_in (value.Pipelines xs) = Some xs
pipelines_in v = None

unfoldable pub list_in : Value → Option (List ListItem)
list_in value.Nothing = Some []
list_in (value.List xs) = Some xs
list_in v = None

unfoldable pub patterns_in : Value → Option (List Word)
patterns_in value.Nothing = Some []
patterns_in (value.Patterns xs) = Some xs
patterns_in v = None

unfoldable pub case_items_in : Value → Option (List CaseItem)
case_items_in value.Nothing = Some []
case_items_in (value.CaseItems xs) = Some xs
case_items_in v = None

-- what comes after an AND-OR list; without a separator the shell waits for the end of the list
unfoldable pub tail_in : Value → Option Tail
tail_in value.Nothing = Some (record { separator = Sequential; items = [] })
tail_in (value.Tail x) = Some x
tail_in v = None

unfoldable pub else_in : Value → Option ElsePart
else_in value.Nothing = Some (record { else_ifs = []; else_body = None })
else_in (value.Else x) = Some x
else_in v = None

unfoldable pub item_end_in : Value → Option ItemEnd
item_end_in value.Nothing = Some (record { end = Omitted; items = [] })
item_end_in (value.ItemEnd x) = Some x
item_end_in v = None

unfoldable pub parameters_in : Value → Option Parameters
parameters_in (value.Parameters x) = Some x
parameters_in v = None

-- the values of the symbols that matter
abbrev pub children_values : Children → List Value
children_values children.None = []
children_values (children.One a) = a ∷ []
children_values (children.Two a b) = a ∷ b ∷ []
children_values (children.Three a b c) = a ∷ b ∷ c ∷ []

-- the values with one more before them, where there aren't three already
abbrev pub with_child : Value → Children → Option Children
with_child v children.None = Some (children.One v)
with_child v (children.One a) = Some (children.Two v a)
with_child v (children.Two a b) = Some (children.Three v a b)
with_child v (children.Three a b c) = None

-- The forms of a tree from their parts.
use Rattle.std.specs.Prelude.{ℕ, Bool, Option, List}
use Rattle.sh_syntax.specs.declared.tree.AndOr.{AndOr}
use Rattle.sh_syntax.specs.declared.tree.CaseItem.{CaseItem}
use Rattle.sh_syntax.specs.declared.tree.Command.{Command}
use Rattle.sh_syntax.specs.declared.tree.CompoundList.{CompoundList}
use Rattle.sh_syntax.specs.declared.tree.Compound.{Compound}
use Rattle.sh_syntax.specs.declared.tree.CompoundForm.{CompoundForm}
use Rattle.sh_syntax.specs.declared.tree.Connected.{Connected}
use Rattle.sh_syntax.specs.declared.tree.Connector.{Connector}
use Rattle.sh_syntax.specs.declared.tree.ElseIf.{ElseIf}
use Rattle.sh_syntax.specs.declared.tree.ListItem.{ListItem}
use Rattle.sh_syntax.specs.declared.tree.Pipeline.{Pipeline}
use Rattle.sh_syntax.specs.declared.tree.Redirect.{Redirect}
use Rattle.sh_syntax.specs.declared.tree.Separator.{Separator}
use Rattle.sh_syntax.specs.declared.tree.Target.{Target}
use Rattle.sh_syntax.specs.declared.tree.Word.{Word}
use Rattle.sh_syntax.specs.declared.tree.CompoundForm.TheVariants as form
use Rattle.sh_syntax.specs.declared.tree.Command.TheViews as view
use Rattle.sh_parse_actions.specs.declared.value.ElsePart.{ElsePart}
use Rattle.sh_parse_actions.specs.declared.value.ItemBody.{ItemBody}

abbrev pub compound_list : List ListItem → CompoundList
compound_list items = view.roll-CompoundList (record { items = items })

abbrev pub list_item : AndOr → Separator → ListItem
list_item list separator = view.roll-ListItem (record { list = list; separator = separator })

abbrev pub and_or : Pipeline → List Connected → AndOr
and_or first rest = view.roll-AndOr (record { first = first; rest = rest })

abbrev pub connected_pipeline : Connector → Pipeline → Connected
connected_pipeline connector pipeline = view.roll-Connected (record { connector = connector; pipeline = pipeline })

abbrev pub pipeline : Bool → Command → List Command → Pipeline
pipeline is_negated first rest = view.roll-Pipeline (record { is_negated = is_negated; first = first; rest = rest })

abbrev pub compound : CompoundForm → List Redirect → Compound
compound form redirects = view.roll-Compound (record { form = form; redirects = redirects })

abbrev pub redirect : Option (List ℕ) → Target → Redirect
redirect number target = view.roll-Redirect (record { number = number; target = target })

abbrev pub else_if : CompoundList → CompoundList → ElseIf
else_if condition body = view.roll-ElseIf (record { condition = condition; body = body })

-- an `if` with what comes after its list
abbrev pub conditional : CompoundList → CompoundList → ElsePart → CompoundForm
conditional condition body others = form.If condition body others.else_ifs others.else_body

-- an item of a `case`, from its patterns and what comes after its `)`
abbrev pub case_item : Bool → Word → List Word → ItemBody → CaseItem
case_item has_parenthesis pattern more_patterns behind =
    view.roll-CaseItem (record { has_parenthesis = has_parenthesis; pattern = pattern; more_patterns = more_patterns; body = behind.body; end = behind.end.end })

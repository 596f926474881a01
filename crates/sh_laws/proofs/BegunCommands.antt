-- Syntax that begins with an action is entered to one.
use Rattle.std.proofs.Common.{◌≡◌, List, [], ◌∷◌, map, Bool, true, false, sym, ap, ◌∙◌, subst}
use Rattle.sh_exec_forms.specs.Running.{Run}
use Rattle.sh_exec_parts.specs.Pipelines.{commands_of, is_negated}
use Rattle.sh_exec_forms.specs.Entering.{and_or_run, background_of, command_entry, command_run, commands_run, commands_step, form_entry, is_subshell, item_run, list_run, pipeline_run, redirected, separated, to_enter, unless_subshell, with_negation, with_others}
use Rattle.sh_exec_forms.proofs.Entered.{and_or_is, case_entered, compound_entered, compound_is, for_entered, for_parameters_entered, function_entered, group_entered, if_entered, item_is, list_with, loop_entered, pipeline_is, simple_entered, subshell_entered, trees_beside}
use Rattle.sh_syntax.specs.declared.tree.AndOr.{AndOr}
use Rattle.sh_syntax.specs.declared.tree.Command.{Command}
use Rattle.sh_syntax.specs.declared.tree.Command.TheOpen as layer
use Rattle.sh_syntax.specs.declared.tree.Command.TheVariants as command
use Rattle.sh_syntax.specs.declared.tree.Command.TheViews as view
use Rattle.sh_syntax.specs.declared.tree.Compound.{Compound}
use Rattle.sh_syntax.specs.declared.tree.CompoundForm.{CompoundForm}
use Rattle.sh_syntax.specs.declared.tree.CompoundForm.TheVariants as form
use Rattle.sh_syntax.specs.declared.tree.CompoundList.{CompoundList}
use Rattle.sh_syntax.specs.declared.tree.Connected.{Connected}
use Rattle.sh_syntax.specs.declared.tree.ListItem.{ListItem}
use Rattle.sh_syntax.specs.declared.tree.Name.{Name}
use Rattle.sh_syntax.specs.declared.tree.Pipeline.{Pipeline}
use Rattle.sh_syntax.specs.declared.tree.Redirect.{Redirect}
use Rattle.sh_syntax.specs.declared.tree.Separator.{Separator}
use Rattle.sh_syntax.specs.declared.tree.Separator.TheVariants.{Sequential, Asynchronous}
use Rattle.sh_syntax.specs.declared.tree.SimpleItem.{SimpleItem}
use Rattle.sh_laws.specs.Beginnings.{ListBegins, begins_list, more_items, AndOrBegins, joined, ConnectedBegin, PipelineBegins, staged, CommandsBegin, no_commands, more_commands, CommandBegins, by_words, by_form, by_definition, FormBegins, in_group, in_subshell, in_if, in_loop, in_for, in_for_parameters, in_case}
use Rattle.sh_laws.specs.BeforeAction.{PlaceHolds, RunStands}
use Rattle.sh_laws.proofs.CommandTurns.{first_holds}

-- ---- forms by what they are opened to
pub is_simple : (x : Command) (items : List SimpleItem) → view.out-Command x ≡ layer.Simple items → x ≡ command.Simple items
is_simple x items e = sym (view.roll-out-Command x) ∙ ap view.roll-Command e ∙ command.rolls-Simple items

pub is_compound : (x : Command) (inner : Compound) → view.out-Command x ≡ layer.Compound inner → x ≡ command.Compound inner
is_compound x inner e = sym (view.roll-out-Command x) ∙ ap view.roll-Command e ∙ command.rolls-Compound inner

pub is_definition : (x : Command) (name : Name) (body : Compound) → view.out-Command x ≡ layer.Function name body → x ≡ command.Function name body
is_definition x name body e = sym (view.roll-out-Command x) ∙ ap view.roll-Command e ∙ command.rolls-Function name body

-- ---- the parts of a pipeline, and of an AND-OR list
pub others_stand : (others : List Connected) (run : Run) → ConnectedBegin others → RunStands run → RunStands (with_others others run)
others_stand [] run c s = s
others_stand (next ∷ others) run c s = (c, s)

negated_stands : (is_negated : Bool) (run : Run) → RunStands run → RunStands (with_negation is_negated run)
negated_stands false run s = s
negated_stands true run s = (tt, s)

stages_stand : (first : Command) (rest : List Command) → CommandBegins first → CommandsBegin rest → RunStands (command_run first)
    → RunStands (commands_step (to_enter first) (map to_enter rest))
stages_stand first [] c cs s = s
stages_stand first (next ∷ others) c cs s =
    subst (λ these. CommandsBegin (first ∷ next ∷ these)) (sym (trees_beside command_entry others)) (more_commands first (next ∷ others) c cs)

pub redirected_stands : (redirects : List Redirect) (run : Run) (whole : Command) → CommandBegins whole → RunStands run → RunStands (redirected redirects run whole)
redirected_stands [] run whole w s = s
redirected_stands (redirect ∷ redirects) run whole w s = (w, tt)

unless_stands : (b : Bool) (redirects : List Redirect) (run : Run) (whole : Command) → CommandBegins whole → RunStands run → RunStands (unless_subshell b redirects run whole)
unless_stands true redirects run whole w s = s
unless_stands false redirects run whole w s = redirected_stands redirects run whole w s

-- ---- an asynchronous list begins with a fork
pipeline_commands : (x : Pipeline) → PipelineBegins x → CommandsBegin (commands_of x)
pipeline_commands x (staged _ f r) = more_commands (view.out-Pipeline x).first (view.out-Pipeline x).rest f r

list_commands : (x : AndOr) → AndOrBegins x → CommandsBegin (commands_of (view.out-AndOr x).first)
list_commands x (joined _ p c) = pipeline_commands (view.out-AndOr x).first p

background_holds : (is_negated : Bool) (others : List Connected) (x : AndOr) → AndOrBegins x → PlaceHolds (background_of is_negated others x)
background_holds true others x a = a
background_holds false [] x a = list_commands x a
background_holds false (next ∷ others) x a = a

separated_stands : (separator : Separator) (x : AndOr) → AndOrBegins x → RunStands (and_or_run x) → RunStands (separated separator x (and_or_run x))
separated_stands Sequential x a s = s
separated_stands Asynchronous x a s = background_holds (is_negated (view.out-AndOr x).first) (view.out-AndOr x).rest x a

as_item : (x : ListItem) → AndOrBegins (view.out-ListItem x).list → RunStands (and_or_run (view.out-ListItem x).list) → RunStands (item_run x)
as_item x a s = subst RunStands (sym (item_is x)) (separated_stands (view.out-ListItem x).separator (view.out-ListItem x).list a s)

mutual
  pub list_stands : (x : CompoundList) → ListBegins x → RunStands (list_run x)
  list_stands x (begins_list _ item others e (more_items _ _ a r)) = subst RunStands (sym (list_with x item others e)) (r, as_item item a (and_or_stands (view.out-ListItem item).list a))

  pub and_or_stands : (x : AndOr) → AndOrBegins x → RunStands (and_or_run x)
  and_or_stands x (joined _ p c) =
      subst RunStands (sym (and_or_is x)) (others_stand (view.out-AndOr x).rest (pipeline_run (view.out-AndOr x).first) c (pipeline_stands (view.out-AndOr x).first p))

  pub pipeline_stands : (x : Pipeline) → PipelineBegins x → RunStands (pipeline_run x)
  pipeline_stands x (staged _ f r) =
      subst RunStands (sym (pipeline_is x)) (negated_stands (view.out-Pipeline x).is_negated (commands_run x)
      (stages_stand (view.out-Pipeline x).first (view.out-Pipeline x).rest f r (command_stands (view.out-Pipeline x).first f (view.out-Pipeline x).first f)))

  pub command_stands : (x : Command) → CommandBegins x → (whole : Command) → CommandBegins whole → RunStands (command_entry x whole)
  command_stands x (by_words _ these e b) whole w =
      subst (λ z. RunStands (command_entry z whole)) (sym (is_simple x these e)) (subst RunStands (sym (simple_entered these whole)) (first_holds false whole w))
  command_stands x (by_form _ inner e b r) whole w =
      subst (λ z. RunStands (command_entry z whole)) (sym (is_compound x inner e))
      (subst RunStands (sym (compound_entered inner whole ∙ compound_is inner whole))
      (unless_stands (is_subshell (view.out-CompoundForm (view.out-Compound inner).form)) (view.out-Compound inner).redirects (form_entry (view.out-Compound inner).form whole) whole w
      (form_stands (view.out-Compound inner).form b whole w)))
  command_stands x (by_definition _ name body e b r) whole w =
      subst (λ z. RunStands (command_entry z whole)) (sym (is_definition x name body e)) (subst RunStands (sym (function_entered name body whole)) w)

  pub form_stands : (x : CompoundForm) → FormBegins x → (whole : Command) → CommandBegins whole → RunStands (form_entry x whole)
  form_stands x (in_group _ body e b) whole w =
      subst (λ z. RunStands (form_entry z whole)) (sym (sym (view.roll-out-CompoundForm x) ∙ ap view.roll-CompoundForm e ∙ form.rolls-Group body))
      (subst RunStands (sym (group_entered body whole)) (list_stands body b))
  form_stands x (in_subshell _ body e b) whole w =
      subst (λ z. RunStands (form_entry z whole)) (sym (sym (view.roll-out-CompoundForm x) ∙ ap view.roll-CompoundForm e ∙ form.rolls-Subshell body))
      (subst RunStands (sym (subshell_entered body whole)) (more_commands whole [] w no_commands))
  form_stands x (in_if _ condition body else_ifs else_body e c b i o) whole w =
      subst (λ z. RunStands (form_entry z whole)) (sym (sym (view.roll-out-CompoundForm x) ∙ ap view.roll-CompoundForm e ∙ form.rolls-If condition body else_ifs else_body))
      (subst RunStands (sym (if_entered condition body else_ifs else_body whole)) ((b, i, o), list_stands condition c))
  form_stands x (in_loop _ kind condition body e c b) whole w =
      subst (λ z. RunStands (form_entry z whole)) (sym (sym (view.roll-out-CompoundForm x) ∙ ap view.roll-CompoundForm e ∙ form.rolls-Loop kind condition body))
      (subst RunStands (sym (loop_entered kind condition body whole)) ((c, b), list_stands condition c))
  form_stands x (in_for _ name words body e s b) whole w =
      subst (λ z. RunStands (form_entry z whole)) (sym (sym (view.roll-out-CompoundForm x) ∙ ap view.roll-CompoundForm e ∙ form.rolls-For name words body))
      (subst RunStands (sym (for_entered name words body whole)) (w, tt))
  form_stands x (in_for_parameters _ name is_separated body e b) whole w =
      subst (λ z. RunStands (form_entry z whole)) (sym (sym (view.roll-out-CompoundForm x) ∙ ap view.roll-CompoundForm e ∙ form.rolls-ForParameters name is_separated body))
      (subst RunStands (sym (for_parameters_entered name is_separated body whole)) (w, tt))
  form_stands x (in_case _ word items e p i) whole w =
      subst (λ z. RunStands (form_entry z whole)) (sym (sym (view.roll-out-CompoundForm x) ∙ ap view.roll-CompoundForm e ∙ form.rolls-Case word items))
      (subst RunStands (sym (case_entered word items whole)) (w, tt))

pub item_stands : (x : ListItem) → AndOrBegins (view.out-ListItem x).list → RunStands (item_run x)
item_stands x a = as_item x a (and_or_stands (view.out-ListItem x).list a)

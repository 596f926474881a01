-- What begins with an action and is all that a process runs is entered to an action.
use Rattle.std.proofs.Common.{◌≡◌, List, [], ◌∷◌, Option, Some, None, Bool, true, false, refl, sym, ap, ◌∙◌, subst}
use Rattle.sh_exec_forms.specs.Running.{Run}
use Rattle.sh_exec_forms.specs.Bodies.{body_of, own_entry, own_form, sole_and_or, sole_by, sole_item, sole_or_entered, sole_pipeline, sole_run, stage_run}
use Rattle.sh_exec_actions.specs.Statuses.{unexcused}
use Rattle.sh_exec_forms.specs.Entering.{command_run, items_run}
use Rattle.sh_exec_forms.proofs.Entered.{entered_with, trees_beside}
use Rattle.sh_exec_forms.proofs.Alone.{and_or_is, body_as, body_is, case_alone, compound_command_alone, compound_is, for_alone, for_parameters_alone, function_alone, group_alone, if_alone, item_is, loop_alone, of_alone, of_negated, of_stages, simple_alone, subshell_alone}
use Rattle.sh_syntax.specs.declared.tree.AndOr.{AndOr}
use Rattle.sh_syntax.specs.declared.tree.Command.{Command}
use Rattle.sh_syntax.specs.declared.tree.Command.TheViews as view
use Rattle.sh_syntax.specs.declared.tree.CompoundForm.{CompoundForm}
use Rattle.sh_syntax.specs.declared.tree.CompoundForm.TheVariants as form
use Rattle.sh_syntax.specs.declared.tree.CompoundList.{CompoundList}
use Rattle.sh_syntax.specs.declared.tree.Connected.{Connected}
use Rattle.sh_syntax.specs.declared.tree.ListItem.{ListItem}
use Rattle.sh_syntax.specs.declared.tree.Pipeline.{Pipeline}
use Rattle.sh_syntax.specs.declared.tree.Separator.{Separator}
use Rattle.sh_syntax.specs.declared.tree.Separator.TheVariants.{Sequential, Asynchronous}
use Rattle.sh_laws.specs.Beginnings.{ListBegins, begins_list, ItemsBegin, no_items, more_items, AndOrBegins, joined, PipelineBegins, staged, CommandBegins, by_words, by_form, by_definition, FormBegins, in_group, in_subshell, in_if, in_loop, in_for, in_for_parameters, in_case}
use Rattle.sh_laws.specs.BeforeAction.{RunStands}
use Rattle.sh_laws.proofs.CommandTurns.{first_holds}
use Rattle.sh_laws.proofs.BegunCommands.{command_stands, is_compound, is_definition, is_simple, item_stands, redirected_stands}

abbrev SoleStands : Option Run → Type 0
SoleStands None = Unit {0}
SoleStands (Some run) = RunStands run

-- what isn't alone is entered as a list is
in_list_stands : (item : ListItem) (others : List ListItem) → AndOrBegins (view.out-ListItem item).list → ItemsBegin others → RunStands (items_run (item ∷ others) (unexcused 0))
in_list_stands item others a r = subst RunStands (sym (entered_with (item ∷ others) item others (unexcused 0) refl)) (r, item_stands item a)

sole_or_stands : (item : ListItem) (run : Option Run) → AndOrBegins (view.out-ListItem item).list → SoleStands run → RunStands (sole_or_entered item run)
sole_or_stands item None a s = in_list_stands item [] a no_items
sole_or_stands item (Some run) a s = s

separated_stand : (separator : Separator) (run : Option Run) → SoleStands run → SoleStands (sole_by separator run)
separated_stand Sequential run s = s
separated_stand Asynchronous run s = tt

unjoined_stands : (run : Option Run) (others : List Connected) → SoleStands run → SoleStands (sole_run run others)
unjoined_stands run [] s = s
unjoined_stands run (next ∷ others) s = tt

alone_stands : (x : Pipeline) (is_negated : Bool) (rest : List Command) → (view.out-Pipeline x).is_negated ≡ is_negated → (view.out-Pipeline x).rest ≡ rest
    → RunStands (own_entry (view.out-Pipeline x).first (view.out-Pipeline x).first) → SoleStands (sole_pipeline x)
alone_stands x true rest n e s = subst SoleStands (sym (of_negated x n)) tt
alone_stands x false [] n e s = subst SoleStands (sym (of_alone x n e)) s
alone_stands x false (next ∷ others) n e s = subst SoleStands (sym (of_stages x next others n e)) tt

-- the whole command, entered as any
whole_stands : (x : CompoundForm) (whole : Command) → own_form x whole ≡ command_run whole → CommandBegins whole → RunStands (own_form x whole)
whole_stands x whole e w = subst RunStands (sym e) (command_stands whole w whole w)

mutual
  body_items_stand : (these : List ListItem) → ItemsBegin these → RunStands (body_as these)
  body_items_stand _ no_items = tt
  body_items_stand _ (more_items item [] a r) = sole_or_stands item (sole_item item) a (subst SoleStands (sym (item_is item)) (separated_stand (view.out-ListItem item).separator (sole_and_or (view.out-ListItem item).list) (sole_stands (view.out-ListItem item).list a)))
  body_items_stand _ (more_items item (next ∷ others) a r) = subst (λ these. RunStands (items_run (item ∷ next ∷ these) (unexcused 0))) (sym (trees_beside sole_item others)) (in_list_stands item (next ∷ others) a r)

  sole_stands : (x : AndOr) → AndOrBegins x → SoleStands (sole_and_or x)
  sole_stands x (joined _ p c) =
      subst SoleStands (sym (and_or_is x)) (unjoined_stands (sole_pipeline (view.out-AndOr x).first) (view.out-AndOr x).rest (sole_pipeline_stands (view.out-AndOr x).first p))

  sole_pipeline_stands : (x : Pipeline) → PipelineBegins x → SoleStands (sole_pipeline x)
  sole_pipeline_stands x (staged _ f r) =
      alone_stands x (view.out-Pipeline x).is_negated (view.out-Pipeline x).rest refl refl (own_stands (view.out-Pipeline x).first f (view.out-Pipeline x).first f)

  own_stands : (x : Command) → CommandBegins x → (whole : Command) → CommandBegins whole → RunStands (own_entry x whole)
  own_stands x (by_words _ these e b) whole w =
      subst (λ z. RunStands (own_entry z whole)) (sym (is_simple x these e)) (subst RunStands (sym (simple_alone these whole)) (first_holds true whole w))
  own_stands x (by_form _ inner e b r) whole w =
      subst (λ z. RunStands (own_entry z whole)) (sym (is_compound x inner e))
      (subst RunStands (sym (compound_command_alone inner whole ∙ compound_is inner whole))
      (redirected_stands (view.out-Compound inner).redirects (own_form (view.out-Compound inner).form whole) whole w (own_form_stands (view.out-Compound inner).form b whole w)))
  own_stands x (by_definition _ name body e b r) whole w =
      subst (λ z. RunStands (own_entry z whole)) (sym (is_definition x name body e))
      (subst RunStands (sym (function_alone name body whole)) (command_stands whole w whole w))

  own_form_stands : (x : CompoundForm) → FormBegins x → (whole : Command) → CommandBegins whole → RunStands (own_form x whole)
  own_form_stands x (in_subshell _ body e b) whole w =
      subst (λ z. RunStands (own_form z whole)) (sym (sym (view.roll-out-CompoundForm x) ∙ ap view.roll-CompoundForm e ∙ form.rolls-Subshell body))
      (subst RunStands (sym (subshell_alone body whole)) (list_body_stands body b))
  own_form_stands x (in_group _ body e b) whole w =
      whole_stands x whole (ap (λ z. own_form z whole) (sym (view.roll-out-CompoundForm x) ∙ ap view.roll-CompoundForm e ∙ form.rolls-Group body) ∙ group_alone body whole) w
  own_form_stands x (in_if _ condition body else_ifs else_body e c b i o) whole w =
      whole_stands x whole (ap (λ z. own_form z whole) (sym (view.roll-out-CompoundForm x) ∙ ap view.roll-CompoundForm e ∙ form.rolls-If condition body else_ifs else_body) ∙ if_alone condition body else_ifs else_body whole) w
  own_form_stands x (in_loop _ kind condition body e c b) whole w =
      whole_stands x whole (ap (λ z. own_form z whole) (sym (view.roll-out-CompoundForm x) ∙ ap view.roll-CompoundForm e ∙ form.rolls-Loop kind condition body) ∙ loop_alone kind condition body whole) w
  own_form_stands x (in_for _ name words body e s b) whole w =
      whole_stands x whole (ap (λ z. own_form z whole) (sym (view.roll-out-CompoundForm x) ∙ ap view.roll-CompoundForm e ∙ form.rolls-For name words body) ∙ for_alone name words body whole) w
  own_form_stands x (in_for_parameters _ name is_separated body e b) whole w =
      whole_stands x whole (ap (λ z. own_form z whole) (sym (view.roll-out-CompoundForm x) ∙ ap view.roll-CompoundForm e ∙ form.rolls-ForParameters name is_separated body) ∙ for_parameters_alone name is_separated body whole) w
  own_form_stands x (in_case _ word items e p i) whole w =
      whole_stands x whole (ap (λ z. own_form z whole) (sym (view.roll-out-CompoundForm x) ∙ ap view.roll-CompoundForm e ∙ form.rolls-Case word items) ∙ case_alone word items whole) w

  list_body_stands : (x : CompoundList) → ListBegins x → RunStands (body_of x)
  list_body_stands x (begins_list _ item others e b) = subst RunStands (sym (body_is x ∙ ap body_as e)) (body_items_stand (item ∷ others) b)

pub body_stands : (x : CompoundList) → ItemsBegin (view.out-CompoundList x).items → RunStands (body_of x)
body_stands x b = subst RunStands (sym (body_is x)) (body_items_stand (view.out-CompoundList x).items b)

pub stage_stands : (command : Command) → CommandBegins command → RunStands (stage_run command)
unfolding stage_run
stage_stands command b = own_stands command b command b

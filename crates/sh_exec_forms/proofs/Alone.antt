-- How commands are entered that are all that a process runs, by their parts.
use Rattle.std.proofs.Common.{◌≡◌, ◌≤◌, arith, length, List, [], ◌∷◌, map, Option, Some, None, Bool, true, false, refl, sym, ap, ◌∙◌}
use Rattle.sh_exec_actions.specs.Preparing.{first_place}
use Rattle.sh_exec_actions.specs.declared.action.Active.TheVariants.{Next}
use Rattle.sh_exec_actions.specs.declared.action.Action.TheVariants.{Ending, Expanding}
use Rattle.sh_exec_actions.specs.declared.action.ToExpand.TheVariants.{Redirects}
use Rattle.sh_exec_forms.proofs.Entered.{redirected_some, trees_beside}
use Rattle.sh_exec_forms.specs.Bodies.{body_items, body_of, body_step, own_command_step, own_compound, own_compound_step, own_entry, own_form, own_form_step, sole_and_or, sole_and_or_step, sole_by, sole_command, sole_item, sole_item_step, sole_or_entered, sole_pipeline, sole_pipeline_step, stage_run, sole_run}
use Rattle.sh_exec_actions.specs.Statuses.{unexcused}
use Rattle.sh_exec_forms.specs.Entering.{Entry, command_run, items_run, no_entry, redirected}
use Rattle.sh_exec_forms.specs.Running.{Run, At}
use Rattle.sh_syntax.specs.declared.tree.AndOr.{AndOr}
use Rattle.sh_syntax.specs.declared.tree.Command.{Command}
use Rattle.sh_syntax.specs.declared.tree.CompoundList.{CompoundList}
use Rattle.sh_syntax.specs.declared.tree.Compound.{Compound}
use Rattle.sh_syntax.specs.declared.tree.Connected.{Connected}
use Rattle.sh_syntax.specs.declared.tree.ElseIf.{ElseIf}
use Rattle.sh_syntax.specs.declared.tree.ListItem.{ListItem}
use Rattle.sh_syntax.specs.declared.tree.LoopKind.{LoopKind}
use Rattle.sh_syntax.specs.declared.tree.CaseItem.{CaseItem}
use Rattle.sh_syntax.specs.declared.tree.Name.{Name}
use Rattle.sh_syntax.specs.declared.tree.Pipeline.{Pipeline}
use Rattle.sh_syntax.specs.declared.tree.Redirect.{Redirect}
use Rattle.sh_syntax.specs.declared.tree.SimpleItem.{SimpleItem}
use Rattle.sh_syntax.specs.declared.tree.Word.{Word}
use Rattle.sh_syntax.specs.declared.tree.Command.TheFolds as folds
use Rattle.sh_syntax.specs.declared.tree.Command.TheOpen as layer
use Rattle.sh_syntax.specs.declared.tree.Command.TheVariants as command
use Rattle.sh_syntax.specs.declared.tree.Command.TheViews as view
use Rattle.sh_syntax.specs.declared.tree.CompoundForm.TheVariants as form

-- ---- lists
abbrev pub body_as : List ListItem → Run
body_as items = body_items (map (λ item. (item, sole_item item)) items)

pub body_is : (x : CompoundList) → body_of x ≡ body_as (view.out-CompoundList x).items
unfolding body_of sole_item
body_is x = ap body_of (sym (view.roll-out-CompoundList x)) ∙ folds.para-roll-CompoundList Entry Entry (Unit {0}) (Unit {0}) (Unit {0}) (Option Run) (Unit {0}) Entry Run (Unit {0}) (Unit {0}) (Option Run) (Unit {0}) (Option Run) (Unit {0}) (Unit {0})
    own_command_step own_form_step no_entry no_entry no_entry sole_and_or_step no_entry own_compound_step body_step no_entry no_entry sole_item_step no_entry sole_pipeline_step no_entry no_entry (view.out-CompoundList x)

pub of_none : (x : CompoundList) → (view.out-CompoundList x).items ≡ [] → body_of x ≡ At (Next (Ending 0))
of_none x e = body_is x ∙ ap body_as e

pub of_one : (x : CompoundList) (item : ListItem) → (view.out-CompoundList x).items ≡ item ∷ [] → body_of x ≡ sole_or_entered item (sole_item item)
of_one x item e = body_is x ∙ ap body_as e

pub of_several : (x : CompoundList) (item next : ListItem) (items : List ListItem) → (view.out-CompoundList x).items ≡ item ∷ next ∷ items → body_of x ≡ items_run (view.out-CompoundList x).items (unexcused 0)
of_several x item next items e =
    body_is x ∙ ap body_as e ∙ ap (λ others. items_run (item ∷ next ∷ others) (unexcused 0)) (trees_beside sole_item items) ∙ ap (λ others. items_run others (unexcused 0)) (sym e)

long_as : (items : List ListItem) → 2 ≤ length items → body_as items ≡ items_run items (unexcused 0)
long_as [] h = absurd (omega (arith, h))
long_as (item ∷ []) h = absurd (omega (arith, h))
long_as (item ∷ next ∷ items) h = ap (λ others. items_run (item ∷ next ∷ others) (unexcused 0)) (trees_beside sole_item items)

pub of_long : (x : CompoundList) → 2 ≤ length (view.out-CompoundList x).items → body_of x ≡ items_run (view.out-CompoundList x).items (unexcused 0)
of_long x h = body_is x ∙ long_as (view.out-CompoundList x).items h

pub item_is : (x : ListItem) → sole_item x ≡ sole_by (view.out-ListItem x).separator (sole_and_or (view.out-ListItem x).list)
unfolding sole_item sole_and_or
item_is x = ap sole_item (sym (view.roll-out-ListItem x)) ∙ folds.para-roll-ListItem Entry Entry (Unit {0}) (Unit {0}) (Unit {0}) (Option Run) (Unit {0}) Entry Run (Unit {0}) (Unit {0}) (Option Run) (Unit {0}) (Option Run) (Unit {0}) (Unit {0})
    own_command_step own_form_step no_entry no_entry no_entry sole_and_or_step no_entry own_compound_step body_step no_entry no_entry sole_item_step no_entry sole_pipeline_step no_entry no_entry (view.out-ListItem x)

unjoined_beside : {A B : Type 0} (f : A → B) (run : Option Run) (xs : List A) → sole_run run (map f xs) ≡ sole_run run xs
unjoined_beside f run [] = refl
unjoined_beside f run (x ∷ xs) = refl

pub and_or_is : (x : AndOr) → sole_and_or x ≡ sole_run (sole_pipeline (view.out-AndOr x).first) (view.out-AndOr x).rest
unfolding sole_and_or sole_pipeline
and_or_is x = ap sole_and_or (sym (view.roll-out-AndOr x)) ∙ folds.para-roll-AndOr Entry Entry (Unit {0}) (Unit {0}) (Unit {0}) (Option Run) (Unit {0}) Entry Run (Unit {0}) (Unit {0}) (Option Run) (Unit {0}) (Option Run) (Unit {0}) (Unit {0})
    own_command_step own_form_step no_entry no_entry no_entry sole_and_or_step no_entry own_compound_step body_step no_entry no_entry sole_item_step no_entry sole_pipeline_step no_entry no_entry (view.out-AndOr x)
    ∙ unjoined_beside _ (sole_pipeline (view.out-AndOr x).first) (view.out-AndOr x).rest

pub unjoined_none : (run : Option Run) (xs : List Connected) → xs ≡ [] → sole_run run xs ≡ run
unjoined_none run xs e = ap (sole_run run) e

pub unjoined_some : (run : Option Run) (xs : List Connected) → 1 ≤ length xs → sole_run run xs ≡ None
unjoined_some run [] h = absurd (omega (arith, h))
unjoined_some run (x ∷ xs) h = refl

-- ---- pipelines
abbrev pub paired : Command → Command × Entry
paired command = (command, own_entry command)

pipeline_is : (x : Pipeline) → sole_pipeline x ≡ sole_command (view.out-Pipeline x).is_negated (paired (view.out-Pipeline x).first) (map paired (view.out-Pipeline x).rest)
unfolding sole_pipeline own_entry
pipeline_is x = ap sole_pipeline (sym (view.roll-out-Pipeline x)) ∙ folds.para-roll-Pipeline Entry Entry (Unit {0}) (Unit {0}) (Unit {0}) (Option Run) (Unit {0}) Entry Run (Unit {0}) (Unit {0}) (Option Run) (Unit {0}) (Option Run) (Unit {0}) (Unit {0})
    own_command_step own_form_step no_entry no_entry no_entry sole_and_or_step no_entry own_compound_step body_step no_entry no_entry sole_item_step no_entry sole_pipeline_step no_entry no_entry (view.out-Pipeline x)

pub of_negated : (x : Pipeline) → (view.out-Pipeline x).is_negated ≡ true → sole_pipeline x ≡ None
of_negated x n = pipeline_is x ∙ ap (λ negated. sole_command negated (paired (view.out-Pipeline x).first) (map paired (view.out-Pipeline x).rest)) n

pub of_alone : (x : Pipeline) → (view.out-Pipeline x).is_negated ≡ false → (view.out-Pipeline x).rest ≡ [] → sole_pipeline x ≡ Some (own_entry (view.out-Pipeline x).first (view.out-Pipeline x).first)
of_alone x n e = pipeline_is x ∙ ap (λ negated. sole_command negated (paired (view.out-Pipeline x).first) (map paired (view.out-Pipeline x).rest)) n
    ∙ ap (λ rest. sole_command false (paired (view.out-Pipeline x).first) (map paired rest)) e

pub of_stages : (x : Pipeline) (next : Command) (others : List Command) → (view.out-Pipeline x).is_negated ≡ false → (view.out-Pipeline x).rest ≡ next ∷ others → sole_pipeline x ≡ None
of_stages x next others n e = pipeline_is x ∙ ap (λ negated. sole_command negated (paired (view.out-Pipeline x).first) (map paired (view.out-Pipeline x).rest)) n
    ∙ ap (λ rest. sole_command false (paired (view.out-Pipeline x).first) (map paired rest)) e

long_sole : (command : Command × Entry) (rest : List Command) → 1 ≤ length rest → sole_command false command (map paired rest) ≡ None
long_sole command [] h = absurd (omega (arith, h))
long_sole command (next ∷ others) h = refl

pub stages_long : (x : Pipeline) → (view.out-Pipeline x).is_negated ≡ false → 1 ≤ length (view.out-Pipeline x).rest → sole_pipeline x ≡ None
stages_long x n h = pipeline_is x ∙ ap (λ negated. sole_command negated (paired (view.out-Pipeline x).first) (map paired (view.out-Pipeline x).rest)) n
    ∙ long_sole (paired (view.out-Pipeline x).first) (view.out-Pipeline x).rest h

-- ---- compound commands
redirected_beside : {A B : Type 0} (f : A → B) (xs : List A) (run : Run) (whole : Command) → redirected (map f xs) run whole ≡ redirected xs run whole
redirected_beside f [] run whole = refl
redirected_beside f (x ∷ xs) run whole = refl

pub compound_is : (x : Compound) (whole : Command) → own_compound x whole ≡ redirected (view.out-Compound x).redirects (own_form (view.out-Compound x).form whole) whole
unfolding own_compound own_form
compound_is x whole = ap (λ entry. entry whole) (ap own_compound (sym (view.roll-out-Compound x)) ∙ folds.para-roll-Compound Entry Entry (Unit {0}) (Unit {0}) (Unit {0}) (Option Run) (Unit {0}) Entry Run (Unit {0}) (Unit {0}) (Option Run) (Unit {0}) (Option Run) (Unit {0}) (Unit {0})
    own_command_step own_form_step no_entry no_entry no_entry sole_and_or_step no_entry own_compound_step body_step no_entry no_entry sole_item_step no_entry sole_pipeline_step no_entry no_entry (view.out-Compound x))
    ∙ redirected_beside _ (view.out-Compound x).redirects (own_form (view.out-Compound x).form whole) whole

pub compound_plain : (x : Compound) (whole : Command) → (view.out-Compound x).redirects ≡ [] → own_compound x whole ≡ own_form (view.out-Compound x).form whole
compound_plain x whole e = compound_is x whole ∙ ap (λ (these : List Redirect). redirected these (own_form (view.out-Compound x).form whole) whole) e

pub compound_redirected : (x : Compound) (whole : Command) → 1 ≤ length (view.out-Compound x).redirects → own_compound x whole ≡ At (Next (Expanding (Redirects whole) None))
compound_redirected x whole h = compound_is x whole ∙ redirected_some (view.out-Compound x).redirects (own_form (view.out-Compound x).form whole) whole h

pub group_alone : (list : CompoundList) (whole : Command) → own_form (form.Group list) whole ≡ command_run whole
unfolding own_form body_of
group_alone list whole = ap (λ entry. own_form entry whole) (sym (form.rolls-Group list)) ∙ ap (λ entry. entry whole) (folds.para-roll-CompoundForm Entry Entry (Unit {0}) (Unit {0}) (Unit {0}) (Option Run) (Unit {0}) Entry Run (Unit {0}) (Unit {0}) (Option Run) (Unit {0}) (Option Run) (Unit {0}) (Unit {0})
    own_command_step own_form_step no_entry no_entry no_entry sole_and_or_step no_entry own_compound_step body_step no_entry no_entry sole_item_step no_entry sole_pipeline_step no_entry no_entry (layer.Group list))

pub subshell_alone : (list : CompoundList) (whole : Command) → own_form (form.Subshell list) whole ≡ body_of list
unfolding own_form body_of
subshell_alone list whole = ap (λ entry. own_form entry whole) (sym (form.rolls-Subshell list)) ∙ ap (λ entry. entry whole) (folds.para-roll-CompoundForm Entry Entry (Unit {0}) (Unit {0}) (Unit {0}) (Option Run) (Unit {0}) Entry Run (Unit {0}) (Unit {0}) (Option Run) (Unit {0}) (Option Run) (Unit {0}) (Unit {0})
    own_command_step own_form_step no_entry no_entry no_entry sole_and_or_step no_entry own_compound_step body_step no_entry no_entry sole_item_step no_entry sole_pipeline_step no_entry no_entry (layer.Subshell list))

pub if_alone : (condition : CompoundList) (body : CompoundList) (else_ifs : List ElseIf) (else_body : Option CompoundList) (whole : Command) → own_form (form.If condition body else_ifs else_body) whole ≡ command_run whole
unfolding own_form body_of
if_alone condition body else_ifs else_body whole = ap (λ entry. own_form entry whole) (sym (form.rolls-If condition body else_ifs else_body)) ∙ ap (λ entry. entry whole) (folds.para-roll-CompoundForm Entry Entry (Unit {0}) (Unit {0}) (Unit {0}) (Option Run) (Unit {0}) Entry Run (Unit {0}) (Unit {0}) (Option Run) (Unit {0}) (Option Run) (Unit {0}) (Unit {0})
    own_command_step own_form_step no_entry no_entry no_entry sole_and_or_step no_entry own_compound_step body_step no_entry no_entry sole_item_step no_entry sole_pipeline_step no_entry no_entry (layer.If condition body else_ifs else_body))

pub loop_alone : (kind : LoopKind) (condition : CompoundList) (body : CompoundList) (whole : Command) → own_form (form.Loop kind condition body) whole ≡ command_run whole
unfolding own_form body_of
loop_alone kind condition body whole = ap (λ entry. own_form entry whole) (sym (form.rolls-Loop kind condition body)) ∙ ap (λ entry. entry whole) (folds.para-roll-CompoundForm Entry Entry (Unit {0}) (Unit {0}) (Unit {0}) (Option Run) (Unit {0}) Entry Run (Unit {0}) (Unit {0}) (Option Run) (Unit {0}) (Option Run) (Unit {0}) (Unit {0})
    own_command_step own_form_step no_entry no_entry no_entry sole_and_or_step no_entry own_compound_step body_step no_entry no_entry sole_item_step no_entry sole_pipeline_step no_entry no_entry (layer.Loop kind condition body))

pub for_alone : (name : Name) (words : List Word) (body : CompoundList) (whole : Command) → own_form (form.For name words body) whole ≡ command_run whole
unfolding own_form body_of
for_alone name words body whole = ap (λ entry. own_form entry whole) (sym (form.rolls-For name words body)) ∙ ap (λ entry. entry whole) (folds.para-roll-CompoundForm Entry Entry (Unit {0}) (Unit {0}) (Unit {0}) (Option Run) (Unit {0}) Entry Run (Unit {0}) (Unit {0}) (Option Run) (Unit {0}) (Option Run) (Unit {0}) (Unit {0})
    own_command_step own_form_step no_entry no_entry no_entry sole_and_or_step no_entry own_compound_step body_step no_entry no_entry sole_item_step no_entry sole_pipeline_step no_entry no_entry (layer.For name words body))

pub for_parameters_alone : (name : Name) (is_separated : Bool) (body : CompoundList) (whole : Command) → own_form (form.ForParameters name is_separated body) whole ≡ command_run whole
unfolding own_form body_of
for_parameters_alone name is_separated body whole = ap (λ entry. own_form entry whole) (sym (form.rolls-ForParameters name is_separated body)) ∙ ap (λ entry. entry whole) (folds.para-roll-CompoundForm Entry Entry (Unit {0}) (Unit {0}) (Unit {0}) (Option Run) (Unit {0}) Entry Run (Unit {0}) (Unit {0}) (Option Run) (Unit {0}) (Option Run) (Unit {0}) (Unit {0})
    own_command_step own_form_step no_entry no_entry no_entry sole_and_or_step no_entry own_compound_step body_step no_entry no_entry sole_item_step no_entry sole_pipeline_step no_entry no_entry (layer.ForParameters name is_separated body))

pub case_alone : (word : Word) (items : List CaseItem) (whole : Command) → own_form (form.Case word items) whole ≡ command_run whole
unfolding own_form body_of
case_alone word items whole = ap (λ entry. own_form entry whole) (sym (form.rolls-Case word items)) ∙ ap (λ entry. entry whole) (folds.para-roll-CompoundForm Entry Entry (Unit {0}) (Unit {0}) (Unit {0}) (Option Run) (Unit {0}) Entry Run (Unit {0}) (Unit {0}) (Option Run) (Unit {0}) (Option Run) (Unit {0}) (Unit {0})
    own_command_step own_form_step no_entry no_entry no_entry sole_and_or_step no_entry own_compound_step body_step no_entry no_entry sole_item_step no_entry sole_pipeline_step no_entry no_entry (layer.Case word items))

-- ---- commands
pub simple_alone : (items : List SimpleItem) (whole : Command) → own_entry (command.Simple items) whole ≡ At (Next (first_place true whole))
unfolding own_entry own_compound
simple_alone items whole = ap (λ entry. own_entry entry whole) (sym (command.rolls-Simple items)) ∙ ap (λ entry. entry whole) (folds.para-roll-Command Entry Entry (Unit {0}) (Unit {0}) (Unit {0}) (Option Run) (Unit {0}) Entry Run (Unit {0}) (Unit {0}) (Option Run) (Unit {0}) (Option Run) (Unit {0}) (Unit {0})
    own_command_step own_form_step no_entry no_entry no_entry sole_and_or_step no_entry own_compound_step body_step no_entry no_entry sole_item_step no_entry sole_pipeline_step no_entry no_entry (layer.Simple items))

pub compound_command_alone : (compound : Compound) (whole : Command) → own_entry (command.Compound compound) whole ≡ own_compound compound whole
unfolding own_entry own_compound
compound_command_alone compound whole = ap (λ entry. own_entry entry whole) (sym (command.rolls-Compound compound)) ∙ ap (λ entry. entry whole) (folds.para-roll-Command Entry Entry (Unit {0}) (Unit {0}) (Unit {0}) (Option Run) (Unit {0}) Entry Run (Unit {0}) (Unit {0}) (Option Run) (Unit {0}) (Option Run) (Unit {0}) (Unit {0})
    own_command_step own_form_step no_entry no_entry no_entry sole_and_or_step no_entry own_compound_step body_step no_entry no_entry sole_item_step no_entry sole_pipeline_step no_entry no_entry (layer.Compound compound))

pub function_alone : (name : Name) (body : Compound) (whole : Command) → own_entry (command.Function name body) whole ≡ command_run whole
unfolding own_entry own_compound
function_alone name body whole = ap (λ entry. own_entry entry whole) (sym (command.rolls-Function name body)) ∙ ap (λ entry. entry whole) (folds.para-roll-Command Entry Entry (Unit {0}) (Unit {0}) (Unit {0}) (Option Run) (Unit {0}) Entry Run (Unit {0}) (Unit {0}) (Option Run) (Unit {0}) (Option Run) (Unit {0}) (Unit {0})
    own_command_step own_form_step no_entry no_entry no_entry sole_and_or_step no_entry own_compound_step body_step no_entry no_entry sole_item_step no_entry sole_pipeline_step no_entry no_entry (layer.Function name body))

pub stage_is : (command : Command) → stage_run command ≡ own_entry command command
unfolding stage_run
stage_is command = refl

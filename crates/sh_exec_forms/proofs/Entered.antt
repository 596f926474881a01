-- How each form of the syntax is entered, by its parts.
use Rattle.std.proofs.Common.{◌≡◌, ◌≤◌, arith, length, List, [], ◌∷◌, map, Option, Some, None, option_map, Bool, true, false, refl, sym, ap, ◌∙◌}
use Rattle.sh_exec_actions.specs.Statuses.{unexcused}
use Rattle.sh_exec_actions.specs.declared.status.CommandStatus.{CommandStatus}
use Rattle.sh_exec_parts.specs.Pipelines.{commands_of}
use Rattle.sh_exec_actions.specs.Preparing.{first_place}
use Rattle.sh_exec_actions.specs.declared.action.Active.TheVariants.{Next}
use Rattle.sh_exec_actions.specs.declared.action.Action.TheVariants.{Defining, Expanding}
use Rattle.sh_exec_actions.specs.declared.action.ToExpand.TheVariants.{CaseWord, ForWords, Redirects}
use Rattle.sh_exec_forms.specs.Entering.{Entry, and_or_run, and_or_step, command_entry, command_run, command_step, commands_run, commands_step, compound_list_step, compound_entry, compound_step, items_run, form_entry, form_step, item_run, with_others, list_item_step, list_run, separated, with_negation, pipeline_run, pipeline_step, staging, is_subshell, redirected, to_enter, tree, trees, unless_subshell, no_entry}
use Rattle.sh_exec_forms.specs.Running.{Run, At, In}
use Rattle.sh_exec_actions.specs.declared.form.Form.TheVariants.{Commands, Condition, If}
use Rattle.sh_syntax.specs.declared.tree.AndOr.{AndOr}
use Rattle.sh_syntax.specs.declared.tree.Command.{Command}
use Rattle.sh_syntax.specs.declared.tree.CompoundList.{CompoundList}
use Rattle.sh_syntax.specs.declared.tree.Compound.{Compound}
use Rattle.sh_syntax.specs.declared.tree.ElseIf.{ElseIf}
use Rattle.sh_syntax.specs.declared.tree.ListItem.{ListItem}
use Rattle.sh_syntax.specs.declared.tree.LoopKind.{LoopKind}
use Rattle.sh_syntax.specs.declared.tree.CaseItem.{CaseItem}
use Rattle.sh_syntax.specs.declared.tree.Name.{Name}
use Rattle.sh_syntax.specs.declared.tree.Pipeline.{Pipeline}
use Rattle.sh_syntax.specs.declared.tree.Redirect.{Redirect}
use Rattle.sh_exec_actions.specs.declared.action.Launch.TheVariants.{Foreground}
use Rattle.sh_syntax.specs.declared.tree.SimpleItem.{SimpleItem}
use Rattle.sh_syntax.specs.declared.tree.Word.{Word}
use Rattle.sh_syntax.specs.declared.tree.Command.TheFolds as folds
use Rattle.sh_syntax.specs.declared.tree.Command.TheOpen as layer
use Rattle.sh_syntax.specs.declared.tree.Command.TheVariants as command
use Rattle.sh_syntax.specs.declared.tree.Command.TheViews as view
use Rattle.sh_syntax.specs.declared.tree.CompoundForm.TheVariants as form

-- parts that were put beside something are themselves again
pub trees_beside : {A B : Type 0} (f : A → B) (xs : List A) → trees (map (λ x. (x, f x)) xs) ≡ xs
trees_beside f [] = refl
trees_beside f (x ∷ xs) = ap (λ others. x ∷ others) (trees_beside f xs)

pub tree_beside : {A B : Type 0} (f : A → B) (o : Option A) → option_map tree (option_map (λ x. (x, f x)) o) ≡ o
tree_beside f None = refl
tree_beside f (Some x) = refl

-- ---- lists
pub behind_first : (item : ListItem) (items : List ListItem) (status : CommandStatus) → items_run (item ∷ items) status ≡ In (Commands items) (item_run item)
behind_first item items status = ap (λ others. In (Commands others) (item_run item)) (trees_beside item_run items)

pub list_is : (x : CompoundList) → list_run x ≡ items_run (view.out-CompoundList x).items (unexcused 0)
unfolding list_run item_run
list_is x = ap list_run (sym (view.roll-out-CompoundList x)) ∙ folds.para-roll-CompoundList Entry Entry (Unit {0}) (Unit {0}) (Unit {0}) Run (Unit {0}) Entry Run (Unit {0}) (Unit {0}) Run (Unit {0}) Run (Unit {0}) (Unit {0})
    command_step form_step no_entry no_entry no_entry and_or_step no_entry compound_step compound_list_step no_entry no_entry list_item_step no_entry pipeline_step no_entry no_entry (view.out-CompoundList x)

pub item_is : (x : ListItem) → item_run x ≡ separated (view.out-ListItem x).separator (view.out-ListItem x).list (and_or_run (view.out-ListItem x).list)
unfolding item_run and_or_run
item_is x = ap item_run (sym (view.roll-out-ListItem x)) ∙ folds.para-roll-ListItem Entry Entry (Unit {0}) (Unit {0}) (Unit {0}) Run (Unit {0}) Entry Run (Unit {0}) (Unit {0}) Run (Unit {0}) Run (Unit {0}) (Unit {0})
    command_step form_step no_entry no_entry no_entry and_or_step no_entry compound_step compound_list_step no_entry no_entry list_item_step no_entry pipeline_step no_entry no_entry (view.out-ListItem x)

pub and_or_is : (x : AndOr) → and_or_run x ≡ with_others (view.out-AndOr x).rest (pipeline_run (view.out-AndOr x).first)
unfolding and_or_run pipeline_run
and_or_is x = ap and_or_run (sym (view.roll-out-AndOr x)) ∙ folds.para-roll-AndOr Entry Entry (Unit {0}) (Unit {0}) (Unit {0}) Run (Unit {0}) Entry Run (Unit {0}) (Unit {0}) Run (Unit {0}) Run (Unit {0}) (Unit {0})
    command_step form_step no_entry no_entry no_entry and_or_step no_entry compound_step compound_list_step no_entry no_entry list_item_step no_entry pipeline_step no_entry no_entry (view.out-AndOr x)
    ∙ ap (λ rest. with_others rest (pipeline_run (view.out-AndOr x).first)) (trees_beside _ (view.out-AndOr x).rest)

pub entered_with : (items : List ListItem) (item : ListItem) (others : List ListItem) (status : CommandStatus) → items ≡ item ∷ others → items_run items status ≡ In (Commands others) (item_run item)
entered_with items item others status e = ap (λ these. items_run these status) e ∙ behind_first item others status

pub list_with : (x : CompoundList) (item : ListItem) (others : List ListItem) → (view.out-CompoundList x).items ≡ item ∷ others → list_run x ≡ In (Commands others) (item_run item)
list_with x item others e = list_is x ∙ entered_with (view.out-CompoundList x).items item others (unexcused 0) e

-- ---- pipelines
pub pipeline_is : (x : Pipeline) → pipeline_run x ≡ with_negation (view.out-Pipeline x).is_negated (commands_run x)
unfolding pipeline_run command_entry
pipeline_is x = ap pipeline_run (sym (view.roll-out-Pipeline x)) ∙ folds.para-roll-Pipeline Entry Entry (Unit {0}) (Unit {0}) (Unit {0}) Run (Unit {0}) Entry Run (Unit {0}) (Unit {0}) Run (Unit {0}) Run (Unit {0}) (Unit {0})
    command_step form_step no_entry no_entry no_entry and_or_step no_entry compound_step compound_list_step no_entry no_entry list_item_step no_entry pipeline_step no_entry no_entry (view.out-Pipeline x)

pub alone : (x : Pipeline) → (view.out-Pipeline x).rest ≡ [] → commands_run x ≡ command_run (view.out-Pipeline x).first
alone x e = ap (λ rest. commands_step (to_enter (view.out-Pipeline x).first) (map to_enter rest)) e

several_as : (first : Command) (rest : List Command) (next : Command) (others : List Command) → rest ≡ next ∷ others
    → commands_step (to_enter first) (map to_enter rest) ≡ At (Next (staging (Foreground None) (first ∷ rest)))
several_as first rest next others e =
    ap (λ commands. commands_step (to_enter first) (map to_enter commands)) e
    ∙ ap (λ commands. At (Next (staging (Foreground None) (first ∷ next ∷ commands)))) (trees_beside command_entry others)
    ∙ ap (λ commands. At (Next (staging (Foreground None) (first ∷ commands)))) (sym e)

pub several : (x : Pipeline) (next : Command) (others : List Command) → (view.out-Pipeline x).rest ≡ next ∷ others → commands_run x ≡ At (Next (staging (Foreground None) (commands_of x)))
several x next others e = several_as (view.out-Pipeline x).first (view.out-Pipeline x).rest next others e

long_as : (first : Command) (rest : List Command) → 1 ≤ length rest → commands_step (to_enter first) (map to_enter rest) ≡ At (Next (staging (Foreground None) (first ∷ rest)))
long_as first [] h = absurd (omega (arith, h))
long_as first (next ∷ others) h = several_as first (next ∷ others) next others refl

pub several_long : (x : Pipeline) → 1 ≤ length (view.out-Pipeline x).rest → commands_run x ≡ At (Next (staging (Foreground None) (commands_of x)))
several_long x h = long_as (view.out-Pipeline x).first (view.out-Pipeline x).rest h

-- ---- compound commands
redirected_beside : {A B : Type 0} (f : A → B) (xs : List A) (run : Run) (whole : Command) → redirected (map f xs) run whole ≡ redirected xs run whole
redirected_beside f [] run whole = refl
redirected_beside f (x ∷ xs) run whole = refl

unless_beside : {A B : Type 0} (b : Bool) (f : A → B) (xs : List A) (run : Run) (whole : Command) → unless_subshell b (map f xs) run whole ≡ unless_subshell b xs run whole
unless_beside true f xs run whole = refl
unless_beside false f xs run whole = redirected_beside f xs run whole

pub compound_is : (x : Compound) (whole : Command)
    → compound_entry x whole ≡ unless_subshell (is_subshell (view.out-CompoundForm (view.out-Compound x).form)) (view.out-Compound x).redirects (form_entry (view.out-Compound x).form whole) whole
unfolding compound_entry form_entry
compound_is x whole = ap (λ entry. entry whole) (ap compound_entry (sym (view.roll-out-Compound x)) ∙ folds.para-roll-Compound Entry Entry (Unit {0}) (Unit {0}) (Unit {0}) Run (Unit {0}) Entry Run (Unit {0}) (Unit {0}) Run (Unit {0}) Run (Unit {0}) (Unit {0})
    command_step form_step no_entry no_entry no_entry and_or_step no_entry compound_step compound_list_step no_entry no_entry list_item_step no_entry pipeline_step no_entry no_entry (view.out-Compound x))
    ∙ unless_beside (is_subshell (view.out-CompoundForm (view.out-Compound x).form)) _ (view.out-Compound x).redirects (form_entry (view.out-Compound x).form whole) whole

pub compound_of_subshell : (x : Compound) (whole : Command) → is_subshell (view.out-CompoundForm (view.out-Compound x).form) ≡ true → compound_entry x whole ≡ form_entry (view.out-Compound x).form whole
compound_of_subshell x whole b = compound_is x whole ∙ ap (λ z. unless_subshell z (view.out-Compound x).redirects (form_entry (view.out-Compound x).form whole) whole) b

unless_none : (b : Bool) (xs : List Redirect) (run : Run) (whole : Command) → xs ≡ [] → unless_subshell b xs run whole ≡ run
unless_none true xs run whole e = refl
unless_none false xs run whole e = ap (λ (these : List Redirect). redirected these run whole) e

pub compound_plain : (x : Compound) (whole : Command) → (view.out-Compound x).redirects ≡ [] → compound_entry x whole ≡ form_entry (view.out-Compound x).form whole
compound_plain x whole e =
    compound_is x whole ∙ unless_none (is_subshell (view.out-CompoundForm (view.out-Compound x).form)) (view.out-Compound x).redirects (form_entry (view.out-Compound x).form whole) whole e

pub redirected_some : (xs : List Redirect) (run : Run) (whole : Command) → 1 ≤ length xs → redirected xs run whole ≡ At (Next (Expanding (Redirects whole) None))
redirected_some [] run whole h = absurd (omega (arith, h))
redirected_some (x ∷ xs) run whole h = refl

pub compound_redirected : (x : Compound) (whole : Command) → is_subshell (view.out-CompoundForm (view.out-Compound x).form) ≡ false → 1 ≤ length (view.out-Compound x).redirects
    → compound_entry x whole ≡ At (Next (Expanding (Redirects whole) None))
compound_redirected x whole b h =
    compound_is x whole ∙ ap (λ z. unless_subshell z (view.out-Compound x).redirects (form_entry (view.out-Compound x).form whole) whole) b
    ∙ redirected_some (view.out-Compound x).redirects (form_entry (view.out-Compound x).form whole) whole h

pub group_entered : (list : CompoundList) (whole : Command) → form_entry (form.Group list) whole ≡ list_run list
unfolding form_entry list_run
group_entered list whole = ap (λ entry. form_entry entry whole) (sym (form.rolls-Group list)) ∙ ap (λ entry. entry whole) (folds.para-roll-CompoundForm Entry Entry (Unit {0}) (Unit {0}) (Unit {0}) Run (Unit {0}) Entry Run (Unit {0}) (Unit {0}) Run (Unit {0}) Run (Unit {0}) (Unit {0})
    command_step form_step no_entry no_entry no_entry and_or_step no_entry compound_step compound_list_step no_entry no_entry list_item_step no_entry pipeline_step no_entry no_entry (layer.Group list))

pub subshell_entered : (list : CompoundList) (whole : Command) → form_entry (form.Subshell list) whole ≡ At (Next (staging (Foreground None) (whole ∷ [])))
unfolding form_entry list_run
subshell_entered list whole = ap (λ entry. form_entry entry whole) (sym (form.rolls-Subshell list)) ∙ ap (λ entry. entry whole) (folds.para-roll-CompoundForm Entry Entry (Unit {0}) (Unit {0}) (Unit {0}) Run (Unit {0}) Entry Run (Unit {0}) (Unit {0}) Run (Unit {0}) Run (Unit {0}) (Unit {0})
    command_step form_step no_entry no_entry no_entry and_or_step no_entry compound_step compound_list_step no_entry no_entry list_item_step no_entry pipeline_step no_entry no_entry (layer.Subshell list))

pub if_entered : (condition : CompoundList) (body : CompoundList) (else_ifs : List ElseIf) (else_body : Option CompoundList) (whole : Command) → form_entry (form.If condition body else_ifs else_body) whole ≡ In (If (record { body = body; else_ifs = else_ifs; else_body = else_body })) (list_run condition)
unfolding form_entry list_run
if_entered condition body else_ifs None whole = ap (λ entry. form_entry entry whole) (sym (form.rolls-If condition body else_ifs None)) ∙ ap (λ entry. entry whole) (folds.para-roll-CompoundForm Entry Entry (Unit {0}) (Unit {0}) (Unit {0}) Run (Unit {0}) Entry Run (Unit {0}) (Unit {0}) Run (Unit {0}) Run (Unit {0}) (Unit {0})
    command_step form_step no_entry no_entry no_entry and_or_step no_entry compound_step compound_list_step no_entry no_entry list_item_step no_entry pipeline_step no_entry no_entry (layer.If condition body else_ifs None))
    ∙ ap (λ others. In (If (record { body = body; else_ifs = others; else_body = None })) (list_run condition)) (trees_beside no_entry else_ifs)
if_entered condition body else_ifs (Some list) whole = ap (λ entry. form_entry entry whole) (sym (form.rolls-If condition body else_ifs (Some list))) ∙ ap (λ entry. entry whole) (folds.para-roll-CompoundForm Entry Entry (Unit {0}) (Unit {0}) (Unit {0}) Run (Unit {0}) Entry Run (Unit {0}) (Unit {0}) Run (Unit {0}) Run (Unit {0}) (Unit {0})
    command_step form_step no_entry no_entry no_entry and_or_step no_entry compound_step compound_list_step no_entry no_entry list_item_step no_entry pipeline_step no_entry no_entry (layer.If condition body else_ifs (Some list)))
    ∙ ap (λ others. In (If (record { body = body; else_ifs = others; else_body = (Some list) })) (list_run condition)) (trees_beside no_entry else_ifs)

pub loop_entered : (kind : LoopKind) (condition : CompoundList) (body : CompoundList) (whole : Command) → form_entry (form.Loop kind condition body) whole ≡ In (Condition (record { kind = kind; condition = condition; body = body }) (unexcused 0)) (list_run condition)
unfolding form_entry list_run
loop_entered kind condition body whole = ap (λ entry. form_entry entry whole) (sym (form.rolls-Loop kind condition body)) ∙ ap (λ entry. entry whole) (folds.para-roll-CompoundForm Entry Entry (Unit {0}) (Unit {0}) (Unit {0}) Run (Unit {0}) Entry Run (Unit {0}) (Unit {0}) Run (Unit {0}) Run (Unit {0}) (Unit {0})
    command_step form_step no_entry no_entry no_entry and_or_step no_entry compound_step compound_list_step no_entry no_entry list_item_step no_entry pipeline_step no_entry no_entry (layer.Loop kind condition body))

pub for_entered : (name : Name) (words : List Word) (body : CompoundList) (whole : Command) → form_entry (form.For name words body) whole ≡ At (Next (Expanding (ForWords whole) None))
unfolding form_entry list_run
for_entered name words body whole = ap (λ entry. form_entry entry whole) (sym (form.rolls-For name words body)) ∙ ap (λ entry. entry whole) (folds.para-roll-CompoundForm Entry Entry (Unit {0}) (Unit {0}) (Unit {0}) Run (Unit {0}) Entry Run (Unit {0}) (Unit {0}) Run (Unit {0}) Run (Unit {0}) (Unit {0})
    command_step form_step no_entry no_entry no_entry and_or_step no_entry compound_step compound_list_step no_entry no_entry list_item_step no_entry pipeline_step no_entry no_entry (layer.For name words body))

pub for_parameters_entered : (name : Name) (is_separated : Bool) (body : CompoundList) (whole : Command) → form_entry (form.ForParameters name is_separated body) whole ≡ At (Next (Expanding (ForWords whole) None))
unfolding form_entry list_run
for_parameters_entered name is_separated body whole = ap (λ entry. form_entry entry whole) (sym (form.rolls-ForParameters name is_separated body)) ∙ ap (λ entry. entry whole) (folds.para-roll-CompoundForm Entry Entry (Unit {0}) (Unit {0}) (Unit {0}) Run (Unit {0}) Entry Run (Unit {0}) (Unit {0}) Run (Unit {0}) Run (Unit {0}) (Unit {0})
    command_step form_step no_entry no_entry no_entry and_or_step no_entry compound_step compound_list_step no_entry no_entry list_item_step no_entry pipeline_step no_entry no_entry (layer.ForParameters name is_separated body))

pub case_entered : (word : Word) (items : List CaseItem) (whole : Command) → form_entry (form.Case word items) whole ≡ At (Next (Expanding (CaseWord whole) None))
unfolding form_entry list_run
case_entered word items whole = ap (λ entry. form_entry entry whole) (sym (form.rolls-Case word items)) ∙ ap (λ entry. entry whole) (folds.para-roll-CompoundForm Entry Entry (Unit {0}) (Unit {0}) (Unit {0}) Run (Unit {0}) Entry Run (Unit {0}) (Unit {0}) Run (Unit {0}) Run (Unit {0}) (Unit {0})
    command_step form_step no_entry no_entry no_entry and_or_step no_entry compound_step compound_list_step no_entry no_entry list_item_step no_entry pipeline_step no_entry no_entry (layer.Case word items))

-- ---- commands
pub simple_entered : (items : List SimpleItem) (whole : Command) → command_entry (command.Simple items) whole ≡ At (Next (first_place false whole))
unfolding command_entry compound_entry
simple_entered items whole = ap (λ entry. command_entry entry whole) (sym (command.rolls-Simple items)) ∙ ap (λ entry. entry whole) (folds.para-roll-Command Entry Entry (Unit {0}) (Unit {0}) (Unit {0}) Run (Unit {0}) Entry Run (Unit {0}) (Unit {0}) Run (Unit {0}) Run (Unit {0}) (Unit {0})
    command_step form_step no_entry no_entry no_entry and_or_step no_entry compound_step compound_list_step no_entry no_entry list_item_step no_entry pipeline_step no_entry no_entry (layer.Simple items))

pub compound_entered : (compound : Compound) (whole : Command) → command_entry (command.Compound compound) whole ≡ compound_entry compound whole
unfolding command_entry compound_entry
compound_entered compound whole = ap (λ entry. command_entry entry whole) (sym (command.rolls-Compound compound)) ∙ ap (λ entry. entry whole) (folds.para-roll-Command Entry Entry (Unit {0}) (Unit {0}) (Unit {0}) Run (Unit {0}) Entry Run (Unit {0}) (Unit {0}) Run (Unit {0}) Run (Unit {0}) (Unit {0})
    command_step form_step no_entry no_entry no_entry and_or_step no_entry compound_step compound_list_step no_entry no_entry list_item_step no_entry pipeline_step no_entry no_entry (layer.Compound compound))

pub function_entered : (name : Name) (body : Compound) (whole : Command) → command_entry (command.Function name body) whole ≡ At (Next (Defining whole))
unfolding command_entry compound_entry
function_entered name body whole = ap (λ entry. command_entry entry whole) (sym (command.rolls-Function name body)) ∙ ap (λ entry. entry whole) (folds.para-roll-Command Entry Entry (Unit {0}) (Unit {0}) (Unit {0}) Run (Unit {0}) Entry Run (Unit {0}) (Unit {0}) Run (Unit {0}) Run (Unit {0}) (Unit {0})
    command_step form_step no_entry no_entry no_entry and_or_step no_entry compound_step compound_list_step no_entry no_entry list_item_step no_entry pipeline_step no_entry no_entry (layer.Function name body))

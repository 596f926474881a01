-- What is entered inside some forms, by the parts in which it is entered.
use Rattle.std.proofs.Common.{◌≡◌, List, ◌∷◌, true, false, refl, sym, ap, subst, ◌∙◌}
use Rattle.sh_exec_actions.specs.declared.action.Active.{Active}
use Rattle.sh_exec_actions.specs.declared.status.CommandStatus.{CommandStatus}
use Rattle.sh_exec_forms.proofs.Entered.{entered_with, list_with, pipeline_is}
use Rattle.sh_exec_forms.specs.Entering.{commands_run, item_run, items_run, list_run, pipeline_run, with_negation}
use Rattle.sh_exec_forms.specs.Stacks.{Goes, active_in, is_over, run_in, run_of}
use Rattle.sh_exec_forms.specs.Running.{Run, At, In}
use Rattle.sh_exec_actions.specs.declared.form.Form.{Form}
use Rattle.sh_exec_actions.specs.declared.form.Form.TheVariants.{Commands, Negated}
use Rattle.sh_exec_forms.specs.declared.step.Step.{Step}
use Rattle.sh_exec_forms.specs.declared.step.Step.TheVariants.{Outward, Inward}
use Rattle.sh_syntax.specs.declared.tree.CompoundList.{CompoundList}
use Rattle.sh_syntax.specs.declared.tree.ListItem.{ListItem}
use Rattle.sh_syntax.specs.declared.tree.Pipeline.{Pipeline}
use Rattle.sh_syntax.specs.declared.tree.Command.TheViews as view

-- what was entered, or is over, runs at its place
pub goes_runs : (step : Step) (now before : List Form) (run : Run) → Goes step now before run → run_of now (active_in step) ≡ run_in before run
goes_runs (Outward active) now before run g = ap (λ forms. run_of forms active) g.0 ∙ ap (run_in before) (sym g.1)
goes_runs (Inward active) now before run g = g.0

-- a step inside one more form
pub step_inside : (whole step : Step) (now mid before : List Form) (form : Form) (inner target : Run)
    → whole ≡ Inward (active_in step) → Goes step now mid inner → mid ≡ form ∷ before → target ≡ In form inner → Goes whole now before target
step_inside whole step now mid before form inner target w g m e =
    subst (λ this. Goes this now before target) (sym w)
    (goes_runs step now mid inner g ∙ ap (λ forms. run_in forms inner) m ∙ ap (run_in before) (sym e), ap is_over e)

-- a step for what is entered in the same way
pub step_as : (step : Step) (now before : List Form) (inner target : Run) → target ≡ inner → Goes step now before inner → Goes step now before target
step_as step now before inner target e g = subst (Goes step now before) (sym e) g

-- what begins with an action, and what is over at once
pub begun : (before : List Form) (active : Active) (target : Run) → target ≡ At active → is_over (At active) ≡ false → Goes (Inward active) before before target
begun before active target e h = (ap (run_in before) (sym e), ap is_over e ∙ h)

pub over : (before : List Form) (active : Active) (target : Run) → target ≡ At active → Goes (Outward active) before before target
over before active target e = (refl, e)

pub list_inside : (x : CompoundList) (item : ListItem) (others : List ListItem) (now mid before : List Form) (whole step : Step)
    → (view.out-CompoundList x).items ≡ item ∷ others → mid ≡ Commands others ∷ before
    → Goes step now mid (item_run item) → whole ≡ Inward (active_in step) → Goes whole now before (list_run x)
list_inside x item others now mid before whole step e m g w =
    step_inside whole step now mid before (Commands others) (item_run item) (list_run x) w g m (list_with x item others e)

pub items_inside : (items : List ListItem) (item : ListItem) (others : List ListItem) (status : CommandStatus) (now mid before : List Form) (whole step : Step)
    → items ≡ item ∷ others → mid ≡ Commands others ∷ before
    → Goes step now mid (item_run item) → whole ≡ Inward (active_in step) → Goes whole now before (items_run items status)
items_inside items item others status now mid before whole step e m g w =
    step_inside whole step now mid before (Commands others) (item_run item) (items_run items status) w g m (entered_with items item others status e)

-- `!`
pub negated : (x : Pipeline) → (view.out-Pipeline x).is_negated ≡ true → pipeline_run x ≡ In Negated (commands_run x)
negated x e = pipeline_is x ∙ ap (λ is_negated. with_negation is_negated (commands_run x)) e

pub unnegated : (x : Pipeline) → (view.out-Pipeline x).is_negated ≡ false → pipeline_run x ≡ commands_run x
unnegated x e = pipeline_is x ∙ ap (λ is_negated. with_negation is_negated (commands_run x)) e

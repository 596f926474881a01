-- Codes of a process, by which a proof tells its values apart.
use Rattle.std.specs.Prelude.{◌≡◌, List, [], ◌∷◌, refl}
use Rattle.std.specs.Coded.{Coded, code_by, coded×}
use Rattle.std.proofs.Common.{ap}
use Rattle.sh_exec_actions.specs.contracts.action.Active as active
use Rattle.sh_exec_actions.specs.declared.action.Active.{Active}
use Rattle.sh_exec_actions.specs.declared.form.Form.{Form}
use Rattle.sh_exec_forms.specs.Running.{Run, At, In}
use Rattle.sh_exec_forms.specs.FormCodes.{forms_code}

-- the forms of a tree, the outermost first, and its active place
abbrev pub forms_of : Run → List Form
forms_of (At place) = []
forms_of (In f run) = f ∷ forms_of run

abbrev pub place_in : Run → Active
place_in (At place) = place
place_in (In f run) = place_in run

-- the tree of these forms and this place
abbrev pub tree_of : List Form → Active → Run
tree_of [] place = At place
tree_of (f ∷ fs) place = In f (tree_of fs place)

pub plugged-forms_of : (run : Run) → tree_of (forms_of run) (place_in run) ≡ run
plugged-forms_of (At place) = refl
plugged-forms_of (In f run) = ap (In f) (plugged-forms_of run)

abbrev pub run_code : Coded Run
run_code = code_by (List Form × Active) (coded× forms_code active.the_row.coded) (λ run. (forms_of run, place_in run)) (λ p. tree_of p.0 p.1) plugged-forms_of

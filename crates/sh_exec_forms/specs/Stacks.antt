-- A tree, and the list of the forms round its place, the innermost first.
use Rattle.std.specs.Prelude.{◌≡◌, List, [], ◌∷◌, reverse, Bool, true, false, length, ◌<◌, ⊤}
use Rattle.sh_exec_actions.specs.declared.action.Active.{Active}
use Rattle.sh_exec_actions.specs.declared.action.Active.TheVariants.{Acting, Calling, Evaluating, Next, Done, Leaving}
use Rattle.sh_exec_actions.specs.declared.form.Form.{Form}
use Rattle.sh_exec_actions.specs.declared.form.Frame.{Frame}
use Rattle.sh_exec_forms.specs.Running.{Run, At, In}
use Rattle.sh_exec_forms.specs.declared.step.Step.{Step}
use Rattle.sh_exec_forms.specs.declared.step.Step.TheVariants.{Outward, Inward}
use Rattle.sh_exec_forms.specs.Frames.{framed}

-- what runs inside some forms
abbrev pub run_in : List Form → Run → Run
run_in [] run = run
run_in (form ∷ forms) run = run_in forms (In form run)

abbrev pub run_of : List Form → Active → Run
run_of forms active = run_in forms (At active)

-- the forms round the place of a tree that stands inside some forms, and of a whole tree
abbrev pub forms_round : (around : List Form) → Run → List Form
forms_round around (At active) = around
forms_round around (In form run) = forms_round (form ∷ around) run

abbrev pub path_of : Run → List Form
path_of run = forms_round [] run

-- the forms of a tree, the outermost first
abbrev pub frames_of : Run → List Frame
frames_of run = reverse (framed (path_of run))

-- whether all that runs is done or left, so that what is around it goes on
abbrev pub is_over : Run → Bool
is_over (At (Done status)) = true
is_over (At (Leaving leave)) = true
is_over _ = false

abbrev pub active_in : Step → Active
active_in (Outward active) = active
active_in (Inward active) = active

-- inside the forms that there were before, this runs: it is over, or some of it was entered
abbrev pub Goes : Step → (now before : List Form) → Run → Type 0
Goes (Outward active) now before run = (now ≡ before) × (run ≡ At active)
Goes (Inward active) now before run = (run_of now active ≡ run_in before run) × (is_over run ≡ false)

-- what is over leaves the forms around it as they were
abbrev pub Leaves : Step → (now before : List Form) → Type 0
Leaves (Outward active) now before = now ≡ before
Leaves (Inward active) now before = ⊤

-- each step outward leaves fewer forms
abbrev pub IsFewer : Step → (now before : List Form) → Type 0
IsFewer (Outward active) now before = length now < length before
IsFewer (Inward active) now before = ⊤

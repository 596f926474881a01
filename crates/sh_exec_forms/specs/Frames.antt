-- The forms round the place where a shell acts, as a list with the innermost first, and what holds inside them.
use Rattle.std.specs.Option.{is_some, option_or, unwrap_or}
use Rattle.std.specs.Prelude.{ℕ, List, [], ◌∷◌, map, ◌||◌, ◌&&◌, not, Bool, true, false, Option, None, if◌then◌else◌}
use Rattle.sh_builtin_outcome.specs.declared.builtin.Builtin.{Builtin}
use Rattle.sh_builtin_outcome.specs.declared.builtin.Builtin.TheVariants.{Alias, Bg, Bracket, Break, Cd, Colon, Command, Continue, Dot, Echo, Eval, Exec, Exit, Export, False, Fg, Jobs, Kill, Pwd, Read, ReadOnly, Return, Set, Shift, Test, Trap, True, Unalias, Unset, Wait}
use Rattle.sh_exec_forms.specs.Kinds.{before_trap, ignores_failure, is_call, is_loop, levels_inside, most_levels, refusal_ends, takes_return}
use Rattle.sh_exec_actions.specs.declared.form.Form.{Form}
use Rattle.sh_exec_actions.specs.declared.form.Form.TheVariants.{FailuresIgnored}
use Rattle.sh_exec_actions.specs.declared.form.Frame.{Frame}

-- whether the body of a function or a dot script is among some forms
abbrev pub may_return : List Form → Bool
may_return [] = false
may_return (form ∷ forms) = takes_return form || may_return forms

-- whether a loop is among some forms; a function doesn't see the loops of its caller
abbrev pub has_loop : List Form → Bool
has_loop [] = false
has_loop (form ∷ forms) = is_loop form || (not (is_call form) && has_loop forms)

-- whether `set -e` takes no notice of a failure inside some forms (2.15, set)
abbrev pub is_failure_ignored : List Form → Bool
is_failure_ignored [] = false
is_failure_ignored (form ∷ around) = ignores_failure form || is_failure_ignored around

-- how many more calls of functions, texts that `eval` and `.` run (2.15), and actions of traps there may be inside some forms, one in
-- another
abbrev pub levels_left : List Form → ℕ
levels_left [] = most_levels
levels_left (form ∷ around) = levels_inside form (levels_left around)

-- ---- the actions of traps (2.15 trap): what `$?` was before the innermost one among some forms; a call or a dot script
-- hides those around it, where only its own ones count
abbrev pub before_action : (own : Bool) → List Form → Option ℕ
before_action own [] = None
before_action own (form ∷ around) =
    if own && takes_return form then None else option_or (before_trap form) (before_action own around)

-- the status with which exit and return leave inside some forms where they have no operand (2.15)
abbrev pub last_for : List Form → Builtin → (last : ℕ) → ℕ
last_for around Exit last = unwrap_or (before_action false around) last
last_for around Return last = unwrap_or (before_action true around) last
last_for around _ last = last

-- whether a text that is refused right inside some forms ends the shell (2.8.1)
abbrev pub ends_shell : List Form → Bool
ends_shell [] = true
ends_shell (form ∷ around) = refusal_ends form

-- whether what is done right inside some forms is a trap's action as a whole, which is no command
abbrev pub ends_action : List Form → Bool
ends_action [] = false
ends_action (form ∷ around) = is_some (before_trap form)

-- the forms with which a process begins
abbrev pub root_forms : (ignored : Bool) → List Form
root_forms true = FailuresIgnored ∷ []
root_forms false = []

-- forms, each with what holds inside it
abbrev pub framed : List Form → List Frame
framed [] = []
framed (form ∷ around) =
    record { form = form; ignores_failure = is_failure_ignored (form ∷ around); levels_left = levels_left (form ∷ around) } ∷ framed around

abbrev pub forms_in : List Frame → List Form
forms_in frames = map (λ frame. frame.form) frames

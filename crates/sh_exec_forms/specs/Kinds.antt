-- What holds of a running form by its kind.
use Rattle.std.specs.Prelude.{ℕ, ◌-◌, Bool, true, false, Option, Some, None}
use Rattle.sh_builtin_outcome.specs.declared.outcome.TextOrigin.{TextOrigin}
use Rattle.sh_builtin_outcome.specs.declared.outcome.TextOrigin.TheVariants.{Eval, DotScript}
use Rattle.sh_exec_actions.specs.declared.action.Action.{Action}
use Rattle.sh_exec_actions.specs.declared.action.Action.TheVariants.{AssignLoopVariable}
use Rattle.sh_exec_actions.specs.declared.form.Form.{Form}
use Rattle.sh_exec_actions.specs.declared.form.Form.TheVariants.{Text, Input, Commands, Joined, Negated, Restoring, If, Condition, Body, ForBody, Call, Evaluation, Trapped, Interruption, FailuresIgnored}

-- ---- loops (2.9.4), and the bodies of functions (2.9.5)
-- whether an action begins a round of a for
abbrev pub begins_round : Action → Bool
begins_round (AssignLoopVariable series) = true
begins_round _ = false

-- the action of a trap that comes before a round of a for is run inside that loop, as it is in the list of any other (2.15 trap: as by eval)
abbrev pub is_loop : Form → Bool
is_loop (Condition loop last) = true
is_loop (Body loop) = true
is_loop (ForBody series) = true
is_loop (Interruption status next) = begins_round next
is_loop _ = false

-- a function doesn't see the loops of its caller
abbrev pub is_call : Form → Bool
is_call (Call positional) = true
is_call _ = false

abbrev pub is_dot_script : TextOrigin → Bool
is_dot_script Eval = false
is_dot_script DotScript = true

-- the bodies of functions and dot scripts, which `return` ends (2.15 return)
abbrev pub takes_return : Form → Bool
takes_return (Call positional) = true
takes_return (Evaluation how) = is_dot_script how.origin
takes_return _ = false

-- ---- whether a text that is refused right inside a form ends a shell that isn't interactive (2.8.1): not where `command` has it run
abbrev pub refusal_ends : Form → Bool
refusal_ends (Evaluation how) = how.is_special
refusal_ends _ = true

-- ---- whether `set -e` takes no notice of a failure inside a form, whatever is around it (2.15, set): in a condition, in a pipeline of an
-- AND-OR list that isn't its last, after `!`, and in a process that was made where this was so
abbrev pub ignores_failure : Form → Bool
ignores_failure (Joined others) = true
ignores_failure Negated = true
ignores_failure (If branches) = true
ignores_failure (Condition loop last) = true
ignores_failure FailuresIgnored = true
ignores_failure _ = false

-- ---- calls of functions, texts that are run (2.15 dot, eval), and actions of traps, inside one another: with none around there may be so
-- many
abbrev pub most_levels : ℕ
most_levels = 1000

-- how many more there may be inside a form, where there may be this number more around it
abbrev pub levels_inside : Form → ℕ → ℕ
levels_inside (Call positional) levels = levels - 1
levels_inside (Evaluation how) levels = levels - 1
levels_inside (Trapped status) levels = levels - 1
levels_inside (Interruption status next) levels = levels - 1
levels_inside _ levels = levels

-- ---- the action of a trap: what `$?` was before it (2.15 trap)
abbrev pub before_trap : Form → Option ℕ
before_trap (Trapped status) = Some status
before_trap (Interruption status next) = Some status
before_trap _ = None

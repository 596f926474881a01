-- The text of the job that a pipeline becomes when it is suspended (XCU jobs, "STDOUT").
use Rattle.std.specs.Prelude.{ℕ, List, [], ◌∷◌, Bool, true, false, Option, Some, None, if◌then◌else◌}
use Rattle.std.specs.Option.{option_map}
use Rattle.sh_exec_actions.specs.declared.form.Form.{Form}
use Rattle.sh_exec_actions.specs.declared.form.Form.TheVariants.{Text, Input, Commands, Joined, Negated, Restoring, If, Condition, Body, ForBody, Call, Evaluation, Trapped, Interruption, FailuresIgnored}
use Rattle.sh_exec_forms.specs.Kinds.{is_call}
use Rattle.sh_syntax.specs.Text.{pipeline_tokens}
use Rattle.sh_syntax.specs.Tokens.{text_of}
use Rattle.sh_syntax.specs.declared.tree.Command.{Command}
use Rattle.sh_syntax.specs.declared.tree.Command.TheViews as view

-- ---- the tokens of these commands as a pipeline, with its `!`
abbrev pub pipeline_text : (is_negated : Bool) → List Command → List ℕ
pipeline_text is_negated [] = []
pipeline_text is_negated (first ∷ rest) =
    text_of (pipeline_tokens (view.roll-Pipeline (record { is_negated = is_negated; first = first; rest = rest })))

abbrev pub is_negation : Form → Bool
is_negation Negated = true
is_negation _ = false

-- a pipeline directly inside these forms is behind a `!`
abbrev pub is_negated_in : List Form → Bool
is_negated_in [] = false
is_negated_in (form ∷ around) = is_negation form

-- ---- a subshell that is the body of a function: the command that called it, with the forms round that
abbrev pub command_of : Form → Option Command
command_of (Restoring undo) = Some undo.command
command_of _ = None

abbrev pub called_by : List Form → Option (Command × List Form)
called_by [] = None
called_by (form ∷ around) = option_map (λ command. (command, around)) (command_of form)

abbrev pub caller_in : List Form → Option (Command × List Form)
caller_in [] = None
caller_in (form ∷ around) = if is_call form then called_by around else None

-- ---- the text of the pipeline of these commands, directly inside these forms; such a subshell has that of the pipeline that called the
-- function
abbrev pub text_by : List Form → List Command → Option (Command × List Form) → List ℕ
text_by around commands None = pipeline_text (is_negated_in around) commands
text_by around commands (Some caller) = pipeline_text (is_negated_in caller.1) (caller.0 ∷ [])

unfoldable pub job_text : List Form → List Command → List ℕ
job_text around commands = text_by around commands (caller_in around)

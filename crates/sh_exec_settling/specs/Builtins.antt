-- A built-in acts or a function is called, in the turn of the last of what comes before it (2.9.1.4), and a text that is to be run is
-- entered (2.15 dot, eval).
use Rattle.std.specs.Prelude.{ℕ, zero, suc, List, drop}
use Rattle.sh_builtin.specs.Invocations.{invoked}
use Rattle.sh_builtin_outcome.specs.declared.outcome.TextRun.{TextRun}
use Rattle.sh_builtin_outcome.specs.declared.invocation.Invocation.{Invocation}
use Rattle.sh_builtin_shell.specs.declared.shell.Shell.{Shell}
use Rattle.sh_exec_actions.specs.declared.action.Active.{Active}
use Rattle.sh_exec_actions.specs.declared.action.Active.TheVariants.{Acting, Calling, Evaluating, Next, Done, Leaving}
use Rattle.sh_exec_actions.specs.declared.action.Action.TheVariants.{Reading}
use Rattle.sh_exec_actions.specs.declared.form.Form.{Form}
use Rattle.sh_exec_actions.specs.declared.form.Form.TheVariants.{Call, Evaluation}
use Rattle.sh_exec_actions.specs.Preparing.{fatal}
use Rattle.sh_exec_forms.specs.Entering.{command_run}
use Rattle.sh_exec_forms.specs.Frames.{last_for, levels_left}
use Rattle.sh_exec_signals.specs.Reporting.{behind}
use Rattle.sh_exec_signals.specs.Signals.{after_traps}
use Rattle.sh_exec_forms.specs.Running.{Run, At, In}
use Rattle.sh_exec_parts.specs.Messages.{refusal_text}
use Rattle.sh_exec_parts.specs.declared.message.Refusal.TheVariants as refusal
use Rattle.sh_kernel.specs.State.{KernelState}
use Rattle.sh_syntax.specs.declared.tree.Command.{Command}
use Rattle.sh_vars.specs.Environment.{with_positional}

-- ---- the shell then, and what runs at the place: another place, or forms that were entered
pub record Performed : Type 0 where
  pub shell : Shell
  pub run : Run

abbrev pub with_active : Shell → Active → Performed
with_active shell active = record { shell = shell; run = At active }

-- ---- what is entered; the levels are how many more calls and texts there may be, one in another, at this place
abbrev pub too_deep : Shell → Performed
too_deep shell = with_active shell (fatal (refusal_text refusal.TooDeep))

abbrev pub evaluation : (levels : ℕ) → Shell → TextRun → List ℕ → Performed
evaluation zero shell how text = too_deep shell
evaluation (suc levels) shell how text = record { shell = shell; run = In (Evaluation how) (At (Next (Reading text 0))) }

-- a function's arguments are the positional parameters in its body; those of the caller come back after it (2.9.5)
abbrev pub with_parameters : Shell → List (List ℕ) → Shell
with_parameters shell parameters = record shell { vars = with_positional shell.vars parameters }

abbrev pub call : (levels : ℕ) → Shell → Command → List (List ℕ) → Performed
call zero shell body arguments = too_deep shell
call (suc levels) shell body arguments = record { shell = with_parameters shell arguments; run = In (Call shell.vars.positional) (command_run body) }

-- what runs at a place where no built-in acts
abbrev pub performed : (levels : ℕ) → Shell → Active → Performed
performed levels shell (Acting invocation fields) = with_active shell (Acting invocation fields)
performed levels shell (Calling body fields) = call levels shell body (drop 1 fields)
performed levels shell (Evaluating how text) = evaluation levels shell how text
performed levels shell (Next place) = with_active shell (Next place)
performed levels shell (Done ended) = with_active shell (Done ended)
performed levels shell (Leaving leave) = with_active shell (Leaving leave)

-- ---- a built-in acts inside some forms, the innermost first
unfoldable pub builtin_effect : (around : List Form) → KernelState → Shell → Invocation → List (List ℕ) → Performed
builtin_effect around s shell invocation fields =
    let d = invoked s shell (last_for around invocation.builtin shell.vars.special.status) invocation (drop 1 fields) in
    performed (levels_left around) d.shell (behind invocation.builtin d.outcome)

-- its process then does with the signals whose traps it has set what these say (2.15 trap)
unfoldable pub builtin_machine : (around : List Form) → KernelState → Shell → Invocation → List (List ℕ) → KernelState
builtin_machine around s shell invocation fields =
    let d = invoked s shell (last_for around invocation.builtin shell.vars.special.status) invocation (drop 1 fields) in
    after_traps s d.shell d.outcome.signals

abbrev pub machine_at : (around : List Form) → KernelState → Shell → Active → KernelState
machine_at around s shell (Acting invocation fields) = builtin_machine around s shell invocation fields
machine_at around s shell _ = s

abbrev pub effect_at : (around : List Form) → KernelState → Shell → Active → Performed
effect_at around s shell (Acting invocation fields) = builtin_effect around s shell invocation fields
effect_at around s shell (Calling body fields) = performed (levels_left around) shell (Calling body fields)
effect_at around s shell (Evaluating how text) = performed (levels_left around) shell (Evaluating how text)
effect_at around s shell (Next place) = performed (levels_left around) shell (Next place)
effect_at around s shell (Done ended) = performed (levels_left around) shell (Done ended)
effect_at around s shell (Leaving leave) = performed (levels_left around) shell (Leaving leave)

-- The assignments of a simple command (XCU 2.9.1.2), from left to right, each seeing those before it.
use Rattle.std.specs.Prelude.{ℕ, List, [], ◌∷◌, ◌++◌, not, ◌||◌, Bool, true, false, Option, None, slice_get, unwrap_or, if◌then◌else◌}
use Rattle.sh_exec_parts.specs.Messages.{fault_text, read_only}
use Rattle.sh_exec_parts.specs.declared.simple.Assignment.{Assignment}
use Rattle.sh_builtin_environment.specs.Variables.{may_set}
use Rattle.sh_exec_command.specs.Expanding.{Turn, start_of}
use Rattle.sh_exec_actions.specs.Preparing.{fatal, final_move}
use Rattle.sh_exec_parts.specs.Saving.{saved_of}
use Rattle.sh_exec_command.specs.declared.assigning.Assigned.{Assigned}
use Rattle.sh_exec_command.specs.declared.assigning.Assigned.TheVariants.{On, Over}
use Rattle.sh_exec_actions.specs.declared.action.Expanded.TheVariants as expanded_as
use Rattle.sh_exec_actions.specs.declared.action.Move.TheVariants.{Held}
use Rattle.sh_exec_actions.specs.declared.action.ExpandedCommand.{ExpandedCommand}
use Rattle.sh_exec_actions.specs.declared.action.Role.{Role}
use Rattle.sh_exec_actions.specs.declared.action.Role.TheVariants as role
use Rattle.sh_exec_actions.specs.declared.action.Undo.{Undo}
use Rattle.sh_exec_actions.specs.declared.action.ToExpand.TheVariants.{Values}
use Rattle.sh_expand.specs.Answers.{Pending, fields_in}
use Rattle.sh_expand.specs.Expanding as expanding
use Rattle.sh_expand_parts.specs.declared.context.Context.TheVariants as context
use Rattle.sh_expand.specs.declared.wanted.Wanted.{Wanted}
use Rattle.sh_files.specs.Nodes.{FileMap}
use Rattle.sh_syntax.specs.declared.tree.Parts.{Parts}
use Rattle.sh_vars.specs.Environment.{Environment, with_export, with_value}

-- before a function, a built-in that isn't run as a special one, and a program, also behind exec, the variable is exported while that runs;
-- before a special built-in, and without a command name, it is set and stays (2.9.1.2, 2.15); a compound command has no assignments
abbrev pub is_passing : Role → Bool
is_passing role.NoCommandName = false
is_passing (role.Builtin invocation) = not invocation.is_special
is_passing (role.Function body) = true
is_passing role.Program = true
is_passing (role.Exec is_command is_special) = is_command || not is_special
is_passing (role.Compound command) = false
is_passing (role.Subshell list) = false

unfoldable pub with_assigned : Role → Environment → List ℕ → List ℕ → Environment
with_assigned r env name value = if is_passing r then with_export (with_value env name value) name else with_value env name value

-- how it is undone: a program's process keeps it
abbrev pub is_undone : Role → Bool
is_undone role.NoCommandName = false
is_undone (role.Builtin invocation) = not invocation.is_special
is_undone (role.Function body) = true
is_undone role.Program = false
is_undone (role.Exec is_command is_special) = not is_special
is_undone (role.Compound command) = false
is_undone (role.Subshell list) = false

unfoldable pub undo_with : Role → Environment → Undo → List ℕ → Undo
undo_with r env undo name = if is_undone r then record undo { variables = undo.variables ++ saved_of env name ∷ [] } else undo

-- the command after an assignment
abbrev pub with_saved_variable : ExpandedCommand → Environment → List ℕ → ExpandedCommand
with_saved_variable p env name = record p { undo = undo_with p.role env p.undo name }

-- the one text that a value comes to
abbrev pub text_of : List (List ℕ) → List ℕ
text_of fields = unwrap_or (slice_get fields 0) []

abbrev pub value_wanted : Parts → Wanted
value_wanted parts = record { parts = parts; context = context.Assignment }

-- the expansion of its value that waits, or that begins
abbrev pub value_start : Environment → Assignment → Option Pending → Pending
value_start env assignment pending = start_of env (value_wanted assignment.value ∷ []) pending

-- what the shell's variables and the command are after one assignment
pub record Step : Type 0 where
  pub environment : Environment
  pub outcome : Assigned

-- a fault ends the shell; what the command changed is undone after the message
abbrev pub fatal_step : ExpandedCommand → Environment → List ℕ → Step
fatal_step p env text = record { environment = env; outcome = Over (expanded_as.Go (Held p.undo (fatal text))) }

-- an assignment to a read-only variable is refused (2.8.1)
unfoldable pub value_step : ExpandedCommand → Environment → List ℕ → List ℕ → Step
value_step p env name value =
    if may_set env name
    then record { environment = with_assigned p.role env name value; outcome = On (with_saved_variable p env name) }
    else fatal_step p env (read_only name)

-- an assignment that needs an answer is the next one again; those after it are still the command's
abbrev pub assigned_by : ExpandedCommand → Assignment → Pending → expanding.Result → Step
assigned_by p assignment pending (expanding.Need program env) =
    record { environment = env; outcome = Over (expanded_as.Need program (Values (record p { assignments = assignment ∷ p.assignments })) pending) }
assigned_by p assignment pending (expanding.Fields fields env) = value_step p env assignment.name (text_of fields)
assigned_by p assignment pending (expanding.Stops fault env) = fatal_step p env (fault_text fault)

unfoldable pub assigned_one : FileMap → Environment → ExpandedCommand → Assignment → Option Pending → Step
assigned_one files env p assignment pending =
    assigned_by p assignment (value_start env assignment pending) (fields_in files (value_start env assignment pending))

-- the next assignment, where the turn isn't over
abbrev pub behind : Environment → Assigned → (Environment → ExpandedCommand → Turn) → Turn
behind env (On p) next = next env p
behind env (Over outcome) next = record { environment = env; outcome = outcome }

-- these assignments; the answers so far are for the first of them
abbrev pub assignments_turn : FileMap → List Assignment → Environment → ExpandedCommand → Option Pending → Turn
assignments_turn files [] env p pending = record { environment = env; outcome = expanded_as.Go (final_move p) }
assignments_turn files (assignment ∷ others) env p pending =
    let step = assigned_one files env (record p { assignments = others }) assignment pending in
    behind step.environment step.outcome (λ after command. assignments_turn files others after command None)

-- what the command then does, or what it needs first
unfoldable pub assign_turn : FileMap → Environment → ExpandedCommand → Option Pending → Turn
assign_turn files env p pending = assignments_turn files p.assignments env p pending

-- A simple command (XCU 2.9.1) from its tree to the place of its first action, and from its expanded words to what it does.
use Rattle.std.specs.Prelude.{ℕ, List, [], ◌∷◌, ◌||◌, not, Bool, true, false, Option, Some, None, length, if◌then◌else◌, unwrap_or}
use Rattle.sh_exec_actions.specs.Statuses as statuses
use Rattle.std.specs.List.{list_any}
use Rattle.sh_builtin_outcome.specs.Builtins.{builtin_of, is_named, is_special}
use Rattle.sh_builtin_outcome.specs.CommandWords.{behind_command}
use Rattle.sh_builtin_outcome.specs.Functions.{Named, body_of}
use Rattle.sh_builtin_outcome.specs.Invocations.{by_command, by_name}
use Rattle.sh_builtin_outcome.specs.declared.builtin.Builtin.{Builtin}
use Rattle.sh_builtin_outcome.specs.declared.builtin.Builtin.TheVariants.{Exec}
use Rattle.sh_builtin_outcome.specs.declared.invocation.Invocation.{Invocation}
use Rattle.sh_builtin_environment.specs.Options.{Parsed, options_and_operands}
use Rattle.sh_exec_parts.specs.Messages.{message, not_redirected}
use Rattle.sh_exec_parts.specs.Redirections.{redirections_of}
use Rattle.sh_exec_parts.specs.Simple.{assignments_of, is_redirect, is_word, items_of, redirect_fields, redirects_of, word_fields}
use Rattle.sh_exec_parts.specs.declared.redirection.Redirection.{Redirection}
use Rattle.sh_exec_parts.specs.declared.simple.Assignment.{Assignment}
use Rattle.sh_exec_actions.specs.declared.action.Active.{Active}
use Rattle.sh_exec_actions.specs.declared.action.Active.TheVariants.{Acting, Calling, Next, Done}
use Rattle.sh_exec_actions.specs.declared.action.Finish.{Finish}
use Rattle.sh_exec_actions.specs.declared.action.Finish.TheVariants.{Status, Fault}
use Rattle.sh_exec_actions.specs.declared.action.Move.{Move}
use Rattle.sh_exec_actions.specs.declared.action.Move.TheVariants.{At, Held, Compound, Subshell}
use Rattle.sh_exec_actions.specs.declared.action.Action.{Action}
use Rattle.sh_exec_actions.specs.declared.action.Action.TheVariants.{Expanding, Redirecting, Forking, Starting, Writing}
use Rattle.sh_exec_actions.specs.declared.action.ExpandedCommand.{ExpandedCommand}
use Rattle.sh_exec_actions.specs.declared.action.Role.{Role}
use Rattle.sh_exec_actions.specs.declared.action.Role.TheVariants as role
use Rattle.sh_exec_actions.specs.declared.action.Undo.{Undo}
use Rattle.sh_exec_actions.specs.declared.action.ToExpand.{ToExpand}
use Rattle.sh_exec_actions.specs.declared.action.ToExpand.TheVariants.{Words, Values}
use Rattle.sh_kernel_descriptors.specs.declared.fault.KernelFault.{KernelFault}
use Rattle.sh_syntax.specs.declared.tree.Command.{Command}
use Rattle.sh_vars.specs.Environment.{Environment}

-- an error that ends the shell (2.8.1), once its message is written
abbrev pub fatal : List ℕ → Active
fatal text = Next (Writing (message text) (Fault statuses.error))

-- the command has changed nothing yet
abbrev pub no_undo : Command → Undo
no_undo command = record { command = command; descriptors = []; variables = []; redirections_stay = false }

-- what exec redirects stays (2.15)
abbrev pub staying : Undo → Undo
staying undo = record undo { redirections_stay = true }

-- ---- the first action: its words and those of its redirections are expanded; a command of assignments alone begins with these
unfoldable pub nameless : Command → ExpandedCommand
nameless command = record {
  role = role.NoCommandName;
  fields = [];
  redirections = [];
  assignments = assignments_of (items_of command);
  undo = no_undo command;
  status = 0;
  has_words = false;
}

abbrev pub wants_of : Bool → Command → ToExpand
wants_of in_place command =
    if list_any is_word (items_of command) || list_any is_redirect (items_of command)
    then Words command in_place 0
    else Values (nameless command)

unfoldable pub first_place : Bool → Command → Action
first_place in_place command = Expanding (wants_of in_place command) None

-- ---- the command of these fields (2.9.1.4): a special built-in is found first, then a function, then any other built-in, then a program
abbrev pub role_by : Option Builtin → Option Command → Role
role_by (Some builtin) None = role.Builtin (by_name builtin)
role_by (Some builtin) (Some body) = if is_special builtin then role.Builtin (by_name builtin) else role.Function body
role_by None None = role.Program
role_by None (Some body) = role.Function body

-- `command` finds no function, and runs no built-in as a special one (XCU command)
abbrev pub command_role : Option Builtin → Role
command_role (Some builtin) = role.Builtin (by_command builtin)
command_role None = role.Program

-- exec with wrong options is refused as a built-in; with a command it starts that in place of the shell (2.15)
abbrev pub exec_role : Invocation → Option Parsed → Role
exec_role exec None = role.Builtin exec
exec_role exec (Some (last, [])) = role.Exec false exec.is_special
exec_role exec (Some (last, command ∷ arguments)) = role.Exec true exec.is_special

abbrev pub role_of : List Named → List (List ℕ) → Role
role_of functions [] = role.NoCommandName
role_of functions (name ∷ arguments) =
    if is_named Exec name then exec_role (by_name Exec) (options_and_operands [] arguments)
    else role_by (builtin_of name) (body_of functions name)

abbrev pub role_behind : List (List ℕ) → Role
role_behind [] = role.NoCommandName
role_behind (name ∷ arguments) =
    if is_named Exec name then exec_role (by_command Exec) (options_and_operands [] arguments) else command_role (builtin_of name)

-- the name of the command that is run, and its arguments
abbrev pub operands_in : List (List ℕ) → Option Parsed → List (List ℕ)
operands_in words None = words
operands_in words (Some (last, operands)) = operands

abbrev pub fields_of : List (List ℕ) → List (List ℕ)
fields_of [] = []
fields_of (name ∷ arguments) =
    if is_named Exec name then operands_in (name ∷ arguments) (options_and_operands [] arguments) else name ∷ arguments

-- what runs the words of a simple command, where `command` is before the words behind it, and the fields of what is run
abbrev pub role_run : List Named → (words : List (List ℕ)) → (behind : Option (List (List ℕ))) → Role
role_run functions words None = role_of functions words
role_run functions words (Some behind) = role_behind behind

abbrev pub fields_run : (words : List (List ℕ)) → (behind : Option (List (List ℕ))) → List (List ℕ)
fields_run words behind = fields_of (unwrap_or behind words)

unfoldable pub prepared_of : Environment → List Named → Command → List (List ℕ) → ℕ → ExpandedCommand
prepared_of env functions command fields status =
    let items = items_of command in
    let count = length (redirects_of items) in
    let words = word_fields fields count in
    record {
      role = role_run functions words (behind_command functions words);
      fields = fields_run words (behind_command functions words);
      redirections = redirections_of env.options.no_clobber (redirects_of items) (redirect_fields fields count);
      assignments = assignments_of items;
      undo = no_undo command;
      status = status;
      has_words = true;
    }

-- ---- what it does, once all else is done
-- an error ends the shell with this status, or the command has it (2.8.1)
abbrev pub failing : (ends_shell : Bool) → ℕ → Finish
failing true status = Fault status
failing false status = Status status

-- it ends the shell in a special built-in, and in the process that was to become a program
abbrev pub failing_of : Role → Finish
failing_of role.NoCommandName = Status statuses.error
failing_of (role.Builtin invocation) = failing invocation.is_special statuses.error
failing_of (role.Function body) = Status statuses.error
failing_of role.Program = Fault statuses.error
failing_of (role.Exec is_command is_special) = failing is_special statuses.error
failing_of (role.Compound command) = Status statuses.error
failing_of (role.Subshell list) = Status statuses.error

abbrev pub performed_by : ExpandedCommand → Role → Move
performed_by p role.NoCommandName = Held p.undo (Done (statuses.unexcused p.status))
performed_by p (role.Builtin invocation) = Held p.undo (Acting invocation p.fields)
performed_by p (role.Function body) = Held p.undo (Calling body p.fields)
performed_by p role.Program = At (Next (Starting (record { fields = p.fields; ends_shell = true })))
performed_by p (role.Exec true is_special) = Held (staying p.undo) (Next (Starting (record { fields = p.fields; ends_shell = is_special })))
performed_by p (role.Exec false is_special) = Held (staying p.undo) (Done (statuses.unexcused 0))
performed_by p (role.Compound command) = Compound p.undo command
performed_by p (role.Subshell list) = Subshell list

-- a command without a name has the status of its last substitution; a built-in acts, and a function is called, in the same turn; a
-- program is started; a compound command is entered
unfoldable pub final_move : ExpandedCommand → Move
final_move p = performed_by p p.role

-- first the redirections, then the assignments (2.9.1.1)
abbrev pub ahead_by : ExpandedCommand → List Redirection → List Assignment → Move
ahead_by p (redirection ∷ redirections) assignments = At (Next (Redirecting p))
ahead_by p [] (assignment ∷ assignments) = At (Next (Expanding (Values p) None))
ahead_by p [] [] = final_move p

unfoldable pub ahead : ExpandedCommand → Move
ahead p = ahead_by p p.redirections p.assignments

-- a program runs in a process of its own, unless the shell's process is there for it alone
abbrev pub forks : Role → (in_place : Bool) → Bool
forks role.NoCommandName in_place = false
forks (role.Builtin invocation) in_place = false
forks (role.Function body) in_place = false
forks role.Program in_place = not in_place
forks (role.Exec is_command is_special) in_place = false
forks (role.Compound command) in_place = false
forks (role.Subshell list) in_place = false

unfoldable pub first_move : (in_place : Bool) → ExpandedCommand → Move
first_move in_place p = if forks p.role in_place then At (Next (Forking p)) else ahead p

-- a redirection that can't be done (2.8.1): its message is written while the redirections before it still
-- hold
unfoldable pub not_done : ExpandedCommand → List ℕ → KernelFault → Move
not_done p word fault = Held p.undo (Next (Writing (message (not_redirected word fault)) (failing_of p.role)))

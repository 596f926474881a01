-- The redirections of a compound command (XCU 2.9.4): their words are expanded in one turn, before any of them is done.
use Rattle.std.specs.Prelude.{true, ℕ, List, [], map, Option}
use Rattle.sh_exec_parts.specs.Messages.{fault_text}
use Rattle.sh_exec_parts.specs.Redirections.{redirections_of}
use Rattle.sh_exec_parts.specs.Simple.{Opened, compound_redirects, redirect_wanted}
use Rattle.sh_exec_command.specs.Expanding.{Turn, start_of}
use Rattle.sh_exec_actions.specs.Preparing.{fatal, ahead, no_undo}
use Rattle.sh_exec_actions.specs.declared.action.Expanded.TheVariants.{Need, Go}
use Rattle.sh_exec_actions.specs.declared.action.ExpandedCommand.{ExpandedCommand}
use Rattle.sh_exec_actions.specs.declared.action.Move.TheVariants.{At}
use Rattle.sh_exec_actions.specs.declared.action.Role.{Role}
use Rattle.sh_exec_actions.specs.declared.action.Role.TheVariants as role
use Rattle.sh_exec_actions.specs.declared.action.ToExpand.TheVariants as wants
use Rattle.sh_expand.specs.Answers.{Pending, fields_in}
use Rattle.sh_expand.specs.Expanding as expanding
use Rattle.sh_files.specs.Nodes.{FileMap}
use Rattle.sh_syntax.specs.declared.tree.Command.{Command}
use Rattle.sh_syntax.specs.declared.tree.Command.TheOpen as layer
use Rattle.sh_syntax.specs.declared.tree.Command.TheViews as view
use Rattle.sh_vars.specs.Environment.{Environment}

-- the redirections of a subshell are done in its own process; any other command is entered by the shell
abbrev pub role_in : Command → Opened layer.CompoundForm-F → Role
role_in command (layer.Group list) = role.Compound command
role_in command (layer.Subshell list) = role.Subshell list
role_in command (layer.If condition body else_ifs else_body) = role.Compound command
role_in command (layer.Loop kind condition body) = role.Compound command
role_in command (layer.For name words body) = role.Compound command
role_in command (layer.ForParameters name is_separated body) = role.Compound command
role_in command (layer.Case word items) = role.Compound command

-- a command of another form has no such redirections
abbrev pub role_of_command : Command → Opened layer.Command-F → Role
role_of_command command (layer.Simple items) = role.NoCommandName
role_of_command command (layer.Compound compound) = role_in command (view.out-CompoundForm (view.out-Compound compound).form)
role_of_command command (layer.Function name body) = role.NoCommandName

unfoldable pub compound_role : Command → Role
compound_role command = role_of_command command (view.out-Command command)

-- the command whose redirections' words came to these fields
unfoldable pub redirected : Environment → Command → List (List ℕ) → ExpandedCommand
redirected env command fields = record {
  role = compound_role command;
  fields = [];
  redirections = redirections_of env.options.no_clobber (compound_redirects command) fields;
  assignments = [];
  undo = no_undo command;
  status = 0;
  has_words = true;
}

abbrev pub redirects_by : Command → Pending → expanding.Result → Turn
redirects_by command pending (expanding.Need program env) = record { environment = env; outcome = Need program (wants.Redirects command) pending }
redirects_by command pending (expanding.Fields fields env) = record { environment = env; outcome = Go (ahead (redirected env command fields)) }
redirects_by command pending (expanding.Stops fault env) = record { environment = env; outcome = Go (At (fatal (fault_text fault))) }

abbrev pub redirects_from : FileMap → Command → Pending → Turn
redirects_from files command pending = redirects_by command pending (fields_in files pending)

unfoldable pub redirects_turn : FileMap → Environment → Command → Option Pending → Turn
redirects_turn files env command pending = redirects_from files command (start_of env (map redirect_wanted (compound_redirects command)) pending)

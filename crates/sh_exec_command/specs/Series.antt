-- The values of a for (XCU 2.9.4.2): its words are expanded in one turn, and then its variable has one value after another.
use Rattle.std.specs.Prelude.{ℕ, List, [], ◌∷◌, map, Option, Some, None, if◌then◌else◌}
use Rattle.sh_exec_parts.specs.Messages.{fault_text, read_only}
use Rattle.sh_exec_parts.specs.Simple.{Opened, word_wanted}
use Rattle.sh_builtin_environment.specs.Variables.{may_set}
use Rattle.sh_exec_command.specs.Expanding.{Turn, start_of}
use Rattle.sh_exec_actions.specs.ForLoops.{rest_of_series}
use Rattle.sh_exec_actions.specs.Preparing.{fatal}
use Rattle.sh_exec_actions.specs.Statuses.{unexcused}
use Rattle.sh_exec_actions.specs.declared.action.Active.{Active}
use Rattle.sh_exec_actions.specs.declared.action.Active.TheVariants.{Next, Done}
use Rattle.sh_exec_actions.specs.declared.action.Expanded.TheVariants.{Need, Go}
use Rattle.sh_exec_actions.specs.declared.action.Move.TheVariants.{At}
use Rattle.sh_exec_actions.specs.declared.action.Action.TheVariants.{AssignLoopVariable}
use Rattle.sh_exec_actions.specs.declared.status.CommandStatus.{CommandStatus}
use Rattle.sh_exec_actions.specs.declared.action.ForLoop.{ForLoop}
use Rattle.sh_exec_actions.specs.declared.action.ToExpand.TheVariants as wants
use Rattle.sh_exec_command.specs.declared.series.Header.{Header}
use Rattle.sh_exec_command.specs.declared.series.Round.{Round}
use Rattle.sh_exec_command.specs.declared.series.Round.TheVariants.{Body, Over}
use Rattle.sh_exec_command.specs.declared.series.Values.{Values}
use Rattle.sh_exec_command.specs.declared.series.Values.TheVariants.{Words, Parameters}
use Rattle.sh_expand.specs.Answers.{Pending, fields_in}
use Rattle.sh_expand.specs.Expanding as expanding
use Rattle.sh_expand.specs.declared.wanted.Wanted.{Wanted}
use Rattle.sh_files.specs.Nodes.{FileMap}
use Rattle.sh_syntax.specs.declared.tree.Command.{Command}
use Rattle.sh_syntax.specs.declared.tree.Command.TheOpen as layer
use Rattle.sh_syntax.specs.declared.tree.Command.TheViews as view
use Rattle.sh_syntax.specs.declared.tree.CompoundList.{CompoundList}
use Rattle.sh_syntax.specs.declared.tree.Word.{Word}
use Rattle.sh_vars.specs.Environment.{Environment, with_value}

-- ---- a for in its tree; a command of another form has no header
abbrev pub word_of_series : Word → Wanted
word_of_series word = word_wanted (view.out-Word word).parts

abbrev pub header_in : Opened layer.CompoundForm-F → Option Header
header_in (layer.Group list) = None
header_in (layer.Subshell list) = None
header_in (layer.If condition body else_ifs else_body) = None
header_in (layer.Loop kind condition body) = None
header_in (layer.For name words body) = Some (record { name = name.name; values = Words (map word_of_series words); body = body })
header_in (layer.ForParameters name is_separated body) = Some (record { name = name.name; values = Parameters; body = body })
header_in (layer.Case word items) = None

abbrev pub header_of_command : Opened layer.Command-F → Option Header
header_of_command (layer.Simple items) = None
header_of_command (layer.Compound compound) = header_in (view.out-CompoundForm (view.out-Compound compound).form)
header_of_command (layer.Function name body) = None

unfoldable pub header_of : Command → Option Header
header_of command = header_of_command (view.out-Command command)

-- ---- the first value
abbrev pub begun_with : List ℕ → List (List ℕ) → CompoundList → Active
begun_with name values body = rest_of_series (record { name = name; values = values; body = body }) (unexcused 0)

-- ---- the turn of the words
abbrev pub series_by : Command → Pending → List ℕ → CompoundList → expanding.Result → Turn
series_by command pending name body (expanding.Need program env) =
    record { environment = env; outcome = Need program (wants.ForWords command) pending }
series_by command pending name body (expanding.Fields fields env) =
    record { environment = env; outcome = Go (At (begun_with name fields body)) }
series_by command pending name body (expanding.Stops fault env) =
    record { environment = env; outcome = Go (At (fatal (fault_text fault))) }

abbrev pub series_from : FileMap → Command → List ℕ → CompoundList → Pending → Turn
series_from files command name body pending = series_by command pending name body (fields_in files pending)

abbrev pub values_turn : FileMap → Environment → Command → Option Pending → List ℕ → CompoundList → Values → Turn
values_turn files env command pending name body (Words wanted) = series_from files command name body (start_of env wanted pending)
values_turn files env command pending name body Parameters =
    record { environment = env; outcome = Go (At (begun_with name env.positional body)) }

abbrev pub header_turn : FileMap → Environment → Command → Option Pending → Option Header → Turn
header_turn files env command pending None = record { environment = env; outcome = Go (At (Done (unexcused 0))) }
header_turn files env command pending (Some header) = values_turn files env command pending header.name header.body header.values

unfoldable pub series_turn : FileMap → Environment → Command → Option Pending → Turn
series_turn files env command pending = header_turn files env command pending (header_of command)

-- ---- the turn of one value: the variable has it, and the body is run; a read-only variable is a fault (2.8.1)
pub record Given : Type 0 where
  pub environment : Environment
  pub round : Round

abbrev pub give_by : Environment → ForLoop → List (List ℕ) → Given
give_by env series [] = record { environment = env; round = Over (Done (unexcused 0)) }
give_by env series (value ∷ values) =
    if may_set env series.name
    then record { environment = with_value env series.name value; round = Body (record series { values = values }) }
    else record { environment = env; round = Over (fatal (read_only series.name)) }

unfoldable pub give_turn : Environment → ForLoop → Given
give_turn env series = give_by env series series.values

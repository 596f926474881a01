-- The expansion turn of a simple command's words (XCU 2.9.1.1, steps 1 and 2): in the variables at its start, with the answers so
-- far.
use Rattle.std.specs.Prelude.{ℕ, List, [], Bool, Option, Some, None}
use Rattle.sh_builtin_shell.specs.Functions.{Named}
use Rattle.sh_exec_parts.specs.Messages.{fault_text}
use Rattle.sh_exec_parts.specs.Simple.{items_of}
use Rattle.sh_exec_parts.specs.Wants.{wanted_of}
use Rattle.sh_exec_actions.specs.Preparing.{fatal, first_move, prepared_of}
use Rattle.sh_exec_actions.specs.declared.action.Active.{Active}
use Rattle.sh_exec_actions.specs.declared.action.Active.TheVariants.{Next}
use Rattle.sh_exec_actions.specs.declared.action.Expanded.{Expanded}
use Rattle.sh_exec_actions.specs.declared.action.Expanded.TheVariants.{Need, Go}
use Rattle.sh_exec_actions.specs.declared.action.Move.TheVariants.{At}
use Rattle.sh_exec_actions.specs.declared.action.ToExpand.TheVariants.{Words}
use Rattle.sh_expand.specs.Answers.{Pending, fields_in}
use Rattle.sh_expand.specs.Expanding as expanding
use Rattle.sh_expand.specs.declared.wanted.Wanted.{Wanted}
use Rattle.sh_files.specs.Nodes.{FileMap}
use Rattle.sh_syntax.specs.declared.tree.Command.{Command}
use Rattle.sh_vars.specs.Environment.{Environment}

-- the environment and what comes of a turn
pub record Turn : Type 0 where
  pub environment : Environment
  pub outcome : Expanded

-- the expansion that waits, or that of these words, which has had no answers
abbrev pub start_of : Environment → List Wanted → Option Pending → Pending
start_of env words None = record { words = words; start = env; answers = [] }
start_of env words (Some pending) = pending

-- what the words come to; what was assigned before a fault stays
abbrev pub words_by : List Named → Command → (in_place : Bool) → (status : ℕ) → Pending → expanding.Result → Turn
words_by functions command in_place status pending (expanding.Need program env) =
    record { environment = env; outcome = Need program (Words command in_place status) pending }
words_by functions command in_place status pending (expanding.Fields fields env) =
    record { environment = env; outcome = Go (first_move in_place (prepared_of env functions command fields status)) }
words_by functions command in_place status pending (expanding.Stops fault env) =
    record { environment = env; outcome = Go (At (fatal (fault_text fault))) }

abbrev pub words_from : FileMap → List Named → Command → (in_place : Bool) → (status : ℕ) → Pending → Turn
words_from files functions command in_place status pending =
    words_by functions command in_place status pending (fields_in files pending)

unfoldable pub words_turn : FileMap → Environment → List Named → Command → (in_place : Bool) → (status : ℕ) → Option Pending → Turn
words_turn files env functions command in_place status pending =
    words_from files functions command in_place status (start_of env (wanted_of (items_of command)) pending)

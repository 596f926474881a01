-- A case (XCU 2.9.4.3): its word is expanded in one turn, and then each pattern in a turn of its own, until one matches.
use Rattle.std.specs.Prelude.{ℕ, List, [], ◌∷◌, map, Option, Some, None, if◌then◌else◌}
use Rattle.std.specs.List.{flat_map}
use Rattle.sh_exec_parts.specs.Messages.{fault_text}
use Rattle.sh_exec_parts.specs.Simple.{Opened}
use Rattle.sh_exec_command.specs.Assigning.{text_of}
use Rattle.sh_exec_command.specs.Expanding.{Turn, start_of}
use Rattle.sh_exec_actions.specs.Preparing.{fatal}
use Rattle.sh_exec_actions.specs.Statuses.{unexcused}
use Rattle.sh_exec_actions.specs.declared.action.Active.{Active}
use Rattle.sh_exec_actions.specs.declared.action.Active.TheVariants.{Next, Done}
use Rattle.sh_exec_actions.specs.declared.action.Action.TheVariants.{Expanding}
use Rattle.sh_exec_actions.specs.declared.action.Case.{Case}
use Rattle.sh_exec_actions.specs.declared.action.CaseBranch.{CaseBranch}
use Rattle.sh_exec_actions.specs.declared.action.Expanded.TheVariants.{Need, Go}
use Rattle.sh_exec_actions.specs.declared.action.Move.{Move}
use Rattle.sh_exec_actions.specs.declared.action.Move.TheVariants.{At, Enter}
use Rattle.sh_exec_actions.specs.declared.action.ToExpand.TheVariants.{CaseWord, CasePattern}
use Rattle.sh_exec_command.specs.declared.cases.Header.{Header}
use Rattle.sh_expand.specs.Answers.{Fails, Needs, Pattern, Patterned, Pending, fields_in, pattern_from}
use Rattle.sh_expand.specs.Expanding as expanding
use Rattle.sh_expand.specs.declared.wanted.Wanted.{Wanted}
use Rattle.sh_expand_parts.specs.declared.context.Context.TheVariants.{Single}
use Rattle.sh_files.specs.Nodes.{FileMap}
use Rattle.sh_pattern.specs.Deciding.{is_match}
use Rattle.sh_pattern.specs.declared.pattern_byte.PatternByte.{PatternByte}
use Rattle.sh_syntax.specs.declared.tree.CaseItem.{CaseItem}
use Rattle.sh_syntax.specs.declared.tree.Command.{Command}
use Rattle.sh_syntax.specs.declared.tree.Command.TheOpen as layer
use Rattle.sh_syntax.specs.declared.tree.Command.TheViews as view
use Rattle.sh_syntax.specs.declared.tree.CompoundList.{CompoundList}
use Rattle.sh_syntax.specs.declared.tree.Parts.{Parts}
use Rattle.sh_syntax.specs.declared.tree.Word.{Word}
use Rattle.sh_vars.specs.Environment.{Environment}

-- ---- a case in its tree; a command of another form has no header
-- an item's list is run where one of its patterns matches
abbrev pub branch_of : CompoundList → Word → CaseBranch
branch_of body pattern = record { pattern = (view.out-Word pattern).parts; body = body }

abbrev pub item_branches : CaseItem → List CaseBranch
item_branches item = let i = view.out-CaseItem item in map (branch_of i.body) (i.pattern ∷ i.more_patterns)

abbrev pub branches_of : List CaseItem → List CaseBranch
branches_of items = flat_map item_branches items

abbrev pub case_header : Word → List CaseItem → Header
case_header word items = record { word = (view.out-Word word).parts; branches = branches_of items }

abbrev pub header_in : Opened layer.CompoundForm-F → Option Header
header_in (layer.Group list) = None
header_in (layer.Subshell list) = None
header_in (layer.If condition body else_ifs else_body) = None
header_in (layer.Loop kind condition body) = None
header_in (layer.For name words body) = None
header_in (layer.ForParameters name is_separated body) = None
header_in (layer.Case word items) = Some (case_header word items)

abbrev pub header_of_command : Opened layer.Command-F → Option Header
header_of_command (layer.Simple items) = None
header_of_command (layer.Compound compound) = header_in (view.out-CompoundForm (view.out-Compound compound).form)
header_of_command (layer.Function name body) = None

unfoldable pub header_of : Command → Option Header
header_of command = header_of_command (view.out-Command command)

-- a word that gives one text
abbrev pub single : Parts → Wanted
single parts = record { parts = parts; context = Single }

-- ---- the next pattern is tried; where none is left nothing is run, and the status is 0
abbrev pub next_branch : List ℕ → List CaseBranch → Active
next_branch word [] = Done (unexcused 0)
next_branch word (branch ∷ branches) = Next (Expanding (CasePattern (record { word = word; branches = branch ∷ branches })) None)

-- ---- the turn of the word
abbrev pub word_by : Command → Pending → List CaseBranch → expanding.Result → Turn
word_by command pending branches (expanding.Need program env) = record { environment = env; outcome = Need program (CaseWord command) pending }
word_by command pending branches (expanding.Fields fields env) = record { environment = env; outcome = Go (At (next_branch (text_of fields) branches)) }
word_by command pending branches (expanding.Stops fault env) = record { environment = env; outcome = Go (At (fatal (fault_text fault))) }

abbrev pub word_from : FileMap → Command → List CaseBranch → Pending → Turn
word_from files command branches pending = word_by command pending branches (fields_in files pending)

abbrev pub header_turn : FileMap → Environment → Command → Option Pending → Option Header → Turn
header_turn files env command pending None = record { environment = env; outcome = Go (At (Done (unexcused 0))) }
header_turn files env command pending (Some header) = word_from files command header.branches (start_of env (single header.word ∷ []) pending)

unfoldable pub case_turn : FileMap → Environment → Command → Option Pending → Turn
case_turn files env command pending = header_turn files env command pending (header_of command)

-- ---- the turn of a pattern: where it matches its list is entered (2.14.1)
abbrev pub tried : List ℕ → CaseBranch → List CaseBranch → List PatternByte → Move
tried word branch branches pattern = if is_match pattern word then Enter branch.body else At (next_branch word branches)

abbrev pub pattern_by : List ℕ → CaseBranch → List CaseBranch → Pending → Patterned → Turn
pattern_by word branch branches pending (Needs program env) =
    record { environment = env; outcome = Need program (CasePattern (record { word = word; branches = branch ∷ branches })) pending }
pattern_by word branch branches pending (Pattern pattern env) = record { environment = env; outcome = Go (tried word branch branches pattern) }
pattern_by word branch branches pending (Fails fault env) = record { environment = env; outcome = Go (At (fatal (fault_text fault))) }

abbrev pub branch_from : List ℕ → CaseBranch → List CaseBranch → Pending → Turn
branch_from word branch branches pending = pattern_by word branch branches pending (pattern_from pending)

abbrev pub branch_turn : Environment → List ℕ → Option Pending → List CaseBranch → Turn
branch_turn env word pending [] = record { environment = env; outcome = Go (At (Done (unexcused 0))) }
branch_turn env word pending (branch ∷ branches) = branch_from word branch branches (start_of env (single branch.pattern ∷ []) pending)

unfoldable pub pattern_turn : Environment → Case → Option Pending → Turn
pattern_turn env case pending = branch_turn env case.word pending case.branches

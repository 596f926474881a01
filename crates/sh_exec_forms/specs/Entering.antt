-- Commands are entered (2.9): the forms that begin with them, inward to the first place. All this is part of the turn before.
use Rattle.std.specs.Prelude.{List, [], ◌∷◌, map, Bool, true, false, None, option_map}
use Rattle.sh_exec_actions.specs.Preparing.{first_place}
use Rattle.sh_exec_actions.specs.Statuses.{unexcused}
use Rattle.sh_exec_actions.specs.declared.action.Active.TheVariants.{Next, Done}
use Rattle.sh_exec_actions.specs.declared.action.Action.{Action}
use Rattle.sh_exec_actions.specs.declared.action.Action.TheVariants.{Defining, Expanding, ForkList, ForkStage}
use Rattle.sh_exec_actions.specs.declared.action.Launch.{Launch}
use Rattle.sh_exec_actions.specs.declared.action.Launch.TheVariants.{Foreground, Background}
use Rattle.sh_exec_actions.specs.declared.action.ToExpand.TheVariants.{CaseWord, ForWords, Redirects}
use Rattle.sh_exec_actions.specs.declared.status.CommandStatus.{CommandStatus}
use Rattle.sh_exec_forms.specs.Running.{Run, At, In}
use Rattle.sh_exec_parts.specs.Pipelines.{commands_of, is_negated}
use Rattle.sh_exec_parts.specs.Simple.{Opened}
use Rattle.sh_exec_actions.specs.declared.form.Form.TheVariants.{Commands, Condition, If, Joined, Negated}
use Rattle.sh_syntax.specs.declared.tree.AndOr.{AndOr}
use Rattle.sh_syntax.specs.declared.tree.CaseItem.{CaseItem}
use Rattle.sh_syntax.specs.declared.tree.Command.{Command}
use Rattle.sh_syntax.specs.declared.tree.Command.TheFolds as folds
use Rattle.sh_syntax.specs.declared.tree.Command.TheOpen as layer
use Rattle.sh_syntax.specs.declared.tree.Command.TheViews as view
use Rattle.sh_syntax.specs.declared.tree.CompoundList.{CompoundList}
use Rattle.sh_syntax.specs.declared.tree.Compound.{Compound}
use Rattle.sh_syntax.specs.declared.tree.CompoundForm.{CompoundForm}
use Rattle.sh_syntax.specs.declared.tree.Connected.{Connected}
use Rattle.sh_syntax.specs.declared.tree.ElseIf.{ElseIf}
use Rattle.sh_syntax.specs.declared.tree.ListItem.{ListItem}
use Rattle.sh_syntax.specs.declared.tree.Part.{Part}
use Rattle.sh_syntax.specs.declared.tree.Parts.{Parts}
use Rattle.sh_syntax.specs.declared.tree.Pipeline.{Pipeline}
use Rattle.sh_syntax.specs.declared.tree.Redirect.{Redirect}
use Rattle.sh_syntax.specs.declared.tree.Separator.{Separator}
use Rattle.sh_syntax.specs.declared.tree.Separator.TheVariants.{Sequential, Asynchronous}
use Rattle.sh_syntax.specs.declared.tree.SimpleItem.{SimpleItem}
use Rattle.sh_syntax.specs.declared.tree.Target.{Target}
use Rattle.sh_syntax.specs.declared.tree.Word.{Word}

-- how a command is entered; the command itself is given then. The same for the forms that it is made of
abbrev pub Entry : Type 0
Entry = Command → Run

-- one form of the syntax, each of its parts beside how it is entered; pipelines and what is made of them are entered in this way, and
-- parts of words, redirections and their like in none
abbrev pub Layer : Type 0 → (Type 0 → Type 0 → Type 0 → Type 0 → Type 0 → Type 0 → Type 0 → Type 0
    → Type 0 → Type 0 → Type 0 → Type 0 → Type 0 → Type 0 → Type 0 → Type 0 → Type 0) → Type 0
Layer Way F = F (Command × Entry) (CompoundForm × Entry) (Part × Unit {0}) (SimpleItem × Unit {0}) (Target × Unit {0}) (AndOr × Way)
    (CaseItem × Unit {0}) (Compound × Entry) (CompoundList × Run) (Connected × Unit {0}) (ElseIf × Unit {0}) (ListItem × Way) (Parts × Unit {0})
    (Pipeline × Way) (Redirect × Unit {0}) (Word × Unit {0})

abbrev pub no_entry : {A : Type 0} → A → Unit {0}
no_entry form = tt

-- parts by themselves again
abbrev pub tree : {A B : Type 0} → A × B → A
tree part = part.0

abbrev pub trees : {A B : Type 0} → List (A × B) → List A
trees parts = map tree parts

-- processes are made for these commands, one after another (2.9.2); the shell waits for them then, or goes on at once
abbrev pub staging : Launch → List Command → Action
staging launch commands = ForkStage (record { commands = commands; aside = None; children = []; launch = launch })

-- ---- compound commands (2.9.4): a subshell is a pipeline of one process
abbrev pub form_step : Layer Run layer.CompoundForm-F → Entry
form_step (layer.Group list) command = list.1
form_step (layer.Subshell list) command = At (Next (staging (Foreground None) (command ∷ [])))
form_step (layer.If condition body else_ifs else_body) command =
    In (If (record { body = body.0; else_ifs = trees else_ifs; else_body = option_map tree else_body })) condition.1
form_step (layer.Loop kind condition body) command =
    In (Condition (record { kind = kind; condition = condition.0; body = body.0 }) (unexcused 0)) condition.1
form_step (layer.For name words body) command = At (Next (Expanding (ForWords command) None))
form_step (layer.ForParameters name is_separated body) command = At (Next (Expanding (ForWords command) None))
form_step (layer.Case word items) command = At (Next (Expanding (CaseWord command) None))

-- a compound command with redirections: their words are expanded first
abbrev pub redirected : {A : Type 0} → List A → Run → Command → Run
redirected [] run command = run
redirected (redirect ∷ redirects) run command = At (Next (Expanding (Redirects command) None))

-- those of a subshell are of no account until it has its process
abbrev pub is_subshell : Opened layer.CompoundForm-F → Bool
is_subshell (layer.Subshell list) = true
is_subshell _ = false

abbrev pub unless_subshell : {A : Type 0} → Bool → List A → Run → Command → Run
unless_subshell true redirects run command = run
unless_subshell false redirects run command = redirected redirects run command

abbrev pub compound_step : Layer Run layer.Compound-F → Entry
compound_step compound command =
    unless_subshell (is_subshell (view.out-CompoundForm compound.form.0)) compound.redirects (compound.form.1 command) command

-- a function definition is an action (2.9.5)
abbrev pub command_step : Layer Run layer.Command-F → Entry
command_step (layer.Simple items) command = At (Next (first_place false command))
command_step (layer.Compound compound) command = compound.1 command
command_step (layer.Function name body) command = At (Next (Defining command))

-- ---- pipelines (2.9.2): a command alone runs in the shell, of several each in a process of its own
abbrev pub commands_step : Command × Entry → List (Command × Entry) → Run
commands_step command [] = command.1 command.0
commands_step command (next ∷ others) = At (Next (staging (Foreground None) (command.0 ∷ next.0 ∷ trees others)))

abbrev pub with_negation : Bool → Run → Run
with_negation false run = run
with_negation true run = In Negated run

abbrev pub pipeline_step : Layer Run layer.Pipeline-F → Run
pipeline_step pipeline = with_negation pipeline.is_negated (commands_step pipeline.first pipeline.rest)

-- ---- AND-OR lists (2.9.3)
abbrev pub with_others : List Connected → Run → Run
with_others [] run = run
with_others (next ∷ others) run = In (Joined (next ∷ others)) run

abbrev pub and_or_step : Layer Run layer.AndOr-F → Run
and_or_step list = with_others (trees list.rest) list.first.1

-- an asynchronous list (2.9.3.1): each command of a pipeline has a process of its own, as when the shell waits for it; any other list has
-- one process, and so has a pipeline with `!`
abbrev pub background_of : (is_negated : Bool) → List Connected → AndOr → Action
background_of true others list = ForkList list
background_of false [] list = staging (Background list) (commands_of (view.out-AndOr list).first)
background_of false (next ∷ others) list = ForkList list

abbrev pub in_background : AndOr → Action
in_background list = background_of (is_negated (view.out-AndOr list).first) (view.out-AndOr list).rest list

abbrev pub separated : Separator → AndOr → Run → Run
separated Sequential list run = run
separated Asynchronous list run = At (Next (in_background list))

abbrev pub list_item_step : Layer Run layer.ListItem-F → Run
list_item_step item = separated item.separator item.list.0 item.list.1

-- ---- AND-OR lists one after another (2.9.3), entered after a command that ended so
abbrev pub items_step : List (ListItem × Run) → CommandStatus → Run
items_step [] status = At (Done status)
items_step (item ∷ items) status = In (Commands (trees items)) item.1

abbrev pub compound_list_step : Layer Run layer.CompoundList-F → Run
compound_list_step list = items_step list.items (unexcused 0)

-- ---- each form of the syntax, from the innermost outward
unfoldable pub list_run : CompoundList → Run
list_run = folds.para-CompoundList Entry Entry (Unit {0}) (Unit {0}) (Unit {0}) Run (Unit {0}) Entry Run (Unit {0}) (Unit {0}) Run (Unit {0}) Run (Unit {0}) (Unit {0})
    command_step form_step no_entry no_entry no_entry and_or_step no_entry compound_step compound_list_step no_entry no_entry list_item_step no_entry pipeline_step no_entry no_entry

unfoldable pub item_run : ListItem → Run
item_run = folds.para-ListItem Entry Entry (Unit {0}) (Unit {0}) (Unit {0}) Run (Unit {0}) Entry Run (Unit {0}) (Unit {0}) Run (Unit {0}) Run (Unit {0}) (Unit {0})
    command_step form_step no_entry no_entry no_entry and_or_step no_entry compound_step compound_list_step no_entry no_entry list_item_step no_entry pipeline_step no_entry no_entry

unfoldable pub and_or_run : AndOr → Run
and_or_run = folds.para-AndOr Entry Entry (Unit {0}) (Unit {0}) (Unit {0}) Run (Unit {0}) Entry Run (Unit {0}) (Unit {0}) Run (Unit {0}) Run (Unit {0}) (Unit {0})
    command_step form_step no_entry no_entry no_entry and_or_step no_entry compound_step compound_list_step no_entry no_entry list_item_step no_entry pipeline_step no_entry no_entry

unfoldable pub pipeline_run : Pipeline → Run
pipeline_run = folds.para-Pipeline Entry Entry (Unit {0}) (Unit {0}) (Unit {0}) Run (Unit {0}) Entry Run (Unit {0}) (Unit {0}) Run (Unit {0}) Run (Unit {0}) (Unit {0})
    command_step form_step no_entry no_entry no_entry and_or_step no_entry compound_step compound_list_step no_entry no_entry list_item_step no_entry pipeline_step no_entry no_entry

unfoldable pub command_entry : Command → Entry
command_entry = folds.para-Command Entry Entry (Unit {0}) (Unit {0}) (Unit {0}) Run (Unit {0}) Entry Run (Unit {0}) (Unit {0}) Run (Unit {0}) Run (Unit {0}) (Unit {0})
    command_step form_step no_entry no_entry no_entry and_or_step no_entry compound_step compound_list_step no_entry no_entry list_item_step no_entry pipeline_step no_entry no_entry

unfoldable pub compound_entry : Compound → Entry
compound_entry = folds.para-Compound Entry Entry (Unit {0}) (Unit {0}) (Unit {0}) Run (Unit {0}) Entry Run (Unit {0}) (Unit {0}) Run (Unit {0}) Run (Unit {0}) (Unit {0})
    command_step form_step no_entry no_entry no_entry and_or_step no_entry compound_step compound_list_step no_entry no_entry list_item_step no_entry pipeline_step no_entry no_entry

unfoldable pub form_entry : CompoundForm → Entry
form_entry = folds.para-CompoundForm Entry Entry (Unit {0}) (Unit {0}) (Unit {0}) Run (Unit {0}) Entry Run (Unit {0}) (Unit {0}) Run (Unit {0}) Run (Unit {0}) (Unit {0})
    command_step form_step no_entry no_entry no_entry and_or_step no_entry compound_step compound_list_step no_entry no_entry list_item_step no_entry pipeline_step no_entry no_entry

abbrev pub command_run : Command → Run
command_run command = command_entry command command

-- the commands of a pipeline, without its `!`
abbrev pub to_enter : Command → Command × Entry
to_enter command = (command, command_entry command)

abbrev pub commands_run : Pipeline → Run
commands_run pipeline = commands_step (to_enter (view.out-Pipeline pipeline).first) (map to_enter (view.out-Pipeline pipeline).rest)

abbrev pub beside : ListItem → ListItem × Run
beside item = (item, item_run item)

abbrev pub items_run : List ListItem → CommandStatus → Run
items_run items status = items_step (map beside items) status

-- ---- a compound command whose redirections are done
abbrev pub form_of_command : Opened layer.Command-F → Entry
form_of_command (layer.Simple items) command = At (Done (unexcused 0))
form_of_command (layer.Compound compound) command = form_entry (view.out-Compound compound).form command
form_of_command (layer.Function name body) command = At (Done (unexcused 0))

unfoldable pub form_run : Command → Run
form_run command = form_of_command (view.out-Command command) command

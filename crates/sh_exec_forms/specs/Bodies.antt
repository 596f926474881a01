-- Commands for which a process is made (2.13): where a simple command or a subshell is all that it runs, no
-- other process is made for that; a substitution without commands ends at once, with 0.
use Rattle.std.specs.Prelude.{List, [], ◌∷◌, Bool, true, false, Option, Some, None}
use Rattle.sh_exec_actions.specs.Preparing.{first_place}
use Rattle.sh_exec_actions.specs.Statuses.{unexcused}
use Rattle.sh_exec_actions.specs.declared.action.Active.TheVariants.{Next}
use Rattle.sh_exec_actions.specs.declared.action.Action.TheVariants.{Ending}
use Rattle.sh_exec_forms.specs.Entering.{Entry, Layer, command_run, items_run, redirected, trees, no_entry}
use Rattle.sh_exec_forms.specs.Running.{Run, At}
use Rattle.sh_syntax.specs.declared.tree.AndOr.{AndOr}
use Rattle.sh_syntax.specs.declared.tree.Command.{Command}
use Rattle.sh_syntax.specs.declared.tree.Command.TheFolds as folds
use Rattle.sh_syntax.specs.declared.tree.Command.TheOpen as layer
use Rattle.sh_syntax.specs.declared.tree.CompoundList.{CompoundList}
use Rattle.sh_syntax.specs.declared.tree.Compound.{Compound}
use Rattle.sh_syntax.specs.declared.tree.CompoundForm.{CompoundForm}
use Rattle.sh_syntax.specs.declared.tree.ListItem.{ListItem}
use Rattle.sh_syntax.specs.declared.tree.Pipeline.{Pipeline}
use Rattle.sh_syntax.specs.declared.tree.Separator.{Separator}
use Rattle.sh_syntax.specs.declared.tree.Separator.TheVariants.{Sequential, Asynchronous}

-- ---- a command that is all that a process runs
abbrev pub own_form_step : Layer (Option Run) layer.CompoundForm-F → Entry
own_form_step (layer.Group list) command = command_run command
own_form_step (layer.Subshell list) command = list.1
own_form_step (layer.If condition body else_ifs else_body) command = command_run command
own_form_step (layer.Loop kind condition body) command = command_run command
own_form_step (layer.For name words body) command = command_run command
own_form_step (layer.ForParameters name is_separated body) command = command_run command
own_form_step (layer.Case word items) command = command_run command

-- the words of its redirections are expanded in that process
abbrev pub own_compound_step : Layer (Option Run) layer.Compound-F → Entry
own_compound_step compound command = redirected compound.redirects (compound.form.1 command) command

abbrev pub own_command_step : Layer (Option Run) layer.Command-F → Entry
own_command_step (layer.Simple items) command = At (Next (first_place true command))
own_command_step (layer.Compound compound) command = compound.1 command
own_command_step (layer.Function name body) command = command_run command

-- ---- a pipeline that is a single command without `!`, and an AND-OR list that is one
abbrev pub sole_command : (is_negated : Bool) → Command × Entry → List (Command × Entry) → Option Run
sole_command true command others = None
sole_command false command [] = Some (command.1 command.0)
sole_command false command (next ∷ others) = None

abbrev pub sole_pipeline_step : Layer (Option Run) layer.Pipeline-F → Option Run
sole_pipeline_step pipeline = sole_command pipeline.is_negated pipeline.first pipeline.rest

abbrev pub sole_run : {A : Type 0} → Option Run → List A → Option Run
sole_run run [] = run
sole_run run (next ∷ others) = None

abbrev pub sole_and_or_step : Layer (Option Run) layer.AndOr-F → Option Run
sole_and_or_step list = sole_run list.first.1 list.rest

-- an asynchronous list has a process of its own in any case
abbrev pub sole_by : Separator → Option Run → Option Run
sole_by Sequential run = run
sole_by Asynchronous run = None

abbrev pub sole_item_step : Layer (Option Run) layer.ListItem-F → Option Run
sole_item_step item = sole_by item.separator item.list.1

-- ---- a list that is all that a process runs
abbrev pub sole_or_entered : ListItem → Option Run → Run
sole_or_entered item None = items_run (item ∷ []) (unexcused 0)
sole_or_entered item (Some run) = run

abbrev pub body_items : List (ListItem × Option Run) → Run
body_items [] = At (Next (Ending 0))
body_items (item ∷ []) = sole_or_entered item.0 item.1
body_items (item ∷ next ∷ items) = items_run (item.0 ∷ next.0 ∷ trees items) (unexcused 0)

abbrev pub body_step : Layer (Option Run) layer.CompoundList-F → Run
body_step list = body_items list.items

-- ---- each form of the syntax, from the innermost outward
unfoldable pub body_of : CompoundList → Run
body_of = folds.para-CompoundList Entry Entry (Unit {0}) (Unit {0}) (Unit {0}) (Option Run) (Unit {0}) Entry Run (Unit {0}) (Unit {0}) (Option Run) (Unit {0}) (Option Run) (Unit {0}) (Unit {0})
    own_command_step own_form_step no_entry no_entry no_entry sole_and_or_step no_entry own_compound_step body_step no_entry no_entry sole_item_step no_entry sole_pipeline_step no_entry no_entry

unfoldable pub sole_item : ListItem → Option Run
sole_item = folds.para-ListItem Entry Entry (Unit {0}) (Unit {0}) (Unit {0}) (Option Run) (Unit {0}) Entry Run (Unit {0}) (Unit {0}) (Option Run) (Unit {0}) (Option Run) (Unit {0}) (Unit {0})
    own_command_step own_form_step no_entry no_entry no_entry sole_and_or_step no_entry own_compound_step body_step no_entry no_entry sole_item_step no_entry sole_pipeline_step no_entry no_entry

unfoldable pub sole_and_or : AndOr → Option Run
sole_and_or = folds.para-AndOr Entry Entry (Unit {0}) (Unit {0}) (Unit {0}) (Option Run) (Unit {0}) Entry Run (Unit {0}) (Unit {0}) (Option Run) (Unit {0}) (Option Run) (Unit {0}) (Unit {0})
    own_command_step own_form_step no_entry no_entry no_entry sole_and_or_step no_entry own_compound_step body_step no_entry no_entry sole_item_step no_entry sole_pipeline_step no_entry no_entry

unfoldable pub sole_pipeline : Pipeline → Option Run
sole_pipeline = folds.para-Pipeline Entry Entry (Unit {0}) (Unit {0}) (Unit {0}) (Option Run) (Unit {0}) Entry Run (Unit {0}) (Unit {0}) (Option Run) (Unit {0}) (Option Run) (Unit {0}) (Unit {0})
    own_command_step own_form_step no_entry no_entry no_entry sole_and_or_step no_entry own_compound_step body_step no_entry no_entry sole_item_step no_entry sole_pipeline_step no_entry no_entry

unfoldable pub own_entry : Command → Entry
own_entry = folds.para-Command Entry Entry (Unit {0}) (Unit {0}) (Unit {0}) (Option Run) (Unit {0}) Entry Run (Unit {0}) (Unit {0}) (Option Run) (Unit {0}) (Option Run) (Unit {0}) (Unit {0})
    own_command_step own_form_step no_entry no_entry no_entry sole_and_or_step no_entry own_compound_step body_step no_entry no_entry sole_item_step no_entry sole_pipeline_step no_entry no_entry

unfoldable pub own_compound : Compound → Entry
own_compound = folds.para-Compound Entry Entry (Unit {0}) (Unit {0}) (Unit {0}) (Option Run) (Unit {0}) Entry Run (Unit {0}) (Unit {0}) (Option Run) (Unit {0}) (Option Run) (Unit {0}) (Unit {0})
    own_command_step own_form_step no_entry no_entry no_entry sole_and_or_step no_entry own_compound_step body_step no_entry no_entry sole_item_step no_entry sole_pipeline_step no_entry no_entry

unfoldable pub own_form : CompoundForm → Entry
own_form = folds.para-CompoundForm Entry Entry (Unit {0}) (Unit {0}) (Unit {0}) (Option Run) (Unit {0}) Entry Run (Unit {0}) (Unit {0}) (Option Run) (Unit {0}) (Option Run) (Unit {0}) (Unit {0})
    own_command_step own_form_step no_entry no_entry no_entry sole_and_or_step no_entry own_compound_step body_step no_entry no_entry sole_item_step no_entry sole_pipeline_step no_entry no_entry

-- a stage of a pipeline, or a subshell
unfoldable pub stage_run : Command → Run
stage_run command = own_entry command command

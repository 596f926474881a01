-- The tokens of a whole tree: the steps of its forms, from the innermost outward.
use Rattle.sh_syntax.specs.Forms.{Tokens, and_or_step, case_item_step, command_step, compound_list_step, compound_step, connected_step, else_if_step, form_step, item_step, list_item_step, part_step, parts_step, pipeline_step, redirect_step, target_step, word_step}
use Rattle.sh_syntax.specs.declared.tree.AndOr.{AndOr}
use Rattle.sh_syntax.specs.declared.tree.CaseItem.{CaseItem}
use Rattle.sh_syntax.specs.declared.tree.Command.{Command}
use Rattle.sh_syntax.specs.declared.tree.CompoundList.{CompoundList}
use Rattle.sh_syntax.specs.declared.tree.Compound.{Compound}
use Rattle.sh_syntax.specs.declared.tree.CompoundForm.{CompoundForm}
use Rattle.sh_syntax.specs.declared.tree.Connected.{Connected}
use Rattle.sh_syntax.specs.declared.tree.ElseIf.{ElseIf}
use Rattle.sh_syntax.specs.declared.tree.ListItem.{ListItem}
use Rattle.sh_syntax.specs.declared.tree.Pipeline.{Pipeline}
use Rattle.sh_syntax.specs.declared.tree.Redirect.{Redirect}
use Rattle.sh_syntax.specs.declared.tree.SimpleItem.{SimpleItem}
use Rattle.sh_syntax.specs.declared.tree.Target.{Target}
use Rattle.sh_syntax.specs.declared.tree.Word.{Word}
use Rattle.sh_syntax.specs.declared.tree.Command.TheFolds as folds

unfoldable pub and_or_tokens : AndOr → Tokens
and_or_tokens = folds.fold-AndOr Tokens Tokens Tokens Tokens Tokens Tokens Tokens Tokens Tokens Tokens Tokens Tokens Tokens Tokens Tokens Tokens
    command_step form_step part_step item_step target_step and_or_step case_item_step compound_step compound_list_step connected_step else_if_step list_item_step parts_step pipeline_step redirect_step word_step

unfoldable pub case_item_tokens : CaseItem → Tokens
case_item_tokens = folds.fold-CaseItem Tokens Tokens Tokens Tokens Tokens Tokens Tokens Tokens Tokens Tokens Tokens Tokens Tokens Tokens Tokens Tokens
    command_step form_step part_step item_step target_step and_or_step case_item_step compound_step compound_list_step connected_step else_if_step list_item_step parts_step pipeline_step redirect_step word_step

unfoldable pub command_tokens : Command → Tokens
command_tokens = folds.fold-Command Tokens Tokens Tokens Tokens Tokens Tokens Tokens Tokens Tokens Tokens Tokens Tokens Tokens Tokens Tokens Tokens
    command_step form_step part_step item_step target_step and_or_step case_item_step compound_step compound_list_step connected_step else_if_step list_item_step parts_step pipeline_step redirect_step word_step

unfoldable pub compound_list_tokens : CompoundList → Tokens
compound_list_tokens = folds.fold-CompoundList Tokens Tokens Tokens Tokens Tokens Tokens Tokens Tokens Tokens Tokens Tokens Tokens Tokens Tokens Tokens Tokens
    command_step form_step part_step item_step target_step and_or_step case_item_step compound_step compound_list_step connected_step else_if_step list_item_step parts_step pipeline_step redirect_step word_step

unfoldable pub compound_tokens : Compound → Tokens
compound_tokens = folds.fold-Compound Tokens Tokens Tokens Tokens Tokens Tokens Tokens Tokens Tokens Tokens Tokens Tokens Tokens Tokens Tokens Tokens
    command_step form_step part_step item_step target_step and_or_step case_item_step compound_step compound_list_step connected_step else_if_step list_item_step parts_step pipeline_step redirect_step word_step

unfoldable pub form_tokens : CompoundForm → Tokens
form_tokens = folds.fold-CompoundForm Tokens Tokens Tokens Tokens Tokens Tokens Tokens Tokens Tokens Tokens Tokens Tokens Tokens Tokens Tokens Tokens
    command_step form_step part_step item_step target_step and_or_step case_item_step compound_step compound_list_step connected_step else_if_step list_item_step parts_step pipeline_step redirect_step word_step

unfoldable pub connected_tokens : Connected → Tokens
connected_tokens = folds.fold-Connected Tokens Tokens Tokens Tokens Tokens Tokens Tokens Tokens Tokens Tokens Tokens Tokens Tokens Tokens Tokens Tokens
    command_step form_step part_step item_step target_step and_or_step case_item_step compound_step compound_list_step connected_step else_if_step list_item_step parts_step pipeline_step redirect_step word_step

unfoldable pub else_if_tokens : ElseIf → Tokens
else_if_tokens = folds.fold-ElseIf Tokens Tokens Tokens Tokens Tokens Tokens Tokens Tokens Tokens Tokens Tokens Tokens Tokens Tokens Tokens Tokens
    command_step form_step part_step item_step target_step and_or_step case_item_step compound_step compound_list_step connected_step else_if_step list_item_step parts_step pipeline_step redirect_step word_step

unfoldable pub list_item_tokens : ListItem → Tokens
list_item_tokens = folds.fold-ListItem Tokens Tokens Tokens Tokens Tokens Tokens Tokens Tokens Tokens Tokens Tokens Tokens Tokens Tokens Tokens Tokens
    command_step form_step part_step item_step target_step and_or_step case_item_step compound_step compound_list_step connected_step else_if_step list_item_step parts_step pipeline_step redirect_step word_step

unfoldable pub pipeline_tokens : Pipeline → Tokens
pipeline_tokens = folds.fold-Pipeline Tokens Tokens Tokens Tokens Tokens Tokens Tokens Tokens Tokens Tokens Tokens Tokens Tokens Tokens Tokens Tokens
    command_step form_step part_step item_step target_step and_or_step case_item_step compound_step compound_list_step connected_step else_if_step list_item_step parts_step pipeline_step redirect_step word_step

unfoldable pub redirect_tokens : Redirect → Tokens
redirect_tokens = folds.fold-Redirect Tokens Tokens Tokens Tokens Tokens Tokens Tokens Tokens Tokens Tokens Tokens Tokens Tokens Tokens Tokens Tokens
    command_step form_step part_step item_step target_step and_or_step case_item_step compound_step compound_list_step connected_step else_if_step list_item_step parts_step pipeline_step redirect_step word_step

unfoldable pub item_tokens : SimpleItem → Tokens
item_tokens = folds.fold-SimpleItem Tokens Tokens Tokens Tokens Tokens Tokens Tokens Tokens Tokens Tokens Tokens Tokens Tokens Tokens Tokens Tokens
    command_step form_step part_step item_step target_step and_or_step case_item_step compound_step compound_list_step connected_step else_if_step list_item_step parts_step pipeline_step redirect_step word_step

unfoldable pub target_tokens : Target → Tokens
target_tokens = folds.fold-Target Tokens Tokens Tokens Tokens Tokens Tokens Tokens Tokens Tokens Tokens Tokens Tokens Tokens Tokens Tokens Tokens
    command_step form_step part_step item_step target_step and_or_step case_item_step compound_step compound_list_step connected_step else_if_step list_item_step parts_step pipeline_step redirect_step word_step

unfoldable pub word_tokens : Word → Tokens
word_tokens = folds.fold-Word Tokens Tokens Tokens Tokens Tokens Tokens Tokens Tokens Tokens Tokens Tokens Tokens Tokens Tokens Tokens Tokens
    command_step form_step part_step item_step target_step and_or_step case_item_step compound_step compound_list_step connected_step else_if_step list_item_step parts_step pipeline_step redirect_step word_step

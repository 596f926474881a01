use Rattle.std.proofs.Common.{arith}
use Rattle.std.proofs.lemmas.Grind.{common_steps}
use Rattle.sh_syntax.proofs.Equations.{compound_list_is, and_or_is, list_item_is, connected_is, pipeline_is, else_if_is, case_item_is, compound_is, simple_is, command-compound_is, function_is, group_is, subshell_is, if_is, if-else_is, loop_is, for_is, for-parameters_is, case_is}
use Rattle.sh_syntax.proofs.Spaces.{spaced-append}
use Rattle.sh_syntax.proofs.text.+text.Goals as goal

pub put_compound_list-returns : goal.put_compound_list-returns
put_compound_list-returns t c = grind (arith, common_steps, compound_list_is c.args.list.now, spaced-append)

pub put_and_or-returns : goal.put_and_or-returns
put_and_or-returns t c = grind (arith, common_steps, and_or_is c.args.list.now, spaced-append)

pub put_list_item-returns : goal.put_list_item-returns
put_list_item-returns t c = grind (arith, common_steps, list_item_is c.args.list_item.now, spaced-append)

pub put_connected-returns : goal.put_connected-returns
put_connected-returns t c = grind (arith, common_steps, connected_is c.args.connected.now, spaced-append)

pub put_pipeline-returns : goal.put_pipeline-returns
put_pipeline-returns t c = grind (arith, common_steps, pipeline_is c.args.pipeline.now, spaced-append)

pub put_else_if-returns : goal.put_else_if-returns
put_else_if-returns t c = grind (arith, common_steps, else_if_is c.args.else_if.now, spaced-append)

pub put_case_item-returns : goal.put_case_item-returns
put_case_item-returns t c = grind (arith, common_steps, case_item_is c.args.item.now, spaced-append)

pub put_compound-returns : goal.put_compound-returns
put_compound-returns t c = grind (arith, common_steps, compound_is c.args.compound.now, spaced-append)

pub put_command-returns-after-loop-item : goal.put_command-returns-after-loop-item
put_command-returns-after-loop-item t c =
    grind (arith, common_steps, simple_is c.in-Simple.items, spaced-append)

pub put_command-returns-in-Compound : goal.put_command-returns-in-Compound
put_command-returns-in-Compound t c =
    grind (arith, common_steps, command-compound_is c.in-Compound.compound, spaced-append)

pub put_command-returns-in_ok-put_token-in-Function-3 : goal.put_command-returns-in_ok-put_token-in-Function-3
put_command-returns-in_ok-put_token-in-Function-3 t c =
    grind (arith, common_steps, function_is c.in-Function.name c.in-Function.body, spaced-append)

pub put_form-returns-in-Group : goal.put_form-returns-in-Group
put_form-returns-in-Group t c =
    grind (arith, common_steps, group_is c.in-Group.list, spaced-append)

pub put_form-returns-in-Subshell : goal.put_form-returns-in-Subshell
put_form-returns-in-Subshell t c =
    grind (arith, common_steps, subshell_is c.in-Subshell.list, spaced-append)

pub put_form-returns-in-None : goal.put_form-returns-in-None
put_form-returns-in-None t c =
    grind (arith, common_steps, if_is c.in-If.condition c.in-If.body c.in-If.else_ifs, spaced-append)

pub put_form-returns-in-Some : goal.put_form-returns-in-Some
put_form-returns-in-Some t c =
    grind (arith, common_steps, if-else_is c.in-If.condition c.in-If.body c.in-If.else_ifs c.in-Some.list, spaced-append)

pub put_form-returns-in_ok-put_compound_list-in-Loop : goal.put_form-returns-in_ok-put_compound_list-in-Loop
put_form-returns-in_ok-put_compound_list-in-Loop t c =
    grind (arith, common_steps, loop_is c.in-Loop.kind c.in-Loop.condition c.in-Loop.body, spaced-append)

pub put_form-returns-in_ok-put_token-in-For-4 : goal.put_form-returns-in_ok-put_token-in-For-4
put_form-returns-in_ok-put_token-in-For-4 t c =
    grind (arith, common_steps, for_is c.in-For.name c.in-For.words c.in-For.body, spaced-append)

pub put_form-returns-in_ok-put_optional-in-ForParameters : goal.put_form-returns-in_ok-put_optional-in-ForParameters
put_form-returns-in_ok-put_optional-in-ForParameters t c =
    grind (arith, common_steps, for-parameters_is c.in-ForParameters.name c.in-ForParameters.is_separated c.in-ForParameters.body, spaced-append)

pub put_form-returns-after-loop-item : goal.put_form-returns-after-loop-item
put_form-returns-after-loop-item t c =
    grind (arith, common_steps, case_is c.in-Case.word c.in-Case.items, spaced-append)

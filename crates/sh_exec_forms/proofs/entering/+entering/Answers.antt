use Rattle.std.proofs.Common.{arith, refl, rules}
use Rattle.std.proofs.lemmas.Grind.{common_steps}
use Rattle.sh_exec_forms.proofs.Entered.{and_or_is, case_entered, compound_entered, compound_of_subshell, compound_plain, compound_redirected, for_entered, for_parameters_entered, function_entered, group_entered, if_entered, item_is, list_is, loop_entered, several, several_long, simple_entered, subshell_entered}
use Rattle.sh_exec_forms.proofs.Inside.{begun, list_inside, negated, step_inside, unnegated}
use Rattle.sh_exec_forms.proofs.entering.+entering.Goals as goal

pub enter_and_or-returns : goal.enter_and_or-returns
enter_and_or-returns t c = grind (arith, common_steps, and_or_is c.args.list.now)

pub enter_command-returns-in_ok-place-in-Simple : goal.enter_command-returns-in_ok-place-in-Simple
enter_command-returns-in_ok-place-in-Simple t c = search (rules, begun, simple_entered)

pub enter_command-returns-in-Compound : goal.enter_command-returns-in-Compound
enter_command-returns-in-Compound t c = grind (arith, common_steps, compound_entered c.in-Compound.compound c.args.command.now)

pub enter_command-returns-in_ok-definition-in-Function : goal.enter_command-returns-in_ok-definition-in-Function
enter_command-returns-in_ok-definition-in-Function t c = search (rules, begun, function_entered c.in-Function.name c.in-Function.body c.args.command.now)

pub enter_commands-returns-in-len1-up : goal.enter_commands-returns-in-len1-up
enter_commands-returns-in-len1-up t c = search (rules, begun, several_long c.args.pipeline.now, several c.args.pipeline.now)

pub enter_compound-returns-then-is_subshell : goal.enter_compound-returns-then-is_subshell
enter_compound-returns-then-is_subshell t c = grind (arith, common_steps, compound_of_subshell c.args.compound.now c.args.command.now)

pub enter_compound-returns-in-empty : goal.enter_compound-returns-in-empty
enter_compound-returns-in-empty t c = grind (arith, common_steps, compound_plain c.args.compound.now c.args.command.now)

pub enter_compound-returns-in_ok-redirected-in-len1-up : goal.enter_compound-returns-in_ok-redirected-in-len1-up
enter_compound-returns-in_ok-redirected-in-len1-up t c = search (rules, begun, compound_redirected c.args.compound.now c.args.command.now)

pub enter_form-returns-in-Group : goal.enter_form-returns-in-Group
enter_form-returns-in-Group t c = grind (arith, common_steps, group_entered c.in-Group.list c.args.command.now)

pub enter_form-returns-in_ok-subshell-in-Subshell : goal.enter_form-returns-in_ok-subshell-in-Subshell
enter_form-returns-in_ok-subshell-in-Subshell t c = search (rules, begun, subshell_entered c.in-Subshell.field-0 c.args.command.now)

pub enter_form-returns-in_ok-step-in-If : goal.enter_form-returns-in_ok-step-in-If
enter_form-returns-in_ok-step-in-If t c = search (rules, step_inside, if_entered)

pub enter_form-returns-in_ok-step-in-Loop : goal.enter_form-returns-in_ok-step-in-Loop
enter_form-returns-in_ok-step-in-Loop t c = search (rules, step_inside, loop_entered)

pub enter_form-returns-in_ok-series-in-For : goal.enter_form-returns-in_ok-series-in-For
enter_form-returns-in_ok-series-in-For t c = search (rules, begun, for_entered c.in-For.name c.in-For.words c.in-For.body c.args.command.now)

pub enter_form-returns-in_ok-series-in-ForParameters : goal.enter_form-returns-in_ok-series-in-ForParameters
enter_form-returns-in_ok-series-in-ForParameters t c = search (rules, begun, for_parameters_entered c.in-ForParameters.name c.in-ForParameters.is_separated c.in-ForParameters.body c.args.command.now)

pub enter_form-returns-in_ok-case-in-Case : goal.enter_form-returns-in_ok-case-in-Case
enter_form-returns-in_ok-case-in-Case t c = search (rules, begun, case_entered c.in-Case.word c.in-Case.items c.args.command.now)

pub enter_list-returns-in_default : goal.enter_list-returns-in_default
enter_list-returns-in_default t c = (refl, grind (arith, common_steps, list_is c.args.list.now))

pub enter_list-returns : goal.enter_list-returns
enter_list-returns t c = search (rules, list_inside c.args.list.now)

pub enter_pipeline-returns-then-is_negated : goal.enter_pipeline-returns-then-is_negated
enter_pipeline-returns-then-is_negated t c = search (rules, step_inside, negated c.args.pipeline.now)

pub enter_pipeline-returns : goal.enter_pipeline-returns
enter_pipeline-returns t c = grind (arith, common_steps, unnegated c.args.pipeline.now)

pub enter_item-returns-in-Sequential : goal.enter_item-returns-in-Sequential
enter_item-returns-in-Sequential t c = grind (arith, common_steps, item_is c.args.item.now)

pub enter_item-returns-in_ok-in_background-in-Asynchronous : goal.enter_item-returns-in_ok-in_background-in-Asynchronous
enter_item-returns-in_ok-in_background-in-Asynchronous t c = search (rules, begun, item_is c.args.item.now)

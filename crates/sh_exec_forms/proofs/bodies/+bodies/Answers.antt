use Rattle.std.proofs.Common.{arith}
use Rattle.std.proofs.lemmas.Grind.{common_steps}
use Rattle.sh_exec_forms.proofs.Alone.{and_or_is, case_alone, compound_command_alone, compound_plain, compound_redirected, for_alone, for_parameters_alone, function_alone, group_alone, if_alone, item_is, loop_alone, of_alone, of_long, of_negated, of_none, of_one, of_several, of_stages, simple_alone, stage_is, stages_long, subshell_alone, unjoined_none, unjoined_some}
use Rattle.sh_exec_forms.proofs.bodies.+bodies.Goals as goal

pub body_of-returns-in-empty : goal.body_of-returns-in-empty
body_of-returns-in-empty t c = grind (arith, common_steps, of_none c.args.list.now)

pub body_of-returns-in-Some : goal.body_of-returns-in-Some
body_of-returns-in-Some t c = grind (arith, common_steps, of_one c.args.list.now)

pub body_of-returns-in-None : goal.body_of-returns-in-None
body_of-returns-in-None t c = grind (arith, common_steps, of_one c.args.list.now)

pub body_of-returns-in-len2-up : goal.body_of-returns-in-len2-up
body_of-returns-in-len2-up t c = grind (arith, common_steps, of_long c.args.list.now, of_several c.args.list.now)

pub sole_item-returns-in-Sequential-clause-run : goal.sole_item-returns-in-Sequential-clause-run
sole_item-returns-in-Sequential-clause-run t c = grind (arith, common_steps, item_is c.args.item.now)

pub sole_item-returns-in-Asynchronous-clause-run : goal.sole_item-returns-in-Asynchronous-clause-run
sole_item-returns-in-Asynchronous-clause-run t c = grind (arith, common_steps, item_is c.args.item.now)

pub sole_and_or-returns-in-empty-clause-run : goal.sole_and_or-returns-in-empty-clause-run
sole_and_or-returns-in-empty-clause-run t c = grind (arith, common_steps, and_or_is c.args.list.now, unjoined_none)

pub sole_and_or-returns-in-len1-up-clause-run : goal.sole_and_or-returns-in-len1-up-clause-run
sole_and_or-returns-in-len1-up-clause-run t c = grind (arith, common_steps, and_or_is c.args.list.now, unjoined_some)

pub sole_pipeline-returns-then-is_negated-clause-run : goal.sole_pipeline-returns-then-is_negated-clause-run
sole_pipeline-returns-then-is_negated-clause-run t c = grind (arith, common_steps, of_negated c.args.pipeline.now)

pub sole_pipeline-returns-in-len1-up-clause-run : goal.sole_pipeline-returns-in-len1-up-clause-run
sole_pipeline-returns-in-len1-up-clause-run t c = grind (arith, common_steps, of_stages c.args.pipeline.now, stages_long c.args.pipeline.now)

pub sole_pipeline-returns-in_ok-active-in-empty-clause-run : goal.sole_pipeline-returns-in_ok-active-in-empty-clause-run
sole_pipeline-returns-in_ok-active-in-empty-clause-run t c = grind (arith, common_steps, of_alone c.args.pipeline.now, stage_is)

pub stage-returns-in-Compound : goal.stage-returns-in-Compound
stage-returns-in-Compound t c = grind (arith, common_steps, stage_is c.args.command.now, compound_command_alone c.in-Compound.compound c.args.command.now)

pub stage-returns-in-Function : goal.stage-returns-in-Function
stage-returns-in-Function t c = grind (arith, common_steps, stage_is c.args.command.now, function_alone c.in-Function.name c.in-Function.body c.args.command.now)

pub stage-returns-in_ok-place-in-Simple : goal.stage-returns-in_ok-place-in-Simple
stage-returns-in_ok-place-in-Simple t c = grind (arith, common_steps, stage_is c.args.command.now, simple_alone)

pub own_compound-returns-in-empty : goal.own_compound-returns-in-empty
own_compound-returns-in-empty t c = grind (arith, common_steps, compound_plain c.args.compound.now c.args.command.now)

pub own_compound-returns-in-len1-up : goal.own_compound-returns-in-len1-up
own_compound-returns-in-len1-up t c = grind (arith, common_steps, compound_redirected c.args.compound.now c.args.command.now)

pub own_form-returns-in-Group : goal.own_form-returns-in-Group
own_form-returns-in-Group t c = grind (arith, common_steps, group_alone c.in-Group.field-0 c.args.command.now)

pub own_form-returns-in-Subshell : goal.own_form-returns-in-Subshell
own_form-returns-in-Subshell t c = grind (arith, common_steps, subshell_alone c.in-Subshell.list c.args.command.now)

pub own_form-returns-in-If : goal.own_form-returns-in-If
own_form-returns-in-If t c = grind (arith, common_steps, if_alone c.in-If.condition c.in-If.body c.in-If.else_ifs c.in-If.else_body c.args.command.now)

pub own_form-returns-in-Loop : goal.own_form-returns-in-Loop
own_form-returns-in-Loop t c = grind (arith, common_steps, loop_alone c.in-Loop.kind c.in-Loop.condition c.in-Loop.body c.args.command.now)

pub own_form-returns-in-For : goal.own_form-returns-in-For
own_form-returns-in-For t c = grind (arith, common_steps, for_alone c.in-For.name c.in-For.words c.in-For.body c.args.command.now)

pub own_form-returns-in-ForParameters : goal.own_form-returns-in-ForParameters
own_form-returns-in-ForParameters t c = grind (arith, common_steps, for_parameters_alone c.in-ForParameters.name c.in-ForParameters.is_separated c.in-ForParameters.body c.args.command.now)

pub own_form-returns-in-Case : goal.own_form-returns-in-Case
own_form-returns-in-Case t c = grind (arith, common_steps, case_alone c.in-Case.word c.in-Case.items c.args.command.now)

use Rattle.std.proofs.Common.{◌∙◌}
use Rattle.sh_expand.proofs.Steps.{start_is, step_is}
use Rattle.sh_expand.proofs.words.WordExpansion.start.Goals as goal

pub returns-clause-step : goal.returns-clause-step
returns-clause-step c = step_is c.in_ok-step.step c.go.new.self c.go.new.vars _ _ _ (λ bs. c.in_ok-step.ensures.outcome bs ∙ start_is c.new.result c.new-2.result c.new-3.result c.args.words c.args.vars.now bs c.new.ensures c.new-2.ensures c.new-3.ensures)

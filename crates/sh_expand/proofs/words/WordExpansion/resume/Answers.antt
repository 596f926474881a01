use Rattle.std.proofs.Common.{◌∙◌, ◌++◌, ◌∷◌, []}
use Rattle.sh_expand.proofs.Steps.{resumed, step_is}
use Rattle.sh_expand.proofs.words.WordExpansion.resume.Goals as goal

pub returns-clause-step : goal.returns-clause-step
returns-clause-step c words before given w = step_is c.in_ok-step.step c.go.new.self c.go.new.vars words before (given ++ c.args.answer.now ∷ []) (λ bs. c.in_ok-step.ensures.outcome bs ∙ resumed c.args.self.now c.args.vars.now c.append.new.self c.in_ok-items.items c.args.answer.now bs words before given w c.in_ok-items.ensures c.in_ok-append.ensures)

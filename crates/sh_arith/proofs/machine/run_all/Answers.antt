use Rattle.std.proofs.Common.{sym, ap, ◌∙◌}
use Rattle.sh_arith.specs.Steps.{run}
use Rattle.sh_arith.specs.Reading.{steps}
use Rattle.sh_arith.specs.State.{state_of}
use Rattle.sh_arith.proofs.Whole.{halting}
use Rattle.sh_arith.proofs.machine.run_all.Goals as goal

pub returns-in-Err-clause-fault : goal.returns-in-Err-clause-fault
returns-in-Err-clause-fault c =
    halting c.args.text.now c.in-Some.first.now c.in-Some.others.now (state_of c.loop-first.machine c.loop-first.vars) _ c.in-Err.fault c.step.new.vars c.in-Err.ensures.fault
    (ap (λ x. run c.args.text.now (steps x) (state_of c.loop-first.machine c.loop-first.vars)) (sym c.in-Some.ensures.cases.0) ∙ c.loop-first.invariant.same)

use Rattle.std.proofs.Common.{ap, ◌∙◌, w64, FitsSigned}
use Rattle.std.proofs.lemmas.Int.{to_z-of_z}
use Rattle.sh_arith.specs.Steps.{run, Runs}
use Rattle.sh_arith.specs.Reading.{steps}
use Rattle.sh_arith.specs.State.{stacks_of}
use Rattle.sh_arith.proofs.Whole.{comes_to_fault, comes_to_value, started}
use Rattle.sh_arith.proofs.machine.value_of.Goals as goal

pub returns-in-Err-clause-fault : goal.returns-in-Err-clause-fault
returns-in-Err-clause-fault c =
    comes_to_fault c.args.text.now c.args.actions.now c.args.vars.now c.run_all.new.vars c.in-Err.fault
    (λ w. c.in-Err.ensures.fault w ∙ ap (λ s. run c.args.text.now (steps c.args.actions.now) (Runs s c.args.vars.now))
    (started c.new.result.items c.new-2.result.items c.new-3.result.items c.new.ensures.items c.new-2.ensures.items c.new-3.ensures.items))

pub returns-clause-value : goal.returns-clause-value
returns-clause-value c =
    let f : FitsSigned w64 c.pop_value.result = record { sfits = c.pop_value.type_inv } in
    comes_to_value c.args.text.now c.args.actions.now c.args.vars.now c.run_all.new.vars c.run_all.new.machine.skip (stacks_of c.run_all.new.machine) _
    (c.in-Ok.ensures.ok ∙ ap (λ s. run c.args.text.now (steps c.args.actions.now) (Runs s c.args.vars.now))
    (started c.new.result.items c.new-2.result.items c.new-3.result.items c.new.ensures.items c.new-2.ensures.items c.new-3.ensures.items))
    (to_z-of_z w64 c.pop_value.result f ∙ c.pop_value.ensures.top)

use Rattle.std.proofs.Common.{sym, ◌∙◌}
use Rattle.sh_arith.proofs.Answering.{gives, stops}
use Rattle.sh_arith.proofs.evaluate.Goals as goal

pub returns-clause-value : goal.returns-clause-value
returns-clause-value c =
    gives c.args.text.now c.as_slice.result.now c.args.vars.now c.value_of.new.vars c.value_of.result (c.in-Ok.ensures.tree.0, c.in-Ok.ensures.tree.1, c.in-Ok.ensures.tree.2 ∙ sym c.as_slice.ensures) c.in-Ok.ensures.shallow c.value_of.ensures.value

pub returns-clause-fault : goal.returns-clause-fault
returns-clause-fault c =
    stops c.args.text.now c.as_slice.result.now c.args.vars.now c.value_of.new.vars c.value_of.result (c.in-Ok.ensures.tree.0, c.in-Ok.ensures.tree.1, c.in-Ok.ensures.tree.2 ∙ sym c.as_slice.ensures) c.in-Ok.ensures.shallow c.value_of.ensures.fault

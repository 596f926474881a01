use Rattle.sh_expand_parts.proofs.Values.{has_fault, has_value}
use Rattle.sh_expand_parts.proofs.closing.value_of.Goals as goal

pub returns-clause-value : goal.returns-clause-value
returns-clause-value c = has_value c.args.text.now c.args.vars.now c.evaluate.new.vars c.evaluate.result c.evaluate.ensures.value

pub returns-clause-fault : goal.returns-clause-fault
returns-clause-fault c = has_fault c.args.text.now c.args.vars.now c.evaluate.new.vars c.evaluate.result c.evaluate.ensures.fault

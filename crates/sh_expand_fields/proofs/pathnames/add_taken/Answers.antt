use Rattle.sh_expand_fields.proofs.Names.{taken_end, taken_step}
use Rattle.sh_expand_fields.proofs.pathnames.add_taken.Goals as goal

pub names-preserved : goal.names-preserved
names-preserved c = taken_step c.args.before.now c.args.end.now c.args.component.now c.args.names.now c.names.name-index _ _ _ _ c.names-test.true c.names.invariant c.in_ok-add_if_taken.ensures

pub returns : goal.returns
returns c = taken_end c.args.before.now c.args.end.now c.args.component.now c.args.names.now c.names.name-index _ _ c.names-test.false c.names.invariant

use Rattle.sh_kernel_descriptors.proofs.Moving.{counted_moved, linked_moved}
use Rattle.sh_kernel_descriptors.proofs.Pairs.{paired_moved}
use Rattle.sh_kernel_descriptors.proofs.kept.move_to.Goals as goal

pub returns-clause-counted : goal.returns-clause-counted
returns-clause-counted c = counted_moved c.args.entries.now c.set_offset.new.entries c.args.h.key c.args.offset c.set_offset.ensures.at c.set_offset.ensures.others

pub returns-clause-linked : goal.returns-clause-linked
returns-clause-linked c = linked_moved c.args.entries.now c.set_offset.new.entries c.args.h c.args.offset c.set_offset.ensures.at c.set_offset.ensures.others

pub returns-clause-paired : goal.returns-clause-paired
returns-clause-paired c = paired_moved c.args.entries.now c.set_offset.new.entries c.args.h.key c.args.offset c.set_offset.ensures.at c.set_offset.ensures.others

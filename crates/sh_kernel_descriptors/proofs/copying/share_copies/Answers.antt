use Rattle.sh_kernel_descriptors.proofs.ForkCopies.{counted_copied, linked_copied}
use Rattle.sh_kernel_descriptors.proofs.Pairs.{paired_copied}
use Rattle.sh_kernel_descriptors.proofs.copying.share_copies.Goals as goal

pub returns-clause-counted : goal.returns-clause-counted
returns-clause-counted c all hs pid child e room within n = counted_copied all hs c.args.copied.now pid child c.args.entries.now c.share_each.new.entries e room within c.share_each.ensures n

pub returns-clause-linked : goal.returns-clause-linked
returns-clause-linked c all hs pid child es e within l = linked_copied all hs c.args.copied.now pid child c.args.entries.now c.share_each.new.entries es e within c.share_each.ensures l

pub returns-clause-paired : goal.returns-clause-paired
returns-clause-paired c = paired_copied c.args.copied.now c.args.entries.now c.share_each.new.entries c.share_each.ensures

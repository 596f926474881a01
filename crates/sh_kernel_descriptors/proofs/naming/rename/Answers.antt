use Rattle.sh_kernel_descriptors.proofs.Renaming.{counted_rename, linked_rename, listed_rename}
use Rattle.sh_kernel_descriptors.proofs.naming.rename.Goals as goal

pub returns-clause-listed : goal.returns-clause-listed
returns-clause-listed c = listed_rename c.args.pid c.args.name c.args.number c.args.held.now.items _ c.renumber.ensures

pub returns-clause-counted : goal.returns-clause-counted
returns-clause-counted c = counted_rename c.args.pid c.args.name c.args.number c.args.held.now.items _ c.renumber.ensures

pub returns-clause-linked : goal.returns-clause-linked
returns-clause-linked c = linked_rename c.args.pid c.args.name c.args.number c.args.held.now.items _ c.renumber.ensures

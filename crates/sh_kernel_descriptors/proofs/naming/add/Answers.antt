use Rattle.std.proofs.Common.{[], ◌∷◌, None}
use Rattle.std.specs.Prelude.{◌++◌}
use Rattle.sh_kernel_descriptors.specs.Counts.{given, held_left}
use Rattle.sh_kernel_descriptors.specs.declared.descriptor.Closing.TheVariants.{Named}
use Rattle.sh_kernel_descriptors.specs.declared.descriptor.DescriptorRef.TheVariants.{Number}
use Rattle.sh_kernel_descriptors.proofs.Coming.{linked_longer}
use Rattle.sh_kernel_descriptors.proofs.Giving.{listed_given}
use Rattle.sh_kernel_descriptors.proofs.Leaving.{listed_of}
use Rattle.sh_kernel_descriptors.proofs.Pairs.{paired_left, paired_new}
use Rattle.sh_kernel_descriptors.proofs.naming.add.Goals as goal

pub returns-clause-listed : goal.returns-clause-listed
returns-clause-listed c =
    listed_given (held_left c.args.pid (Named (Number c.args.number)) c.args.held.now.items) c.add_one.new.held.items (given c.args.pid c.args.number c.args.k c.add_one.result) _
    (listed_of c.args.pid (Named (Number c.args.number)) c.args.held.now.items) c.add_one.ensures.items

pub returns-clause-paired : goal.returns-clause-paired
returns-clause-paired c made none pair =
    let added = c.add_one.ensures.added in
    paired_new added.between c.add_one.new.entries c.add_one.result (record { description = c.args.description; count = 1; other = None }) added.updates made none
    (paired_left c.args.pid (Named (Number c.args.number)) c.args.held.now.items c.args.entries.now added.between added.gone made pair)

pub returns-clause-pipes : goal.returns-clause-pipes
returns-clause-pipes c more made es ps none pair n l agree =
    c.add_one.ensures.pipes more made (es ++ c.args.description ∷ []) ps none pair n (linked_longer (more ++ c.args.held.now.items) c.args.entries.now es (c.args.description ∷ []) n l) agree

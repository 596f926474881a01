use Rattle.sh_kernel_descriptors.specs.Machine.{after_close}
use Rattle.sh_kernel_descriptors.specs.declared.descriptor.Closing.TheVariants.{Named}
use Rattle.sh_kernel_descriptors.specs.declared.descriptor.DescriptorRef.TheVariants.{Number}
use Rattle.sh_kernel_machine.proofs.machine.Machine.give_back.Goals as goal

pub returns : goal.returns
returns c s st = c.renumber.ensures (after_close s c.args.pid (Named (Number c.args.number))) (c.close_each.ensures s st)

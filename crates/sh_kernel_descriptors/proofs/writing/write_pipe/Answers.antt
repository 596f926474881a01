use Rattle.sh_kernel_descriptors.proofs.Slots.{gives_write}
use Rattle.sh_kernel_descriptors.proofs.writing.write_pipe.Goals as goal

pub returns-clause-gives : goal.returns-clause-gives
returns-clause-gives c ps agree = gives_write c.args.pipes.now.entries c.write_to.new.pipes.entries ps c.args.pipe c.args.bytes.now c.write_to.result c.write_to.ensures.gives c.write_to.ensures.others agree

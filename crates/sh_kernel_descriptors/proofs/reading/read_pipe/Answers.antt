use Rattle.std.proofs.Common.{length}
use Rattle.sh_kernel_descriptors.proofs.Slots.{gives_read}
use Rattle.sh_kernel_descriptors.proofs.reading.read_pipe.Goals as goal

pub returns-clause-gives : goal.returns-clause-gives
returns-clause-gives c ps agree = gives_read c.args.pipes.now.entries c.read_at.new.pipes.entries ps c.args.pipe (length c.args.buf.now) c.args.writer c.args.buf.now c.read_at.new.buf c.read_at.result c.read_at.ensures.gives c.read_at.ensures.others agree

use Rattle.sh_kernel_descriptors.specs.Reading.{read_node}
use Rattle.std.proofs.Common.{length}
use Rattle.sh_kernel_descriptors.proofs.Moving.{gives_file}
use Rattle.sh_kernel_descriptors.proofs.reading.read_file.Goals as goal

pub returns-clause-gives : goal.returns-clause-gives
returns-clause-gives c hs es a l =
    gives_file hs c.args.entries.now c.move_to.new.entries es c.args.h c.args.buf.now c.read_node-result.new.buf c.read_node-result.new.offset c.read_node-result.result
    (read_node c.args.files.now c.args.node c.args.offset (length c.args.buf.now)) c.read_node-result.ensures.gives (c.move_to.ensures.linked hs es a l)

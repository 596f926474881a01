use Rattle.std.proofs.Common.{arith}
use Rattle.sh_files_image.proofs.Blocks.{split_done}
use Rattle.sh_files_image.proofs.table.split_long.Goals as goal

pub returns-clause-blocks : goal.returns-clause-blocks
returns-clause-blocks c =
    (split_done c.args.blocks.now.items c.reserve.new.self.items c.insert.new.self.items c.args.index _ c.split.new.self c.in_ok-upper.upper c.index_mut.result.now c.requires.blocks c.requires.within c.in_ok-reserve.ensures.items c.index_mut.ensures.value c.in_ok-upper.ensures.parts c.in_ok-upper.ensures.filled.0 c.in_ok-upper.ensures.filled.1 (omega arith) c.in_ok-insert.ensures.items).0

pub returns-clause-entries : goal.returns-clause-entries
returns-clause-entries c =
    (split_done c.args.blocks.now.items c.reserve.new.self.items c.insert.new.self.items c.args.index _ c.split.new.self c.in_ok-upper.upper c.index_mut.result.now c.requires.blocks c.requires.within c.in_ok-reserve.ensures.items c.index_mut.ensures.value c.in_ok-upper.ensures.parts c.in_ok-upper.ensures.filled.0 c.in_ok-upper.ensures.filled.1 (omega arith) c.in_ok-insert.ensures.items).1

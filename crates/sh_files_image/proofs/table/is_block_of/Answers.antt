use Rattle.std.proofs.Common.{arith}
use Rattle.sh_files_image.proofs.Blocks.{near_found}
use Rattle.sh_files_image.proofs.table.is_block_of.Goals as goal

pub returns-clause-place : goal.returns-clause-place
returns-clause-place c =
    λ h. near_found c.args.path.now c.args.blocks.now c.args.index _ _ _ c.requires (omega arith) c.is_started.ensures c.is_started-2.ensures c.if-not-is_started.false h

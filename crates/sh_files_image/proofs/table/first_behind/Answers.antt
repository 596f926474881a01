use Rattle.std.proofs.Common.{◌∙◌, sym}
use Rattle.sh_files_image.proofs.Blocks.{head_at}
use Rattle.sh_files_image.proofs.table.first_behind.Goals as goal

pub returns-in-Some : goal.returns-in-Some
returns-in-Some c = c.first.ensures ∙ head_at c.args.blocks.now c.args.index c.in-Some.block.now c.requires (sym c.in-Some.ensures.lookup.0) c.in-Some.ensures.lookup.1

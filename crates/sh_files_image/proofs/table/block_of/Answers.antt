use Rattle.std.proofs.Common.{◌∙◌, sym, ap, arith}
use Rattle.sh_files_image.specs.Blocks.{starts_by}
use Rattle.sh_files_image.proofs.Blocks.{block_found, last_found}
use Rattle.sh_files_image.proofs.table.block_of.Goals as goal

pub returns-then-starts_by-clause-place : goal.returns-then-starts_by-clause-place
returns-then-starts_by-clause-place c =
    let some = c.requires.some in
    last_found c.args.path.now c.args.blocks.now _ _ c.requires (omega arith) (ap (starts_by c.args.path.now) (sym c.index-blocks-last.is) ∙ sym c.if-starts_by.ensures)

pub returns-clause-place : goal.returns-clause-place
returns-clause-place c =
    block_found c.args.path.now c.args.blocks.now c.count_started.result c.saturating_sub.result c.requires c.count_started.ensures.bound c.count_started.ensures.parts c.saturating_sub.ensures

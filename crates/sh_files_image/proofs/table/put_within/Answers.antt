use Rattle.std.proofs.Common.{subst, sym}
use Rattle.std.specs.Prelude.{is_ok}
use Rattle.sh_files_image.proofs.Places.{Rises}
use Rattle.sh_files_image.proofs.Blocks.{block_rises, choose_blocks, choose_flat}
use Rattle.sh_files_image.proofs.table.put_within.Goals as goal

pub put-requires : goal.put-requires
put-requires c =
    subst Rises (sym c.index_mut.ensures.value) (block_rises c.args.blocks.now.items c.args.index c.index_mut.result.now c.requires.blocks.rise c.requires.within)

pub returns-clause-blocks : goal.returns-clause-blocks
returns-clause-blocks c =
    choose_blocks (is_ok c.put.result) c.args.entry c.args.blocks.now.items c.args.index c.index_mut.result.now c.put.new.self c.requires.blocks c.requires.within c.requires.place c.index_mut.ensures.value c.put.ensures

pub returns-clause-entries : goal.returns-clause-entries
returns-clause-entries c =
    choose_flat (is_ok c.put.result) c.args.entry c.args.blocks.now.items c.args.index c.index_mut.result.now c.put.new.self c.requires.within c.requires.place c.index_mut.ensures.value c.put.ensures

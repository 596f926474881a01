use Rattle.std.proofs.Common.{◌∙◌, ap, subst, sym}
use Rattle.sh_files_image.proofs.Places.{Rises, order}
use Rattle.sh_files_image.proofs.Blocks.{block_rises, find_block, found_in}
use Rattle.std.specs.FinMap as map
use Rattle.sh_files_image.proofs.table.find_near.Goals as goal

pub find-requires : goal.find-requires
find-requires c =
    subst Rises (sym c.index-blocks-index.is) (block_rises c.args.blocks.now c.args.index _ c.requires.blocks.rise c.requires.within)

pub find-requires-in-None : goal.find-requires-in-None
find-requires-in-None c =
    subst Rises (sym c.index-blocks-block_of.is) (block_rises c.args.blocks.now c.block_of.result _ c.requires.blocks.rise c.block_of.ensures.within)

pub returns-in-Some : goal.returns-in-Some
returns-in-Some c =
    sym (found_in c.args.path.now c.in-Some.number c.args.blocks.now c.args.index _ c.requires.blocks.rise c.requires.within (ap (map.find order c.args.path.now) (sym c.index-blocks-index.is) ∙ sym c.in-Some.ensures))

pub returns-in-None : goal.returns-in-None
returns-in-None c =
    c.find-in-None.ensures
    ∙ ap (map.find order c.args.path.now) c.index-blocks-block_of.is
    ∙ find_block c.args.path.now c.args.blocks.now c.block_of.result _ c.block_of.ensures.within c.block_of.ensures.place

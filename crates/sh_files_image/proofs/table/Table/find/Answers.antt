use Rattle.std.proofs.Common.{◌∙◌, ap, subst, sym, List}
use Rattle.std.specs.FinMap as map
use Rattle.sh_files_image.specs.Blocks.{IsBlockOf, flat}
use Rattle.sh_files_image.specs.Paths.{PathMap}
use Rattle.sh_files_image.specs.Places.{Entries}
use Rattle.sh_files_image.proofs.Places.{Rises, order}
use Rattle.sh_files_image.proofs.Blocks.{block_rises, find_block}
use Rattle.sh_files_image.proofs.table.Table.find.Goals as goal

pub find-requires : goal.find-requires
find-requires c =
    subst Rises (sym c.index.ensures) (block_rises c.self.inside.blocks.items c.block_of-index.result c.index.result.now c.self.invariant.rise (rw c.deref.ensures.value at c.block_of-index.ensures.within))

pub returns : goal.returns
returns c =
    let bs = c.self.inside.blocks.items in
    let q = c.args.path.now in
    c.find.ensures
    ∙ ap (map.find order q) c.index.ensures
    ∙ find_block q bs c.block_of-index.result c.index.result.now (rw c.deref.ensures.value at c.block_of-index.ensures.within)
    (subst (λ (cs : List Entries). IsBlockOf q cs c.block_of-index.result) c.deref.ensures.value c.block_of-index.ensures.place)
    ∙ sym (map.get-from_sorted order (flat bs) q c.self.invariant.rise)
    ∙ ap (λ (m : PathMap). map.get m q) c.self.view_is

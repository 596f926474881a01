use Rattle.std.proofs.Common.{◌∙◌, ap, arith, drop, subst, suc, sym, List}
use Rattle.sh_files_image.specs.Blocks.{IsBlockOf, flat, head}
use Rattle.sh_files_image.specs.Places.{Entries}
use Rattle.sh_files_image.proofs.Places.{Rises}
use Rattle.sh_files_image.proofs.Blocks.{block_rises, first_here, first_later, from_map, head_in}
use Rattle.sh_files_image.proofs.table.Table.first_near.Goals as goal

pub rest_from-requires : goal.rest_from-requires
rest_from-requires c =
    subst Rises (sym c.index.ensures) (block_rises c.self.inside.blocks.items c.block_near-index.result c.index.result.now c.self.invariant.rise (rw c.deref.ensures.value at c.block_near-index.ensures.within))

pub returns-in-empty : goal.returns-in-empty
returns-in-empty c =
    let bs = c.self.inside.blocks.items in
    c.first_behind.ensures
    ∙ head_in bs c.deref-in-empty.result.now c.block_near-index.result _ c.deref-in-empty.ensures.value (omega arith)
    ∙ first_later c.rest_from.result.now (flat (drop (suc c.block_near-index.result) bs)) c.in-empty.len_below
    ∙ ap head
    (from_map c.args.text.now bs c.block_near-index.result c.index.result.now c.rest_from.result.now c.args.self.now c.self.invariant (rw c.deref.ensures.value at c.block_near-index.ensures.within)
    (subst (λ (cs : List Entries). IsBlockOf c.args.text.now cs c.block_near-index.result) c.deref.ensures.value c.block_near-index.ensures.place) c.index.ensures c.rest_from.ensures c.self.view_is)

pub returns-in-len1-up : goal.returns-in-len1-up
returns-in-len1-up c =
    let bs = c.self.inside.blocks.items in
    first_here c.first-item.result c.rest_from.result.now (flat (drop (suc c.block_near-index.result) bs)) c.in-len1-up.len_at_least c.first-item.is
    ∙ ap head
    (from_map c.args.text.now bs c.block_near-index.result c.index.result.now c.rest_from.result.now c.args.self.now c.self.invariant (rw c.deref.ensures.value at c.block_near-index.ensures.within)
    (subst (λ (cs : List Entries). IsBlockOf c.args.text.now cs c.block_near-index.result) c.deref.ensures.value c.block_near-index.ensures.place) c.index.ensures c.rest_from.ensures c.self.view_is)

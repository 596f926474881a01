use Rattle.std.proofs.Common.{ap, ◌∙◌, subst, sym}
use Rattle.std.specs.FinMap as map
use Rattle.sh_files_image.proofs.Places.{Rises, put_found, put_new, order}
use Rattle.sh_files_image.proofs.block.Block.put.Goals as goal

pub returns-in-Ok : goal.returns-in-Ok
returns-in-Ok c =
    put_found c.args.entry c.self.inside.entries.items c.in-Ok.index (subst Rises (sym c.self.view_is) c.requires)
    (rw (c.deref.ensures.value, c.path.ensures) at c.in-Ok.ensures)
    ∙ ap (map.put order c.args.entry.0 c.args.entry.1) c.self.view_is

pub returns-in_ok-insert-in-Err : goal.returns-in_ok-insert-in-Err
returns-in_ok-insert-in-Err c =
    put_new c.args.entry c.self.inside.entries.items _ c.in-Err.index (rw (c.deref.ensures.value, c.path.ensures) at c.in-Err.ensures) c.in_ok-insert-in-Err.ensures.items
    ∙ ap (map.put order c.args.entry.0 c.args.entry.1) c.self.view_is

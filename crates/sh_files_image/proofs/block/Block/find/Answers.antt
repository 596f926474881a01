use Rattle.std.proofs.Common.{ℕ, Some, ap, ◌∙◌, subst, sym, Ok, Err}
use Rattle.std.specs.FinMap as map
use Rattle.sh_files_image.specs.Places.{Entries, IsPlace}
use Rattle.sh_files_image.proofs.Places.{Rises, found_at, missing, order}
use Rattle.sh_files_image.proofs.block.Block.find.Goals as goal

pub returns-in-Ok : goal.returns-in-Ok
returns-in-Ok c =
    ap (λ (n : ℕ). Some n) c.node.ensures
    ∙ found_at c.args.path.now c.self.inside.entries.items c.in-Ok.index c.index.result.now (subst Rises (sym c.self.view_is) c.requires)
    (subst (λ (es : Entries). IsPlace es c.args.path.now (Ok c.in-Ok.index)) c.deref.ensures.value c.in-Ok.ensures) c.index.ensures
    ∙ ap (map.find order c.args.path.now) c.self.view_is

pub returns-in-Err : goal.returns-in-Err
returns-in-Err c =
    let gap = subst (λ (es : Entries). IsPlace es c.args.path.now (Err c.in-Err.field-0)) c.deref.ensures.value c.in-Err.ensures in
    sym (missing c.args.path.now c.self.inside.entries.items c.in-Err.field-0 gap.1) ∙ ap (map.find order c.args.path.now) c.self.view_is

use Rattle.std.proofs.Common.{ap, drop, ◌∙◌, subst, Ok, Err}
use Rattle.sh_files_image.specs.Places.{Entries, IsPlace}
use Rattle.sh_files_image.proofs.Places.{to_end}
use Rattle.sh_files_image.proofs.Held.{drop_from_found, drop_from_gap}
use Rattle.sh_files_image.proofs.block.Block.rest_from.Goals as goal

pub returns-in-Ok : goal.returns-in-Ok
returns-in-Ok c =
    let same = c.deref.ensures.value ∙ c.self.view_is in
    let at = subst (λ (es : Entries). IsPlace es c.args.text.now (Ok c.in-Ok.index)) same c.in-Ok.ensures in
    to_end c.in-Ok.index c.deref-in-Ok.result.now
    ∙ ap (λ (es : Entries). drop c.in-Ok.index es) (c.deref-in-Ok.ensures.value ∙ c.self.view_is)
    ∙ drop_from_found c.args.text.now c.args.self.now c.in-Ok.index c.requires at.0 at.1

pub returns-in-Err : goal.returns-in-Err
returns-in-Err c =
    let same = c.deref.ensures.value ∙ c.self.view_is in
    let gap = subst (λ (es : Entries). IsPlace es c.args.text.now (Err c.in-Err.index)) same c.in-Err.ensures in
    to_end c.in-Err.index c.deref-in-Err.result.now
    ∙ ap (λ (es : Entries). drop c.in-Err.index es) (c.deref-in-Err.ensures.value ∙ c.self.view_is)
    ∙ drop_from_gap c.args.text.now c.args.self.now c.in-Err.index gap.0 gap.1

use Rattle.std.proofs.Common.{◌≡◌, ap, ◌∙◌}
use Rattle.sh_files.specs.Writing.{image_text}
use Rattle.sh_world.specs.State.{files_of}
use Rattle.sh_schedules_outcomes.proofs.look.image.Goals as goal

pub returns-in_default : goal.returns-in_default
returns-in_default g c = λ s h. cc (c.in_default.ensures.view s h)

pub returns : goal.returns
returns g c = λ s h.
    let e : c.in-Some.files.now ≡ files_of s = cc (c.in-Some.ensures.view s h) in
    c.from_vec.ensures ∙ c.in_ok-image.ensures ∙ ap image_text e

-- Frames, and the forms in them.
use Rattle.std.proofs.Common.{◌≡◌, List, [], ◌∷◌, ◌++◌, reverse, ap, ◌∙◌}
use Rattle.std.proofs.lemmas.List.{reverse-append}
use Rattle.sh_exec_forms.specs.Frames.{forms_in}
use Rattle.sh_exec_actions.specs.declared.form.Frame.{Frame}

-- the last frame has the innermost form
pub innermost : (frames others : List Frame) (frame : Frame) → frames ≡ others ++ frame ∷ [] → forms_in (reverse frames) ≡ frame.form ∷ forms_in (reverse others)
innermost frames others frame e = ap (λ these. forms_in (reverse these)) e ∙ ap forms_in (reverse-append others (frame ∷ []))

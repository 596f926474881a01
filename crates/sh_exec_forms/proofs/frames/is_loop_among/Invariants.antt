use Rattle.std.proofs.Common.{◌≡◌, length, reverse}
use Rattle.sh_exec_forms.specs.Frames.{forms_in, has_loop}
use Rattle.sh_exec_forms.proofs.frames.is_loop_among.Given as goal

abbrev pub invariant-frames : goal.invariant-frames
invariant-frames l = has_loop (forms_in (reverse l.rest)) ≡ has_loop (forms_in (reverse l.frames))

abbrev pub decreases-frames : goal.decreases-frames
decreases-frames l = length l.rest

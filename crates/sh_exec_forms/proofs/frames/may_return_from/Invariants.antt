use Rattle.std.proofs.Common.{◌≡◌, length, reverse}
use Rattle.sh_exec_forms.specs.Frames.{forms_in, may_return}
use Rattle.sh_exec_forms.proofs.frames.may_return_from.Given as goal

abbrev pub invariant-frames : goal.invariant-frames
invariant-frames l = may_return (forms_in (reverse l.rest)) ≡ may_return (forms_in (reverse l.frames))

abbrev pub decreases-frames : goal.decreases-frames
decreases-frames l = length l.rest

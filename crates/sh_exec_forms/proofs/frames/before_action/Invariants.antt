use Rattle.std.proofs.Common.{◌≡◌, length, reverse}
use Rattle.sh_exec_forms.specs.Frames.{before_action, forms_in}
use Rattle.sh_exec_forms.proofs.frames.before_action.Given as goal

abbrev pub invariant-frames : goal.invariant-frames
invariant-frames l = before_action l.own (forms_in (reverse l.rest)) ≡ before_action l.own (forms_in (reverse l.frames))

abbrev pub decreases-frames : goal.decreases-frames
decreases-frames l = length l.rest

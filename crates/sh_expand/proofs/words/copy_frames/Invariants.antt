use Rattle.std.proofs.Common.{◌≡◌, take}
use Rattle.sh_expand.proofs.words.copy_frames.Given as goal

abbrev pub invariant-loop-frame : goal.invariant-loop-frame
invariant-loop-frame l = l.copies ≡ take l.frame-index l.frames

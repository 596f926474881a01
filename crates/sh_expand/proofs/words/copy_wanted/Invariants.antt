use Rattle.std.proofs.Common.{◌≡◌, take}
use Rattle.sh_expand.proofs.words.copy_wanted.Given as goal

abbrev pub invariant-loop-word : goal.invariant-loop-word
invariant-loop-word l = l.copies ≡ take l.word-index l.words

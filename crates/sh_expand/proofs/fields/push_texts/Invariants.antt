use Rattle.std.proofs.Common.{◌≡◌, ◌++◌}
use Rattle.sh_expand.specs.FieldProgress.{texts_of}
use Rattle.sh_expand.proofs.fields.push_texts.Given as goal

abbrev pub invariant-loop-text : goal.invariant-loop-text
invariant-loop-text l = l.fields ≡ l.initial.fields ++ texts_of l.yielded

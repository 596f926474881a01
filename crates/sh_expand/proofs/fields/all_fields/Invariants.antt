use Rattle.std.proofs.Common.{◌≡◌, take}
use Rattle.sh_expand.specs.Fields.{all_fields}
use Rattle.sh_expand.proofs.fields.all_fields.Given as goal

abbrev pub invariant-loop-word : goal.invariant-loop-word
invariant-loop-word l = l.fields ≡ all_fields l.files l.vars (take l.word-index l.words)

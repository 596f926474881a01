use Rattle.std.proofs.Common.{◌≡◌, ◌++◌, map, take}
use Rattle.std.specs.List.{flat_map}
use Rattle.sh_expand.specs.Fields.{field_paths}
use Rattle.sh_expand.proofs.fields.push_all_paths.Given as goal

abbrev pub invariant-loop-field : goal.invariant-loop-field
invariant-loop-field l = l.fields ≡ l.initial.fields ++ flat_map (field_paths l.files l.vars) (map (λ field. field.items) (take l.field-index l.split))

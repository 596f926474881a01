use Rattle.std.proofs.Common.{◌≡◌, ◌++◌, map, take}
use Rattle.sh_expand_fields.specs.declared.item.Item.TheVariants.{Quoted}
use Rattle.sh_expand_parts.proofs.draft.push_quoted.Given as goal

abbrev pub invariant-loop-byte : goal.invariant-loop-byte
invariant-loop-byte l = l.items ≡ l.initial.items ++ map Quoted (take l.byte-index l.bytes)

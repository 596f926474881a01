use Rattle.std.proofs.Common.{◌≡◌, ◌++◌, map, take}
use Rattle.sh_expand_parts.specs.Contexts.{value_item}
use Rattle.sh_expand_parts.proofs.draft.push_text.Given as goal

abbrev pub invariant-loop-byte : goal.invariant-loop-byte
invariant-loop-byte l = l.items ≡ l.initial.items ++ map (value_item l.context) (take l.byte-index l.bytes)

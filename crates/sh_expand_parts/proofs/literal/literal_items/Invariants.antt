use Rattle.std.proofs.Common.{◌≡◌, ◌++◌, length}
use Rattle.std.specs.Prelude.{option_map}
use Rattle.sh_expand_parts.specs.Tildes.{literal_items, prefixes_in}
use Rattle.sh_expand_parts.proofs.literal.literal_items.Given as goal

abbrev pub invariant-bytes : goal.invariant-bytes
invariant-bytes l = l.items ++ literal_items l.context (option_map (λ h. h.now) l.home) l.last l.prefixes l.rest ≡ literal_items l.context (option_map (λ h. h.now) l.home) l.last (prefixes_in l.context l.first) l.bytes

abbrev pub decreases-bytes : goal.decreases-bytes
decreases-bytes l = length l.rest

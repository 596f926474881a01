use Rattle.std.proofs.Common.{◌≡◌, length, map}
use Rattle.std.specs.Str.{bytes_eq}
use Rattle.sh_pattern.specs.Items.{byte_of}
use Rattle.sh_pattern.proofs.item.is_named.Given as goal

abbrev pub invariant-bytes : goal.invariant-bytes
invariant-bytes l = bytes_eq (map byte_of l.initial.marks) l.initial.name ≡ bytes_eq (map byte_of l.marks) l.name

abbrev pub decreases-bytes : goal.decreases-bytes
decreases-bytes l = length l.marks

use Rattle.std.proofs.Common.{◌≡◌, ◌+◌, ◌≤◌, length}
use Rattle.sh_files_image.specs.Fields.{newlines}
use Rattle.sh_files_image.proofs.fields.count_newlines.Given as goal

abbrev pub invariant-bytes : goal.invariant-bytes
invariant-bytes l = record { counted : l.count + newlines l.rest ≡ newlines l.bytes; within : l.count + length l.rest ≤ length l.bytes }

abbrev pub decreases-bytes : goal.decreases-bytes
decreases-bytes l = length l.rest

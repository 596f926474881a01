use Rattle.std.proofs.Common.{◌≡◌, ◌≤◌, length}
use Rattle.sh_files.specs.Image.{entries}
use Rattle.sh_files.proofs.files.Files.add_entries.Given as goal

abbrev pub invariant-lines : goal.invariant-lines
invariant-lines l = record { same : entries l.fn.self 0 l.bytes ≡ entries l.self 0 l.rest; within : length l.rest ≤ length l.bytes }

abbrev pub decreases-lines : goal.decreases-lines
decreases-lines l = length l.rest

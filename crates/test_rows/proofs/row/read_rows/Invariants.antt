use Rattle.std.proofs.Common.{length}
use Rattle.test_rows.proofs.row.read_rows.Given as goal

abbrev pub decreases-lines : goal.decreases-lines
decreases-lines l = length l.rest

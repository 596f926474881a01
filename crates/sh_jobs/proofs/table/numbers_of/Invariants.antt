use Rattle.std.proofs.Common.{◌≡◌, [], length}
use Rattle.sh_jobs.specs.Table.{with_numbers}
use Rattle.sh_jobs.proofs.table.numbers_of.Given as goal

abbrev pub invariant-jobs : goal.invariant-jobs
invariant-jobs l = with_numbers l.numbers.items l.rest ≡ with_numbers [] l.jobs

abbrev pub decreases-jobs : goal.decreases-jobs
decreases-jobs l = length l.rest

use Rattle.std.proofs.Common.{◌≡◌, ◌+◌, ◌<◌, ◌≤◌, ℕ, false, get_or, length}
use Rattle.std.specs.Prelude.{◌||◌}
use Rattle.sh_jobs.specs.Table.{is_taken}
use Rattle.sh_jobs.proofs.marks.marks_of.Given as goal

abbrev pub invariant-jobs : goal.invariant-jobs
invariant-jobs l = record {
  enough : length l.jobs + 1 ≤ length l.marks.items;
  marked : (k : ℕ) → k < length l.marks.items → (get_or l.marks.items k false || is_taken l.rest k) ≡ is_taken l.jobs k;
}

abbrev pub decreases-jobs : goal.decreases-jobs
decreases-jobs l = length l.rest

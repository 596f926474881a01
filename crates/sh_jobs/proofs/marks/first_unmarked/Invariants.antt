use Rattle.std.proofs.Common.{◌≡◌, ◌-◌, ◌<◌, ◌≤◌, ℕ, true, false, get_or, length}
use Rattle.sh_jobs.proofs.marks.first_unmarked.Given as goal

abbrev pub invariant-loop-number : goal.invariant-loop-number
invariant-loop-number l = record {
  from : l.from ≤ l.number;
  marked : (k : ℕ) → l.from ≤ k → k < l.number → get_or l.marks k false ≡ true;
  bound : l.from ≤ length l.marks → l.number ≤ length l.marks;
}

abbrev pub decreases-loop-number : goal.decreases-loop-number
decreases-loop-number l = length l.marks - l.number

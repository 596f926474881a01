use Rattle.std.proofs.Common.{ℕ, length, ◌<◌, ◌≤◌}
use Rattle.sh_pattern.specs.Match.{Matches, prefix}
use Rattle.sh_pattern.proofs.part.longest_front.Given as goal

abbrev pub invariant-loop-n : goal.invariant-loop-n
invariant-loop-n l = record { within : l.n ≤ length l.text; none : (m : ℕ) → l.n < m → m ≤ length l.text → Matches l.pattern (prefix l.text m) → ⊥ }

abbrev pub decreases-loop-n : goal.decreases-loop-n
decreases-loop-n l = l.n

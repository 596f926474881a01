use Rattle.std.proofs.Common.{ℕ, length, ◌<◌, ◌≤◌}
use Rattle.sh_pattern.specs.Match.{Matches, suffix}
use Rattle.sh_pattern.proofs.part.longest_back.Given as goal

abbrev pub invariant-loop-bytes : goal.invariant-loop-bytes
invariant-loop-bytes l = record { within : l.bytes ≤ length l.text; none : (m : ℕ) → l.bytes < m → m ≤ length l.text → Matches l.pattern (suffix l.text m) → ⊥ }

abbrev pub decreases-loop-bytes : goal.decreases-loop-bytes
decreases-loop-bytes l = l.bytes

use Rattle.std.proofs.Common.{ℕ, length, ◌-◌, ◌<◌, ◌≤◌}
use Rattle.sh_pattern.specs.Match.{Matches, prefix}
use Rattle.sh_pattern.proofs.part.shortest_front.Given as goal

abbrev pub invariant-loop-n : goal.invariant-loop-n
invariant-loop-n l = record { within : l.n ≤ length l.text; none : (m : ℕ) → m < l.n → Matches l.pattern (prefix l.text m) → ⊥ }

abbrev pub decreases-loop-n : goal.decreases-loop-n
decreases-loop-n l = length l.text - l.n

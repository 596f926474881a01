use Rattle.std.proofs.Common.{◌≡◌, ◌+◌, ◌≤◌, length}
use Rattle.sh_pattern.specs.Items.{letters}
use Rattle.sh_pattern.proofs.item.count_letters.Given as goal

abbrev pub invariant-letters : goal.invariant-letters
invariant-letters l = record { counted : letters l.marks + length l.rest ≡ length l.marks + letters l.rest; within : length l.rest ≤ length l.marks }

abbrev pub decreases-letters : goal.decreases-letters
decreases-letters l = length l.rest

use Rattle.std.proofs.Common.{◌≡◌, ◌-◌, ◌≤◌, length, drop}
use Rattle.sh_pattern.specs.Items.{some_has}
use Rattle.sh_pattern.proofs.item.has_from.Given as goal

abbrev pub invariant-items : goal.invariant-items
invariant-items l = record { within : l.at ≤ length l.marks; same : some_has l.skip l.marks l.byte ≡ some_has 0 (drop l.at l.marks) l.byte }

abbrev pub decreases-items : goal.decreases-items
decreases-items l = length l.marks - l.at

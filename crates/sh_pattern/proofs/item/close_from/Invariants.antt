use Rattle.std.proofs.Common.{◌≡◌, ◌+◌, ◌-◌, ◌≤◌, length, drop}
use Rattle.std.specs.Prelude.{option_map}
use Rattle.sh_pattern.specs.Items.{closing}
use Rattle.sh_pattern.proofs.item.close_from.Given as goal

abbrev pub invariant-items : goal.invariant-items
invariant-items l = record { within : l.at ≤ length l.marks; same : closing l.skip l.marks ≡ option_map (λ n. l.at + n) (closing 0 (drop l.at l.marks)) }

abbrev pub decreases-items : goal.decreases-items
decreases-items l = length l.marks - l.at

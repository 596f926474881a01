use Rattle.std.proofs.Common.{◌≡◌, ◌++◌, length}
use Rattle.test_system.specs.Twice.{twice}
use Rattle.test_system.proofs.twice.twice.Given as goal

abbrev pub invariant-bytes : goal.invariant-bytes
invariant-bytes l = l.doubled.items ++ twice l.rest ≡ twice l.bytes

abbrev pub decreases-bytes : goal.decreases-bytes
decreases-bytes l = length l.rest

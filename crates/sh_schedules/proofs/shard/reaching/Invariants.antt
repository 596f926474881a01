use Rattle.std.proofs.Common.{◌≡◌, ◌++◌, length}
use Rattle.sh_schedules.specs.Shards.{reaching}
use Rattle.sh_schedules.proofs.shard.reaching.Given as goal

abbrev pub invariant-places : goal.invariant-places
invariant-places l = l.kept.items ++ reaching l.shard l.mark l.here l.rest ≡ reaching l.shard l.mark l.here l.places

abbrev pub decreases-places : goal.decreases-places
decreases-places l = length l.rest

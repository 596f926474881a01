use Rattle.std.proofs.Common.{◌≡◌, length}
use Rattle.sh_jobs.specs.Ids.{has_within}
use Rattle.sh_jobs.proofs.ids.has_within.Given as goal

abbrev pub invariant-bytes : goal.invariant-bytes
invariant-bytes l = has_within l.part l.rest ≡ has_within l.part l.text

abbrev pub decreases-bytes : goal.decreases-bytes
decreases-bytes l = length l.rest

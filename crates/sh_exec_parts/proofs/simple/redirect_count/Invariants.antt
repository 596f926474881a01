use Rattle.std.proofs.Common.{◌≡◌, ◌≤◌, ◌+◌, length}
use Rattle.sh_exec_parts.specs.Simple.{redirects_of}
use Rattle.sh_exec_parts.proofs.simple.redirect_count.Given as goal

abbrev pub invariant-items : goal.invariant-items
invariant-items l = record { few : l.count + length l.rest ≤ length l.items; same : l.count + length (redirects_of l.rest) ≡ length (redirects_of l.items) }

abbrev pub decreases-items : goal.decreases-items
decreases-items l = length l.rest

use Rattle.std.proofs.Common.{◌≡◌, ◌++◌, length}
use Rattle.sh_builtin_environment.specs.Listing.{quoted_bytes}
use Rattle.sh_builtin_environment.proofs.listing.put_bytes.Given as goal

abbrev pub invariant-bytes : goal.invariant-bytes
invariant-bytes l = l.text ++ quoted_bytes l.rest ≡ l.fn.text ++ quoted_bytes l.value

abbrev pub decreases-bytes : goal.decreases-bytes
decreases-bytes l = length l.rest

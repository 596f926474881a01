use Rattle.std.proofs.Common.{◌≡◌, ◌++◌, length}
use Rattle.sh_builtin_environment.specs.Listing.{lines}
use Rattle.sh_builtin_environment.proofs.listing.lines.Given as goal

abbrev pub invariant-entries : goal.invariant-entries
invariant-entries l = l.text ++ lines l.how l.rest ≡ lines l.how l.entries

abbrev pub decreases-entries : goal.decreases-entries
decreases-entries l = length l.rest

use Rattle.std.proofs.Common.{◌≡◌, ◌++◌, length}
use Rattle.std.specs.Prelude.{map}
use Rattle.sh_exec_parts.specs.Simple.{redirect_wanted}
use Rattle.sh_exec_parts.proofs.compound.redirects_wanted.Given as goal

abbrev pub invariant-redirects : goal.invariant-redirects
invariant-redirects l = l.wanted ++ map redirect_wanted l.rest ≡ map redirect_wanted l.redirects

abbrev pub decreases-redirects : goal.decreases-redirects
decreases-redirects l = length l.rest

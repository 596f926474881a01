use Rattle.std.proofs.Common.{◌≡◌, ◌++◌, length}
use Rattle.sh_exec_parts.specs.Wants.{redirects_wanted}
use Rattle.sh_exec_parts.proofs.wanted.put_redirects.Given as goal

abbrev pub invariant-items : goal.invariant-items
invariant-items l = l.wanted ++ redirects_wanted l.rest ≡ l.initial.wanted ++ redirects_wanted l.items

abbrev pub decreases-items : goal.decreases-items
decreases-items l = length l.rest

use Rattle.std.proofs.Common.{◌≡◌, ◌++◌, length}
use Rattle.sh_exec_parts.specs.Redirections.{redirections_of}
use Rattle.sh_exec_parts.proofs.compound.redirections_of.Given as goal

abbrev pub invariant-redirects : goal.invariant-redirects
invariant-redirects l = l.done ++ redirections_of l.no_clobber l.rest l.left ≡ redirections_of l.no_clobber l.redirects l.fields

abbrev pub decreases-redirects : goal.decreases-redirects
decreases-redirects l = length l.rest

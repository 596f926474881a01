use Rattle.std.proofs.Common.{◌≡◌, ◌++◌, length}
use Rattle.sh_exec_parts.specs.Redirections.{redirections_of}
use Rattle.sh_exec_parts.specs.Simple.{redirects_of}
use Rattle.sh_exec_parts.proofs.redirection.prepared_redirections.Given as goal

abbrev pub invariant-items : goal.invariant-items
invariant-items l = l.done ++ redirections_of l.no_clobber (redirects_of l.rest) l.left ≡ redirections_of l.no_clobber (redirects_of l.items) l.fields

abbrev pub decreases-items : goal.decreases-items
decreases-items l = length l.rest

use Rattle.std.proofs.Common.{◌≡◌, length}
use Rattle.sh_builtin.specs.Aliases.{unaliased}
use Rattle.sh_builtin.proofs.aliases.remove_all.Given as goal

abbrev pub invariant-names : goal.invariant-names
invariant-names l = unaliased l.aliases l.status l.rest ≡ unaliased l.fn.aliases 0 l.names

abbrev pub decreases-names : goal.decreases-names
decreases-names l = length l.rest

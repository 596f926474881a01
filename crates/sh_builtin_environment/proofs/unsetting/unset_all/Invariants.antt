use Rattle.std.proofs.Common.{◌≡◌, length}
use Rattle.sh_builtin_environment.specs.Unsetting.{unset_all}
use Rattle.sh_builtin_environment.proofs.unsetting.unset_all.Given as goal

abbrev pub invariant-names : goal.invariant-names
invariant-names l = unset_all l.functions l.vars l.rest ≡ unset_all l.functions l.fn.vars l.names

abbrev pub decreases-names : goal.decreases-names
decreases-names l = length l.rest

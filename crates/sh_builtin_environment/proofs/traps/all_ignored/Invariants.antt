use Rattle.std.proofs.Common.{◌≡◌, ◌++◌, length}
use Rattle.sh_builtin_environment.specs.TrapMaps.{in_subshell}
use Rattle.sh_builtin_environment.proofs.traps.all_ignored.Given as goal

abbrev pub invariant-actions : goal.invariant-actions
invariant-actions l = l.left.items ++ in_subshell l.rest ≡ in_subshell l.actions

abbrev pub decreases-actions : goal.decreases-actions
decreases-actions l = length l.rest

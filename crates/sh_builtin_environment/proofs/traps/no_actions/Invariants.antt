use Rattle.std.proofs.Common.{◌≡◌, replicate, None}
use Rattle.sh_builtin_environment.proofs.traps.no_actions.Given as goal

abbrev pub invariant-numbers : goal.invariant-numbers
invariant-numbers l = l.actions.items ≡ replicate l.counter None

use Rattle.std.proofs.Common.{◌≡◌, take}
use Rattle.sh_builtin_environment.proofs.traps.copies.Given as goal

abbrev pub invariant-loop-action : goal.invariant-loop-action
invariant-loop-action l = l.copies.items ≡ take l.action-index l.actions

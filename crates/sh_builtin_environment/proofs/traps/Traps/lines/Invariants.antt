use Rattle.std.proofs.Common.{◌≡◌, ◌++◌, length}
use Rattle.sh_builtin_environment.specs.TrapMaps.{lines}
use Rattle.sh_builtin_environment.proofs.traps.Traps.lines.Given as goal

abbrev pub invariant-conditions : goal.invariant-conditions
invariant-conditions l = l.text ++ lines l.self l.rest ≡ lines l.self l.conditions

abbrev pub decreases-conditions : goal.decreases-conditions
decreases-conditions l = length l.rest

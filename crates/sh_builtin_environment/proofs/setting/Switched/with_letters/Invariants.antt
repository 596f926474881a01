use Rattle.std.proofs.Common.{◌≡◌, length}
use Rattle.sh_builtin_environment.specs.Setting.{letters_switched}
use Rattle.sh_builtin_environment.proofs.setting.Switched.with_letters.Given as goal

abbrev pub invariant-letters : goal.invariant-letters
invariant-letters l = letters_switched l.on l.state l.rest ≡ letters_switched l.on l.fn.self l.letters

abbrev pub decreases-letters : goal.decreases-letters
decreases-letters l = length l.rest

use Rattle.std.proofs.Common.{◌≡◌, length, option_map}
use Rattle.sh_builtin_environment.specs.Trapping.{none_changed, set_all}
use Rattle.sh_builtin_environment.proofs.trapping.set_all.Given as goal

abbrev pub invariant-words : goal.invariant-words
invariant-words l = set_all l.fixed (record { traps = l.traps; signals = l.signals }) (option_map (λ action. action.now) l.action) l.rest
    ≡ set_all l.fixed (none_changed l.fn.traps) (option_map (λ action. action.now) l.action) l.words

abbrev pub decreases-words : goal.decreases-words
decreases-words l = length l.rest

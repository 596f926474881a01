use Rattle.std.proofs.Common.{◌≡◌, length}
use Rattle.sh_builtin_environment.specs.Setting.{no_name_awaited, set_from}
use Rattle.sh_builtin_environment.proofs.setting.read_words.Given as goal

abbrev pub invariant-words : goal.invariant-words
invariant-words l = set_from l.state l.rest ≡ set_from (no_name_awaited l.fn.options) l.arguments

abbrev pub decreases-words : goal.decreases-words
decreases-words l = length l.rest

use Rattle.std.proofs.Common.{◌≡◌}
use Rattle.sh_builtin_jobs.specs.SignalWords.{lines_below}
use Rattle.sh_builtin_jobs.proofs.names.lines_below.Given as goal

abbrev pub invariant-numbers : goal.invariant-numbers
invariant-numbers l = l.text ≡ lines_below l.number

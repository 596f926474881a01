use Rattle.std.proofs.Common.{◌≡◌, ◌++◌, length}
use Rattle.sh_builtin_jobs.specs.Continuing.{background_lines}
use Rattle.sh_builtin_jobs.proofs.continuing.background_lines.Given as goal

abbrev pub invariant-numbers : goal.invariant-numbers
invariant-numbers l = l.lines ++ background_lines l.jobs l.rest ≡ background_lines l.jobs l.numbers

abbrev pub decreases-numbers : goal.decreases-numbers
decreases-numbers l = length l.rest

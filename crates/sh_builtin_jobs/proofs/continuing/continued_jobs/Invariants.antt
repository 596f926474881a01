use Rattle.std.proofs.Common.{◌≡◌, ◌++◌, length}
use Rattle.sh_builtin_jobs.specs.Continuing.{continued_jobs}
use Rattle.sh_builtin_jobs.proofs.continuing.continued_jobs.Given as goal

abbrev pub invariant-numbers : goal.invariant-numbers
invariant-numbers l = l.those ++ continued_jobs l.jobs l.rest ≡ continued_jobs l.jobs l.numbers

abbrev pub decreases-numbers : goal.decreases-numbers
decreases-numbers l = length l.rest

use Rattle.std.proofs.Common.{◌≡◌, ◌++◌, length}
use Rattle.sh_jobs.specs.State.{KernelState, StandsAt}
use Rattle.sh_builtin_jobs.specs.JobWords.{numbers_named}
use Rattle.sh_builtin_jobs.proofs.job_word.numbers_named.Given as goal

abbrev pub invariant-ids : goal.invariant-ids
invariant-ids l =
    (s : KernelState) → StandsAt l.kernel s
    → l.numbers ++ numbers_named l.wanted s.machine.processes l.jobs l.rest ≡ numbers_named l.wanted s.machine.processes l.jobs l.ids

abbrev pub decreases-ids : goal.decreases-ids
decreases-ids l = length l.rest

use Rattle.std.proofs.Common.{◌≡◌, ◌++◌, length}
use Rattle.sh_jobs.specs.State.{KernelState, StandsAt}
use Rattle.sh_builtin_jobs.specs.Listing.{job_lines}
use Rattle.sh_builtin_jobs.proofs.listing.job_lines.Given as goal

abbrev pub invariant-numbers : goal.invariant-numbers
invariant-numbers l =
    (s : KernelState) → StandsAt l.kernel s
    → l.lines ++ job_lines s.machine.processes l.jobs l.form l.rest ≡ job_lines s.machine.processes l.jobs l.form l.numbers

abbrev pub decreases-numbers : goal.decreases-numbers
decreases-numbers l = length l.rest

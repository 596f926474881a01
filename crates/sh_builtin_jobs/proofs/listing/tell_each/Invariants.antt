use Rattle.std.proofs.Common.{◌≡◌, length}
use Rattle.sh_jobs.specs.State.{KernelState, StandsAt}
use Rattle.sh_builtin_jobs.specs.Listing.{told_of_each}
use Rattle.sh_builtin_jobs.proofs.listing.tell_each.Given as goal

abbrev pub invariant-numbers : goal.invariant-numbers
invariant-numbers l =
    (s : KernelState) → StandsAt l.kernel s
    → told_of_each s.machine.processes l.jobs l.rest ≡ told_of_each s.machine.processes l.fn.jobs l.numbers

abbrev pub decreases-numbers : goal.decreases-numbers
decreases-numbers l = length l.rest

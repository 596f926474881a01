use Rattle.std.proofs.Common.{◌≡◌, ◌++◌, length}
use Rattle.sh_jobs.specs.State.{KernelState, StandsAt}
use Rattle.sh_builtin_jobs.specs.JobWords.{messages_named}
use Rattle.sh_builtin_jobs.proofs.job_word.messages_named.Given as goal

abbrev pub invariant-ids : goal.invariant-ids
invariant-ids l =
    (s : KernelState) → StandsAt l.kernel s
    → l.messages ++ messages_named l.name l.wanted s.machine.processes l.jobs l.rest
    ≡ messages_named l.name l.wanted s.machine.processes l.jobs l.ids

abbrev pub decreases-ids : goal.decreases-ids
decreases-ids l = length l.rest

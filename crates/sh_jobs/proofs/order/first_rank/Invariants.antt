use Rattle.std.proofs.Common.{◌≡◌, length, map}
use Rattle.std.specs.Prelude.{filter}
use Rattle.sh_kernel.specs.State.{KernelState, StandsAt}
use Rattle.sh_jobs.specs.Order.{best, first_of_two, is_kept, rank_of}
use Rattle.sh_jobs.proofs.Best.{among}
use Rattle.sh_jobs.proofs.order.first_rank.Given as goal

abbrev pub invariant-jobs : goal.invariant-jobs
invariant-jobs l =
    (s : KernelState) → StandsAt l.kernel s
    → among first_of_two (rank_of s.machine.processes) (is_kept l.left_out) l.first l.rest
    ≡ best first_of_two (map (rank_of s.machine.processes) (filter (is_kept l.left_out) l.jobs))

abbrev pub decreases-jobs : goal.decreases-jobs
decreases-jobs l = length l.rest

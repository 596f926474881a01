use Rattle.sh_jobs.specs.Order.{best, first_of_two, is_kept, rank_of}
use Rattle.std.proofs.Common.{map}
use Rattle.std.specs.Prelude.{filter}
use Rattle.sh_jobs.proofs.Best.{one_more}
use Rattle.sh_jobs.proofs.order.first_rank.Goals as goal

pub jobs-preserved : goal.jobs-preserved
jobs-preserved c = λ s h.
    one_more first_of_two (rank_of s.machine.processes) (is_kept c.args.left_out) c.jobs.first c.with_job-first.result
    (best first_of_two (map (rank_of s.machine.processes) (filter (is_kept c.args.left_out) c.args.jobs.now)))
    c.jobs.rest.now c.in-Some.others.now c.in-Some.job.now c.in-Some.ensures.cases.0 (c.with_job-first.ensures s h) (c.jobs.invariant s h)

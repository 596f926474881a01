use Rattle.sh_jobs.specs.News.{has_changed, lesser, next_changed}
use Rattle.sh_jobs.proofs.Best.{one_more}
use Rattle.sh_jobs.proofs.news.next_changed.Goals as goal

pub jobs-preserved : goal.jobs-preserved
jobs-preserved c = λ s h.
    one_more lesser (λ job. job.number) (has_changed s.machine.processes) c.jobs.least c.with_job-least.result
    (next_changed s.machine.processes c.args.jobs.now)
    c.jobs.rest.now c.in-Some.others.now c.in-Some.job.now c.in-Some.ensures.cases.0 (c.with_job-least.ensures s h) (c.jobs.invariant s h)

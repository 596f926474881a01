use Rattle.std.proofs.Common.{◌∙◌, ap, get_or, set}
use Rattle.std.proofs.lemmas.List.Edits.{map_over_more}
use Rattle.sh_jobs.specs.Table.{job_after_telling}
use Rattle.sh_jobs.proofs.table.tell.Goals as goal

pub loop-job-preserved : goal.loop-job-preserved
loop-job-preserved c =
    ap (λ job. set c.loop-job.jobs c.loop-job.job-index job) c.tell.ensures
    ∙ map_over_more (job_after_telling c.args.number c.args.state) c.args.jobs.now c.loop-job.jobs c.loop-job.job-index (get_or c.loop-job.jobs c.loop-job.job-index c.job-item.result)
    c.loop-job-test.true c.loop-job.invariant (ap (λ job. get_or c.loop-job.jobs c.loop-job.job-index job) c.job-item.is)

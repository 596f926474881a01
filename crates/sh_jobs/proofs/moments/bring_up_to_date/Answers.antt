use Rattle.std.proofs.Common.{◌∙◌, ap, get_or, set, sym, arith}
use Rattle.std.proofs.lemmas.List.Edits.{map_over_more}
use Rattle.sh_jobs.specs.Moments.{job_brought_up}
use Rattle.sh_jobs.specs.declared.job.Job.{Job}
use Rattle.sh_jobs.proofs.Marked.{taken_set}
use Rattle.sh_jobs.proofs.moments.bring_up_to_date.Goals as goal

pub loop-job-preserved : goal.loop-job-preserved
loop-job-preserved c = record {
  changed = λ s h.
      ap (λ job. set c.loop-job.jobs c.loop-job.job-index job) (c.bring_one_up.ensures.changed s h)
      ∙ map_over_more (job_brought_up s.changes) c.args.jobs.now c.loop-job.jobs c.loop-job.job-index (get_or c.loop-job.jobs c.loop-job.job-index c.job-item.result)
      c.loop-job-test.true (c.loop-job.invariant.changed s h) (ap (λ job. get_or c.loop-job.jobs c.loop-job.job-index job) c.job-item.is);
  numbers = λ k.
      taken_set c.loop-job.jobs c.loop-job.job-index c.job-item.result c.bring_one_up.new.job k (omega arith) (sym c.job-item.is)
      (c.bring_one_up.ensures.number ∙ ap (λ (job : Job). job.number) (sym c.job-item.is))
      ∙ c.loop-job.invariant.numbers k;
}

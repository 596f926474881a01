use Rattle.sh_jobs.specs.Table.{job_after_note}
use Rattle.sh_jobs.proofs.Apart.{noted_keeps}
use Rattle.sh_jobs.proofs.Marked.{mapped_marked, written_marked}
use Rattle.sh_jobs.proofs.jobs.Jobs.note.Goals as goal

pub invariant_of-self : goal.invariant_of-self
invariant_of-self c =
    written_marked _ _ _ _ c.self.inside.jobs.len _ _ c.note.auto.jobs c.as_mut_slice.ensures.len c.note.ensures
    (rw c.as_mut_slice.ensures.value (mapped_marked (job_after_note c.args.pid c.args.event) (noted_keeps c.args.pid c.args.event) _ _ _ c.self.invariant))
